-- What stands before a fault is a front of a rule for lists.
use Rattle.std.proofs.Common.{◌≡◌, ℕ, zero, suc, ◌+◌, ◌⊎◌, inl, inr, List, [], ◌∷◌, ◌++◌, length, Bool, true, false, cond, refl, sym, ap, subst, ◌∙◌, append_assoc, length-append, arith}
use Rattle.ns_tree.specs.declared.token.Kind.{Kind}
use Rattle.ns_tree.specs.Rule.{Rule, many, flat_all, GoodAll, Listed, none, last, listed, flat_items, GoodItems}
use Rattle.ns_tree.specs.Tree.{AllHaveText}
use Rattle.ns_parse_tokens.specs.Read.{Outcome, Reader, got, fault, and_then, begins, read_turns, read_many, put, read_listed, read_list_turns, behind, put_next}
use Rattle.ns_parse_tokens.specs.laws.Sound.{Took, Spelled, left_told}
use Rattle.ns_parse_tokens.specs.laws.SoundLists.{some, sound_many, sound_some, sound_listed}
use Rattle.ns_parse.proofs.Halts.{Fault, Stopped, Halts, HaltsIf, fault_leads, stopped_leads, stopped_value, stopped_test}

-- ---- any number of times

module _ {A : Type 0} (r : Rule A) where
  abbrev Ends : ℕ → List A → List Kind → Type 0
  Ends n xs g = (g ≡ []) ⊎ r.Front (n + length (flat_all r xs)) g

  pub first_leads : (n : ℕ) (f : List Kind) → r.Front n f → (many r).Front n f
  first_leads n f h = ([], f, tt, inr (subst (λ i. r.Front i f) (omega arith) h), refl)

  more_ends : (n : ℕ) (a : A) (m : ℕ) (xs : List A) (g : List Kind) → m ≡ n + length (r.flat a) → Ends m xs g → Ends n (a ∷ xs) g
  more_ends n a m xs g e (inl h) = inl h
  more_ends n a m xs g e (inr h) = inr (subst (λ i. r.Front i g) (omega (arith, e, length-append (r.flat a) (flat_all r xs))) h)

  -- a value, and then values
  pub many_front : (n : ℕ) (a : A) (m : ℕ) (f : List Kind) → r.Good n a → m ≡ n + length (r.flat a) → (many r).Front m f → (many r).Front n (r.flat a ++ f)
  many_front n a m f good e (xs, g, goods, ends, cut) =
      (a ∷ xs, g, (good, subst (λ i. GoodAll r i xs) e goods), more_ends n a m xs g e ends, ap (λ w. r.flat a ++ w) cut ∙ sym (append_assoc (r.flat a) (flat_all r xs) g))

  more_fault : (n : ℕ) (ts : List Kind) (a : A) (m : ℕ) (us : List Kind) (k : ℕ) → Took r n ts a m us → Fault (many r) m us k → Fault (many r) n ts k
  more_fault n ts a m us k t x = record {
    front = r.flat a ++ x.front;
    rest = x.rest;
    is_front = many_front n a m x.front t.good t.behind x.is_front;
    cut = t.spelled ∙ ap (λ w. r.flat a ++ w) x.cut ∙ sym (append_assoc (r.flat a) x.front x.rest);
    place = omega (arith, t.behind, x.place, length-append (r.flat a) x.front);
  }

  more_stopped : {C : Type 0} (n : ℕ) (ts : List Kind) (a : A) (m : ℕ) (us : List Kind) (o : Outcome C) → Took r n ts a m us → Stopped (many r) m us o → Stopped (many r) n ts o
  more_stopped n ts a m us (got c l vs) t h = tt
  more_stopped n ts a m us (fault k) t h = more_fault n ts a m us k t h

  -- one at least
  some_front : ((n : ℕ) → r.Front n []) → (n : ℕ) (f : List Kind) → (many r).Front n f → (some r).Front n f
  some_front nothing n f ([], g, goods, inl h, cut) = inl (subst (r.Front n) (sym (cut ∙ h)) (nothing n))
  some_front nothing n f ([], g, goods, inr h, cut) = inl (subst (r.Front n) (sym cut) (subst (λ i. r.Front i g) (omega arith) h))
  some_front nothing n f (a ∷ xs, g, goods, ends, cut) =
      inr (a, flat_all r xs ++ g, goods.0, (xs, g, goods.1, less_ends ends, refl), cut ∙ append_assoc (r.flat a) (flat_all r xs) g)
    where
      less_ends : Ends n (a ∷ xs) g → Ends (n + length (r.flat a)) xs g
      less_ends (inl h) = inl h
      less_ends (inr h) = inr (subst (λ i. r.Front i g) (omega (arith, length-append (r.flat a) (flat_all r xs))) h)

module _ {A : Type 0} (first : Kind → Bool) (p : Reader A) (r : Rule A) (P : Halts p r) where
  then_turns : (t n : ℕ) (ts : List Kind) → AllHaveText ts → ((m : ℕ) (us : List Kind) → AllHaveText us → Stopped (many r) m us (read_turns first p t m us)) → (o : Outcome A) → Spelled r n ts o → Stopped r n ts o
      → Stopped (many r) n ts (and_then o (λ a m us. and_then (read_turns first p t m us) (put first p a)))
  then_turns t n ts told after (got a m us) s h = more_stopped r n ts a m us (and_then (read_turns first p t m us) (put first p a)) s (stopped_value (many r) m us (read_turns first p t m us) (λ xs. a ∷ xs) (after m us (left_told r n ts a m us s told)))
  then_turns t n ts told after (fault k) s h = fault_leads r (many r) (first_leads r) n ts k h

  turns_stop : (t n : ℕ) (ts : List Kind) → AllHaveText ts → Stopped (many r) n ts (read_turns first p t n ts)
  turns_stop zero n ts told = tt
  turns_stop (suc t) n ts told =
      stopped_test (many r) n ts (begins first ts) (and_then (p n ts) (λ a m us. and_then (read_turns first p t m us) (put first p a))) (got [] n ts) (then_turns t n ts told (turns_stop t) (p n ts) (P.sound.reads n ts told) (P.stops n ts told)) tt

pub halts_many : {A : Type 0} {p : Reader A} {r : Rule A} (first : Kind → Bool) → Halts p r → Halts (read_many first p) (many r)
halts_many {p = p} {r = r} first P = record { sound = sound_many first P.sound; stops = λ n ts told. turns_stop first p r P (length ts) n ts told }

pub halts_some : {A : Type 0} {p : Reader A} {r : Rule A} (first : Kind → Bool) → ((n : ℕ) → r.Front n []) → Halts p r → HaltsIf first (read_many first p) (some r)
halts_some {p = p} {r = r} first nothing P = record { sound = sound_some first P.sound; stops = λ n ts e told. stopped_leads (many r) (some r) (some_front r nothing) n ts (read_many first p n ts) (turns_stop first p r P (length ts) n ts told) }

-- ---- with separators

module _ {A : Type 0} (first separates : Kind → Bool) (p : Reader A) (r : Rule A) (kind : Kind) (S : (k : Kind) → separates k ≡ true → k ≡ kind) (P : Halts p r) where
  abbrev turns : ℕ → Reader (Listed A)
  turns = read_list_turns first separates p

  item_leads : (n : ℕ) (f : List Kind) → r.Front n f → (listed r kind).Front n f
  item_leads n f h = ([], f, tt, inr (subst (λ i. r.Front i f) (omega arith) h), refl)

  next_ends : (n : ℕ) (a : A) (m : ℕ) (xs : List A) (g : List Kind) → m ≡ n + length (r.flat a) → (g ≡ []) ⊎ r.Front (m + 1 + length (flat_items r kind xs)) g → (g ≡ []) ⊎ r.Front (n + length (flat_items r kind (a ∷ xs))) g
  next_ends n a m xs g e (inl h) = inl h
  next_ends n a m xs g e (inr h) = inr (subst (λ i. r.Front i g) (omega (arith, e, length-append (r.flat a) (kind ∷ flat_items r kind xs))) h)

  next_front : (n : ℕ) (a : A) (m : ℕ) (f : List Kind) → r.Good n a → m ≡ n + length (r.flat a) → (listed r kind).Front (m + 1) f → (listed r kind).Front n (r.flat a ++ kind ∷ f)
  next_front n a m f good e (xs, g, goods, ends, cut) =
      (a ∷ xs, g, (good, subst (λ i. GoodItems r kind (i + 1) xs) e goods), next_ends n a m xs g e ends, ap (λ w. r.flat a ++ kind ∷ w) cut ∙ sym (append_assoc (r.flat a) (kind ∷ flat_items r kind xs) g))

  next_stopped : (n : ℕ) (ts : List Kind) (a : A) (m : ℕ) (us : List Kind) (o : Outcome (Listed A)) → Took r n ts a m (kind ∷ us) → Stopped (listed r kind) (m + 1) us o → Stopped (listed r kind) n ts (and_then o (put_next first separates p a))
  next_stopped n ts a m us (got l i vs) t h = tt
  next_stopped n ts a m us (fault k) t x = record {
    front = r.flat a ++ kind ∷ x.front;
    rest = x.rest;
    is_front = next_front n a m x.front t.good t.behind x.is_front;
    cut = t.spelled ∙ ap (λ w. r.flat a ++ kind ∷ w) x.cut ∙ sym (append_assoc (r.flat a) (kind ∷ x.front) x.rest);
    place = omega (arith, t.behind, x.place, length-append (r.flat a) (kind ∷ x.front));
  }

  separated : (t n : ℕ) (ts : List Kind) (a : A) (m : ℕ) (k : Kind) (us : List Kind) → Took r n ts a m (k ∷ us) → ((i : ℕ) → Stopped (listed r kind) i us (turns t i us)) → (test : Bool) → separates k ≡ test
      → Stopped (listed r kind) n ts (cond test (and_then (turns t (m + 1) us) (put_next first separates p a)) (got (last a) m (k ∷ us)))
  separated t n ts a m k us w after true e = next_stopped n ts a m us (turns t (m + 1) us) (subst (λ j. Took r n ts a m (j ∷ us)) (S k e) w) (after (m + 1))
  separated t n ts a m k us w after false e = tt

  behind_stopped : (t n : ℕ) (ts : List Kind) (a : A) (m : ℕ) (us : List Kind) → AllHaveText us → Took r n ts a m us → ((i : ℕ) (vs : List Kind) → AllHaveText vs → Stopped (listed r kind) i vs (turns t i vs)) → Stopped (listed r kind) n ts (behind first separates p (turns t) a m us)
  behind_stopped t n ts a m [] told w after = tt
  behind_stopped t n ts a m (k ∷ us) told w after = separated t n ts a m k us w (λ i. after i us told.1) (separates k) refl

  item_stopped : (t n : ℕ) (ts : List Kind) → AllHaveText ts → ((i : ℕ) (vs : List Kind) → AllHaveText vs → Stopped (listed r kind) i vs (turns t i vs)) → (o : Outcome A) → Spelled r n ts o → Stopped r n ts o → Stopped (listed r kind) n ts (and_then o (behind first separates p (turns t)))
  item_stopped t n ts told after (got a m us) s h = behind_stopped t n ts a m us (left_told r n ts a m us s told) s after
  item_stopped t n ts told after (fault k) s h = fault_leads r (listed r kind) item_leads n ts k h

  list_stops : (t n : ℕ) (ts : List Kind) → AllHaveText ts → Stopped (listed r kind) n ts (turns t n ts)
  list_stops zero n ts told = tt
  list_stops (suc t) n ts told = stopped_test (listed r kind) n ts (begins first ts) (and_then (p n ts) (behind first separates p (turns t))) (got none n ts) (item_stopped t n ts told (list_stops t) (p n ts) (P.sound.reads n ts told) (P.stops n ts told)) tt

pub halts_listed : {A : Type 0} {p : Reader A} {r : Rule A} (first separates : Kind → Bool) (kind : Kind) → ((k : Kind) → separates k ≡ true → k ≡ kind) → Halts p r → Halts (read_listed first separates p) (listed r kind)
halts_listed {p = p} {r = r} first separates kind S P = record { sound = sound_listed first separates kind S P.sound; stops = λ n ts told. list_stops first separates p r kind S P (length ts) n ts told }
