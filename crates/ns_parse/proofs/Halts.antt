-- What stands before a fault is a front of the rule: a law for each way in which readers are put together.
use Rattle.std.proofs.Common.{◌≡◌, ℕ, ◌+◌, inl, inr, List, [], ◌∷◌, ◌++◌, length, Option, Some, None, Bool, true, false, cond, refl, sym, ap, subst, ◌∙◌, append_assoc, length-append, arith}
use Rattle.ns_tree.specs.declared.token.Kind.{Kind}
use Rattle.ns_tree.specs.Rule.{Rule, token, ◌&◌, maybe, mapped, flat_from, GoodFrom, placed, ◌▸◌, ◌◂◌}
use Rattle.ns_tree.specs.Tree.{AllHaveText}
use Rattle.ns_parse_tokens.specs.Read.{Outcome, Reader, got, fault, and_then, taken, read_one, begins, read_none, read_never, read_mapped, read_both, read_after, read_until, read_placed, read_or, read_maybe}
use Rattle.ns_parse_tokens.specs.laws.Sound.{Took, Spelled, Sound, SoundIf, Becomes, left_told, sound_none, sound_never, sound_mapped, if_mapped, sound_same, if_same, sound_both, sound_after, sound_until, if_until, sound_placed, sound_or, sound_or_if}

-- The tokens before token k, where the first has the number n, are a front of the rule.
pub record Fault {A : Type 0} (r : Rule A) (n : ℕ) (ts : List Kind) (k : ℕ) : Type 0 where
  pub front : List Kind
  pub rest : List Kind
  pub is_front : r.Front n front
  pub cut : ts ≡ front ++ rest
  pub place : k ≡ n + length front

-- The same, if the outcome is a fault.
abbrev pub Stopped : {A B : Type 0} → Rule A → ℕ → List Kind → Outcome B → Type 0
Stopped r n ts (got b m us) = Unit {0}
Stopped r n ts (fault k) = Fault r n ts k

-- Of tokens that have texts the reader reads values of the rule, and stops behind a front of it.
pub record Halts {A : Type 0} (p : Reader A) (r : Rule A) : Type 0 where
  pub sound : Sound p r
  pub stops : (n : ℕ) (ts : List Kind) → AllHaveText ts → Stopped r n ts (p n ts)

-- The same, but that it reads values of the rule where the first token passes a test.
pub record HaltsIf {A : Type 0} (first : Kind → Bool) (p : Reader A) (r : Rule A) : Type 0 where
  pub sound : SoundIf first p r
  pub stops : (n : ℕ) (ts : List Kind) → begins first ts ≡ true → AllHaveText ts → Stopped r n ts (p n ts)

-- Fronts of one rule are fronts of another.
abbrev pub Leads : {A B : Type 0} → Rule A → Rule B → Type 0
Leads r s = (n : ℕ) (f : List Kind) → r.Front n f → s.Front n f

-- ---- outcomes

pub fault_leads : {A B : Type 0} (r : Rule A) (s : Rule B) → Leads r s → (n : ℕ) (ts : List Kind) (k : ℕ) → Fault r n ts k → Fault s n ts k
fault_leads r s L n ts k x = record { front = x.front; rest = x.rest; is_front = L n x.front x.is_front; cut = x.cut; place = x.place }

pub stopped_leads : {A B C : Type 0} (r : Rule A) (s : Rule B) → Leads r s → (n : ℕ) (ts : List Kind) (o : Outcome C) → Stopped r n ts o → Stopped s n ts o
stopped_leads r s L n ts (got a m us) h = tt
stopped_leads r s L n ts (fault k) h = fault_leads r s L n ts k h

pub stopped_value : {A B C : Type 0} (r : Rule A) (n : ℕ) (ts : List Kind) (o : Outcome B) (to : B → C) → Stopped r n ts o → Stopped r n ts (and_then o (λ b m us. got (to b) m us))
stopped_value r n ts (got a m us) to h = tt
stopped_value r n ts (fault k) to h = h

pub stopped_if : {A B : Type 0} (r : Rule A) (n : ℕ) (ts : List Kind) (test : Bool) (o o' : Outcome B) → (test ≡ true → Stopped r n ts o) → Stopped r n ts o' → Stopped r n ts (cond test o o')
stopped_if r n ts true o o' h h' = h refl
stopped_if r n ts false o o' h h' = h'

pub stopped_test : {A B : Type 0} (r : Rule A) (n : ℕ) (ts : List Kind) (test : Bool) (o o' : Outcome B) → Stopped r n ts o → Stopped r n ts o' → Stopped r n ts (cond test o o')
stopped_test r n ts true o o' h h' = h
stopped_test r n ts false o o' h h' = h'

-- nothing was read
pub at_once : {A : Type 0} (r : Rule A) (n : ℕ) (ts : List Kind) → r.Front n [] → Fault r n ts n
at_once r n ts nothing = record { front = []; rest = ts; is_front = nothing; cut = refl; place = omega arith }

module _ {A B : Type 0} (r : Rule A) (s : Rule B) where
  pub fault_behind : (n : ℕ) (ts : List Kind) (a : A) (m : ℕ) (us : List Kind) (k : ℕ) → Took r n ts a m us → Fault s m us k → Fault (r & s) n ts k
  fault_behind n ts a m us k t x = record {
    front = r.flat a ++ x.front;
    rest = x.rest;
    is_front = inr (a, x.front, t.good, subst (λ i. s.Front i x.front) t.behind x.is_front, refl);
    cut = t.spelled ∙ ap (λ w. r.flat a ++ w) x.cut ∙ sym (append_assoc (r.flat a) x.front x.rest);
    place = omega (arith, t.behind, x.place, length-append (r.flat a) x.front);
  }

  stopped_behind : {C : Type 0} (n : ℕ) (ts : List Kind) (a : A) (m : ℕ) (us : List Kind) (o : Outcome C) → Took r n ts a m us → Stopped s m us o → Stopped (r & s) n ts o
  stopped_behind n ts a m us (got c l vs) t h = tt
  stopped_behind n ts a m us (fault k) t h = fault_behind n ts a m us k t h

  pub stopped_then : {C : Type 0} (n : ℕ) (ts : List Kind) (o : Outcome A) (f : A → Reader C) → AllHaveText ts → Spelled r n ts o → Stopped r n ts o → ((a : A) (m : ℕ) (us : List Kind) → AllHaveText us → Stopped s m us (f a m us)) → Stopped (r & s) n ts (and_then o f)
  stopped_then n ts (got a m us) f told t h F = stopped_behind n ts a m us (f a m us) t (F a m us (left_told r n ts a m us t told))
  stopped_then n ts (fault k) f told t h F = fault_leads r (r & s) (λ n f h. inl h) n ts k h

-- ---- no token, or one

pub halts_none : {A : Type 0} (r : Rule A) (a : A) → ((n : ℕ) → r.Good n a) → r.flat a ≡ [] → Halts (read_none a) r
halts_none r a good e = record { sound = sound_none r a good e; stops = λ n ts told. tt }

pub halts_never : {A : Type 0} (r : Rule A) → ((n : ℕ) → r.Front n []) → Halts read_never r
halts_never r nothing = record { sound = sound_never r; stops = λ n ts told. at_once r n ts (nothing n) }

module _ {A : Type 0} (make : ℕ → Kind → Option A) (r : Rule A) (nothing : (n : ℕ) → r.Front n []) where
  taken_stops : (n : ℕ) (k : Kind) (ts : List Kind) (o : Option A) → Stopped r n (k ∷ ts) (taken o n ts)
  taken_stops n k ts (Some a) = tt
  taken_stops n k ts None = at_once r n (k ∷ ts) (nothing n)

  pub one_stops : (n : ℕ) (ts : List Kind) → Stopped r n ts (read_one make n ts)
  one_stops n [] = at_once r n [] (nothing n)
  one_stops n (k ∷ ts) = taken_stops n k ts (make n k)

  pub halts_one : Sound (read_one make) r → Halts (read_one make) r
  halts_one S = record { sound = S; stops = λ n ts told. one_stops n ts }

-- ---- another value, or another rule

pub halts_mapped : {A B : Type 0} {p : Reader A} {r : Rule A} (to : A → B) (s : Rule B) → Halts p r → Becomes r s to → Leads r s → Halts (read_mapped to p) s
halts_mapped {p = p} {r = r} to s P become L = record { sound = sound_mapped to s P.sound become; stops = λ n ts told. stopped_value s n ts (p n ts) to (stopped_leads r s L n ts (p n ts) (P.stops n ts told)) }

pub halts_if_mapped : {A B : Type 0} {first : Kind → Bool} {p : Reader A} {r : Rule A} (to : A → B) (s : Rule B) → HaltsIf first p r → Becomes r s to → Leads r s → HaltsIf first (read_mapped to p) s
halts_if_mapped {p = p} {r = r} to s P become L = record { sound = if_mapped to s P.sound become; stops = λ n ts e told. stopped_value s n ts (p n ts) to (stopped_leads r s L n ts (p n ts) (P.stops n ts e told)) }

pub halts_same : {A : Type 0} {p : Reader A} {r : Rule A} (s : Rule A) → Halts p r → Becomes r s (λ a. a) → Leads r s → Halts p s
halts_same {p = p} {r = r} s P become L = record { sound = sound_same s P.sound become; stops = λ n ts told. stopped_leads r s L n ts (p n ts) (P.stops n ts told) }

pub halts_if_same : {A : Type 0} {first : Kind → Bool} {p : Reader A} {r : Rule A} (s : Rule A) → HaltsIf first p r → Becomes r s (λ a. a) → Leads r s → HaltsIf first p s
halts_if_same {p = p} {r = r} s P become L = record { sound = if_same s P.sound become; stops = λ n ts e told. stopped_leads r s L n ts (p n ts) (P.stops n ts e told) }

-- ---- one, and then another

pub halts_both : {A B : Type 0} {p : Reader A} {q : Reader B} {r : Rule A} {s : Rule B} → Halts p r → Halts q s → Halts (read_both p q) (r & s)
halts_both {p = p} {q = q} {r = r} {s = s} P Q = record {
  sound = sound_both P.sound Q.sound;
  stops = λ n ts told. stopped_then r s n ts (p n ts) (λ a. read_mapped (λ b. (a, b)) q) told (P.sound.reads n ts told) (P.stops n ts told) (λ a m us told'. stopped_value s m us (q m us) (λ b. (a, b)) (Q.stops m us told'));
}

pub halts_after : {B : Type 0} {p : Reader (Unit {0})} {q : Reader B} {kind : Kind} {s : Rule B} → Halts p (token kind) → Halts q s → Halts (read_after p q) (kind ▸ s)
halts_after {p = p} {q = q} {kind = kind} {s = s} P Q = record {
  sound = sound_after P.sound Q.sound;
  stops = λ n ts told. stopped_leads (token kind & s) (kind ▸ s) (λ n f h. h) n ts (read_after p q n ts) (stopped_then (token kind) s n ts (p n ts) (λ _. q) told (P.sound.reads n ts told) (P.stops n ts told) (λ a m us told'. Q.stops m us told'));
}

module _ {A : Type 0} (p : Reader A) (q : Reader (Unit {0})) (r : Rule A) (kind : Kind) (Q : Halts q (token kind)) where
  until_stops : (n : ℕ) (ts : List Kind) → AllHaveText ts → Spelled r n ts (p n ts) → Stopped r n ts (p n ts) → Stopped (r ◂ kind) n ts (read_until p q n ts)
  until_stops n ts told spelled h = stopped_leads (r & token kind) (r ◂ kind) (λ n f h. h) n ts (read_until p q n ts)
      (stopped_then r (token kind) n ts (p n ts) (λ a. read_mapped (λ _. a) q) told spelled h (λ a m us told'. stopped_value (token kind) m us (q m us) (λ _. a) (Q.stops m us told')))

pub halts_until : {A : Type 0} {p : Reader A} {q : Reader (Unit {0})} {r : Rule A} {kind : Kind} → Halts p r → Halts q (token kind) → Halts (read_until p q) (r ◂ kind)
halts_until {p = p} {q = q} {r = r} {kind = kind} P Q = record { sound = sound_until P.sound Q.sound; stops = λ n ts told. until_stops p q r kind Q n ts told (P.sound.reads n ts told) (P.stops n ts told) }

pub halts_if_until : {A : Type 0} {first : Kind → Bool} {p : Reader A} {q : Reader (Unit {0})} {r : Rule A} {kind : Kind} → HaltsIf first p r → Halts q (token kind) → HaltsIf first (read_until p q) (r ◂ kind)
halts_if_until {p = p} {q = q} {r = r} {kind = kind} P Q = record { sound = if_until P.sound Q.sound; stops = λ n ts e told. until_stops p q r kind Q n ts told (P.sound.reads n ts e told) (P.stops n ts e told) }

module _ {A : Type 0} (r : Rule A) (n : ℕ) (ts : List Kind) where
  abbrev with_place : A → Reader (ℕ × A)
  with_place a m us = got (n, a) m us

  placed_stops : (o : Outcome A) → Stopped r n ts o → Stopped (placed r) n ts (and_then o with_place)
  placed_stops (got a m us) h = tt
  placed_stops (fault k) h = fault_leads r (placed r) (λ n f h. h) n ts k h

pub halts_placed : {A : Type 0} {p : Reader A} {r : Rule A} → Halts p r → Halts (read_placed p) (placed r)
halts_placed {p = p} {r = r} P = record { sound = sound_placed P.sound; stops = λ n ts told. placed_stops r n ts (p n ts) (P.stops n ts told) }

-- ---- one or another

pub halts_or : {A : Type 0} {p q : Reader A} {r : Rule A} (first : Kind → Bool) → Halts p r → Halts q r → Halts (read_or first p q) r
halts_or {p = p} {q = q} {r = r} first P Q = record { sound = sound_or first P.sound Q.sound; stops = λ n ts told. stopped_test r n ts (begins first ts) (p n ts) (q n ts) (P.stops n ts told) (Q.stops n ts told) }

pub halts_or_if : {A : Type 0} {first : Kind → Bool} {p q : Reader A} {r : Rule A} → HaltsIf first p r → Halts q r → Halts (read_or first p q) r
halts_or_if {first = first} {p = p} {q = q} {r = r} P Q = record { sound = sound_or_if P.sound Q.sound; stops = λ n ts told. stopped_if r n ts (begins first ts) (p n ts) (q n ts) (λ e. P.stops n ts e told) (Q.stops n ts told) }

pub halts_maybe : {A : Type 0} {p : Reader A} {r : Rule A} (first : Kind → Bool) → Halts p r → Halts (read_maybe first p) (maybe r)
halts_maybe {p = p} {r = r} first P = halts_or first (halts_mapped Some (maybe r) P (λ n a good. (good, refl)) (λ n f h. inr h)) (halts_none (maybe r) None (λ n. tt) refl)

-- ---- fronts of parts that are put together otherwise

pub both_lead : {A B B' : Type 0} (r : Rule A) (s : Rule B) (s' : Rule B') → Leads s s' → Leads (r & s) (r & s')
both_lead r s s' L n f (inl h) = inl h
both_lead r s s' L n f (inr (a, g, good, h, e)) = inr (a, g, good, L (n + length (r.flat a)) g h, e)

pub regroup_leads : {A B C : Type 0} (r : Rule A) (s : Rule B) (t : Rule C) → Leads ((r & s) & t) (r & (s & t))
regroup_leads r s t n f (inl (inl h)) = inl h
regroup_leads r s t n f (inl (inr (a, g, good, h, e))) = inr (a, g, good, inl h, e)
regroup_leads r s t n f (inr (x, g, good, h, e)) =
    inr (x.0, s.flat x.1 ++ g, good.0, inr (x.1, g, good.1, subst (λ i. t.Front i g) (omega (arith, length-append (r.flat x.0) (s.flat x.1))) h, refl), e ∙ append_assoc (r.flat x.0) (s.flat x.1) g)

module _ {A B C : Type 0} (form : B → Option A) (r : Rule A) (s : Rule C) where
  unformed : (n : ℕ) (f g : List Kind) (o : Option A) → GoodFrom form r n o → s.Front (n + length (flat_from form r o)) g → f ≡ flat_from form r o ++ g → (r & s).Front n f
  unformed n f g None good h e = absurd good
  unformed n f g (Some a) good h e = inr (a, g, good, h, e)

  -- a part of another form
  pub form_leads : Leads (mapped form r & s) (r & s)
  form_leads n f (inl h) = inl h
  form_leads n f (inr (b, g, good, h, e)) = unformed n f g (form b) good h e
