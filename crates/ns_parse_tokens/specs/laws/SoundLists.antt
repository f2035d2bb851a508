-- What is read again and again is spelled as rules for lists say.
use Rattle.std.proofs.Common.{◌≡◌, ℕ, zero, suc, ◌+◌, List, [], ◌∷◌, ◌++◌, length, Some, option_map, Bool, true, false, cond, refl, sym, ap, subst, ◌∙◌, append_assoc, length-append, arith}
use Rattle.ns_tree.specs.declared.token.Kind.{Kind}
use Rattle.ns_tree.specs.Forms.{once_or_more_of, listed_of}
use Rattle.ns_tree.specs.Rule.{Rule, ◌&◌, many, mapped, Listed, none, last, next, listed, flat_listed, GoodListed, once_or_more}
use Rattle.ns_tree.specs.Tree.{AllHaveText}
use Rattle.ns_tree.specs.Made.{listed_items}
use Rattle.ns_parse_tokens.specs.Read.{Outcome, Reader, got, fault, and_then, begins, read_many, read_turns, put, behind, put_next, ends_separated}
use Rattle.ns_parse_tokens.specs.Read.{read_listed, read_list_turns, Labelled, tail, item, read_labelled, read_label_turns, put_item}
use Rattle.ns_parse_tokens.specs.laws.Sound.{Took, Spelled, Sound, SoundIf, left_told, nothing, took_both, by_test}

-- ---- any number of times

-- a list of one or more
abbrev pub some : {A : Type 0} → Rule A → Rule (List A)
some r = mapped once_or_more_of (once_or_more r)

module _ {A : Type 0} (first : Kind → Bool) (p : Reader A) (r : Rule A) where
  took_more : (n : ℕ) (ts : List Kind) (a : A) (m : ℕ) (us : List Kind) → Took r n ts a m us → (o : Outcome (List A)) → Spelled (many r) m us o
      → Spelled (some r) n ts (and_then o (put first p a))
  took_more n ts a m us t (got xs l vs) u =
      let w : Took (r & many r) n ts (a, xs) l vs = took_both r (many r) n ts a m us xs l vs t u in
      record { good = w.good; spelled = w.spelled; behind = w.behind }
  took_more n ts a m us t (fault k) u = tt

  some_many : (n : ℕ) (ts : List Kind) (o : Outcome (List A)) → Spelled (some r) n ts o → Spelled (many r) n ts o
  some_many n ts (got [] m us) t = absurd t.good
  some_many n ts (got (a ∷ xs) m us) t = record { good = t.good; spelled = t.spelled; behind = t.behind }
  some_many n ts (fault k) t = tt

  module _ (P : Sound p r) where
    more_spelled : (t : ℕ) → ((n : ℕ) (ts : List Kind) → AllHaveText ts → Spelled (many r) n ts (read_turns first p t n ts))
        → (n : ℕ) (ts : List Kind) → AllHaveText ts → (o : Outcome A) → Spelled r n ts o
        → Spelled (some r) n ts (and_then o (λ a m us. and_then (read_turns first p t m us) (put first p a)))
    more_spelled t turns n ts h (got a m us) w = took_more n ts a m us w (read_turns first p t m us) (turns m us (left_told r n ts a m us w h))
    more_spelled t turns n ts h (fault k) w = tt

    turns_spelled : (t : ℕ) (n : ℕ) (ts : List Kind) → AllHaveText ts → Spelled (many r) n ts (read_turns first p t n ts)
    turns_spelled zero n ts h = nothing (many r) [] n ts tt refl
    turns_spelled (suc t) n ts h =
        by_test (many r) n ts (begins first ts) (and_then (p n ts) (λ a m us. and_then (read_turns first p t m us) (put first p a))) (got [] n ts)
        (λ e. some_many n ts (and_then (p n ts) (λ a m us. and_then (read_turns first p t m us) (put first p a)))
        (more_spelled t (turns_spelled t) n ts h (p n ts) (P.reads n ts h)))
        (nothing (many r) [] n ts tt refl)

    -- a turn, where the first token begins one
    begun_spelled : (t : ℕ) (n : ℕ) (ts : List Kind) (test : Bool) → test ≡ true → AllHaveText ts
        → Spelled (some r) n ts (cond test (and_then (p n ts) (λ a m us. and_then (read_turns first p t m us) (put first p a))) (got [] n ts))
    begun_spelled t n ts true e h = more_spelled t (turns_spelled t) n ts h (p n ts) (P.reads n ts h)
    begun_spelled t n ts false e h = absurd cc

    some_spelled : (n : ℕ) (ts : List Kind) → begins first ts ≡ true → AllHaveText ts → Spelled (some r) n ts (read_many first p n ts)
    some_spelled n [] e h = absurd cc
    some_spelled n (k ∷ ts) e h = begun_spelled (length ts) n (k ∷ ts) (first k) e h

pub sound_many : {A : Type 0} {p : Reader A} {r : Rule A} (first : Kind → Bool) → Sound p r → Sound (read_many first p) (many r)
sound_many {p = p} {r = r} first P = record { reads = λ n ts h. turns_spelled first p r P (length ts) n ts h }

pub sound_some : {A : Type 0} {p : Reader A} {r : Rule A} (first : Kind → Bool) → Sound p r → SoundIf first (read_many first p) (some r)
sound_some {p = p} {r = r} first P = record { reads = some_spelled first p r P }

-- ---- with separators

module _ {A : Type 0} (first separates : Kind → Bool) (p : Reader A) (r : Rule A) (kind : Kind) (S : (k : Kind) → separates k ≡ true → k ≡ kind) where
  took_last : (n : ℕ) (ts : List Kind) (a : A) (m : ℕ) (us : List Kind) → Took r n ts a m us → Took (listed r kind) n ts (last a) m us
  took_last n ts a m us t = record { good = t.good; spelled = t.spelled; behind = t.behind }

  took_next : (n : ℕ) (ts : List Kind) (a : A) (m : ℕ) (k : Kind) (us : List Kind) → k ≡ kind → Took r n ts a m (k ∷ us) → (o : Outcome (Listed A))
      → Spelled (listed r kind) (m + 1) us o → Spelled (listed r kind) n ts (and_then o (put_next first separates p a))
  took_next n ts a m k us e t (got x l vs) u = record {
    good = (t.good, subst (λ i. GoodListed r kind i x) (ap (λ i. i + 1) t.behind) u.good);
    spelled = t.spelled ∙ ap (λ j. r.flat a ++ j ∷ us) e ∙ ap (λ w. r.flat a ++ kind ∷ w) u.spelled
        ∙ sym (append_assoc (r.flat a) (kind ∷ flat_listed r kind x) vs);
    behind = omega (arith, t.behind, u.behind, length-append (r.flat a) (kind ∷ flat_listed r kind x));
  }
  took_next n ts a m k us e t (fault j) u = tt

  behind_spelled : (again : Reader (Listed A)) → Sound again (listed r kind) → (n : ℕ) (ts : List Kind) (a : A) (m : ℕ) (us : List Kind)
      → Took r n ts a m us → AllHaveText us → Spelled (listed r kind) n ts (behind first separates p again a m us)
  behind_spelled again R n ts a m [] t h = took_last n ts a m [] t
  behind_spelled again R n ts a m (k ∷ us) t h =
      by_test (listed r kind) n ts (separates k) (and_then (again (m + 1) us) (put_next first separates p a)) (got (last a) m (k ∷ us))
      (λ e. took_next n ts a m k us (S k e) t (again (m + 1) us) (R.reads (m + 1) us h.1)) (took_last n ts a m (k ∷ us) t)

  item_spelled : (again : Reader (Listed A)) → Sound again (listed r kind) → (n : ℕ) (ts : List Kind) → AllHaveText ts → (o : Outcome A)
      → Spelled r n ts o → Spelled (listed r kind) n ts (and_then o (behind first separates p again))
  item_spelled again R n ts h (got a m us) t = behind_spelled again R n ts a m us t (left_told r n ts a m us t h)
  item_spelled again R n ts h (fault k) t = tt

  list_turns : Sound p r → (t : ℕ) → Sound (read_list_turns first separates p t) (listed r kind)
  list_turns P zero = record { reads = λ n ts h. nothing (listed r kind) none n ts tt refl }
  list_turns P (suc t) = record {
    reads = λ n ts h. by_test (listed r kind) n ts (begins first ts)
        (and_then (p n ts) (behind first separates p (read_list_turns first separates p t))) (got none n ts)
        (λ e. item_spelled (read_list_turns first separates p t) (list_turns P t) n ts h (p n ts) (P.reads n ts h)) (nothing (listed r kind) none n ts tt refl);
  }

  list_spelled : Sound p r → (n : ℕ) (ts : List Kind) → AllHaveText ts → Spelled (listed r kind) n ts (read_listed first separates p n ts)
  list_spelled P n ts h = (list_turns P (length ts)).reads n ts h

pub sound_listed : {A : Type 0} {p : Reader A} {r : Rule A} (first separates : Kind → Bool) (kind : Kind)
    → ((k : Kind) → separates k ≡ true → k ≡ kind) → Sound p r → Sound (read_listed first separates p) (listed r kind)
sound_listed {p = p} {r = r} first separates kind S P = record { reads = list_spelled first separates p r kind S P }

-- a list that was read is what its items are with or without a separator behind them
pub listed_read : {A : Type 0} (l : Listed A) → listed_of (listed_items l) (ends_separated l) ≡ Some l
listed_read none = refl
listed_read (last a) = refl
listed_read (next a none) = refl
listed_read (next a (last b)) = refl
listed_read (next a (next b rest)) = ap (option_map (next a)) (listed_read (next b rest))

-- ---- with labels

module _ {L A : Type 0} (labels : Rule L) (r : Rule A) where
  abbrev pub flat_labelled : Labelled L A → List Kind
  flat_labelled (tail l) = labels.flat l
  flat_labelled (item l a rest) = labels.flat l ++ (r.flat a ++ flat_labelled rest)

  abbrev pub GoodLabelled : ℕ → Labelled L A → Type 0
  GoodLabelled n (tail l) = labels.Good n l
  GoodLabelled n (item l a rest) = labels.Good n l
      × (r.Good (n + length (labels.flat l)) a × GoodLabelled (n + length (labels.flat l) + length (r.flat a)) rest)

  -- labels, and then items with labels behind each
  abbrev pub labelled : Rule (Labelled L A)
  labelled = record { flat = flat_labelled; Good = GoodLabelled; Front = λ n f. ⊥ }

module _ {L A : Type 0} (first : Kind → Bool) (ls : Reader L) (p : Reader A) (labels : Rule L) (r : Rule A) (F : Sound ls labels) (P : Sound p r) where
  -- what comes behind some labels, with them
  took_item : (n : ℕ) (ts : List Kind) (l : L) (m : ℕ) (us : List Kind) (a : A) (i : ℕ) (vs : List Kind) → Took labels n ts l m us
      → Took r m us a i vs → (o : Outcome (Labelled L A)) → Spelled (labelled labels r) i vs o
      → Spelled (labelled labels r) n ts (and_then o (put_item ls first p l a))
  took_item n ts l m us a i vs t u (got x j ws) v =
      let w : Took (r & labelled labels r) m us (a, x) j ws = took_both r (labelled labels r) m us a i vs x j ws u v in
      let y : Took (labels & (r & labelled labels r)) n ts (l, (a, x)) j ws = took_both labels (r & labelled labels r) n ts l m us (a, x) j ws t w in
      record { good = y.good; spelled = y.spelled; behind = y.behind }
  took_item n ts l m us a i vs t u (fault k) v = tt

  -- the turns, whatever labels stand before
  abbrev Turns : ℕ → Type 0
  Turns t = (n : ℕ) (ts : List Kind) (l : L) (m : ℕ) (us : List Kind) → Took labels n ts l m us → AllHaveText us
      → Spelled (labelled labels r) n ts (read_label_turns ls first p t l m us)

  after_labels : (t : ℕ) → Turns t → (i : ℕ) (vs : List Kind) → AllHaveText vs → (o : Outcome L) → Spelled labels i vs o
      → Spelled (labelled labels r) i vs (and_then o (read_label_turns ls first p t))
  after_labels t turns i vs h (got l j ws) u = turns i vs l j ws u (left_told labels i vs l j ws u h)
  after_labels t turns i vs h (fault k) u = tt

  after_item : (t : ℕ) → Turns t → (n : ℕ) (ts : List Kind) (l : L) (m : ℕ) (us : List Kind) → Took labels n ts l m us → AllHaveText us
      → (o : Outcome A) → Spelled r m us o
      → Spelled (labelled labels r) n ts (and_then o (λ a i vs. and_then (and_then (ls i vs) (read_label_turns ls first p t)) (put_item ls first p l a)))
  after_item t turns n ts l m us w h (got a i vs) u =
      let told : AllHaveText vs = left_told r m us a i vs u h in
      took_item n ts l m us a i vs w u (and_then (ls i vs) (read_label_turns ls first p t)) (after_labels t turns i vs told (ls i vs) (F.reads i vs told))
  after_item t turns n ts l m us w h (fault k) u = tt

  took_tail : (n : ℕ) (ts : List Kind) (l : L) (m : ℕ) (us : List Kind) → Took labels n ts l m us → Took (labelled labels r) n ts (tail l) m us
  took_tail n ts l m us t = record { good = t.good; spelled = t.spelled; behind = t.behind }

  label_turns : (t : ℕ) → Turns t
  label_turns zero n ts l m us w h = took_tail n ts l m us w
  label_turns (suc t) n ts l m us w h =
      by_test (labelled labels r) n ts (begins first us)
      (and_then (p m us) (λ a i vs. and_then (and_then (ls i vs) (read_label_turns ls first p t)) (put_item ls first p l a))) (got (tail l) m us)
      (λ e. after_item t (label_turns t) n ts l m us w h (p m us) (P.reads m us h)) (took_tail n ts l m us w)

  labels_spelled : (n : ℕ) (ts : List Kind) → AllHaveText ts → (o : Outcome L) → Spelled labels n ts o
      → Spelled (labelled labels r) n ts (and_then o (λ l m us. read_label_turns ls first p (length us) l m us))
  labels_spelled n ts h (got l m us) w = label_turns (length us) n ts l m us w (left_told labels n ts l m us w h)
  labels_spelled n ts h (fault k) w = tt

pub sound_labelled : {L A : Type 0} {ls : Reader L} {p : Reader A} {labels : Rule L} {r : Rule A} (first : Kind → Bool) → Sound ls labels → Sound p r
    → Sound (read_labelled ls first p) (labelled labels r)
sound_labelled {ls = ls} {p = p} {labels = labels} {r = r} first F P = record
    { reads = λ n ts h. labels_spelled first ls p labels r F P n ts h (ls n ts) (F.reads n ts h) }
