-- Items with labels before each, and labels behind the last, are read whole.
use Rattle.std.proofs.Common.{◌≡◌, ℕ, zero, suc, ◌+◌, ◌≤◌, ◌<◌, List, [], ◌∷◌, ◌++◌, length, Bool, true, false, cond, refl, ap, subst, ◌∙◌, append_assoc, length-append, arith}
use Rattle.ns_tree.specs.declared.token.Kind.{Kind}
use Rattle.ns_tree.specs.Rule.{Rule}
use Rattle.ns_parse_tokens.specs.Read.{Outcome, Reader, got, and_then, begins, Labelled, tail, item, read_labelled, read_label_turns, put_item}
use Rattle.ns_parse_tokens.specs.laws.SoundLists.{labelled, flat_labelled, GoodLabelled}
use Rattle.ns_parse.proofs.Seen.{Seen, shows, next_shows, apart, within, Sees, are_apart, are_within, shows_left, shows_right, ends_each, next_sees}
use Rattle.ns_parse.proofs.Full.{Full}

module _ {L A : Type 0} {most : ℕ} {lf lm first more : List Seen} {ls : Reader L} {p : Reader A} {labels : Rule L} {r : Rule A} (test : Kind → Bool) (cs : List Seen) (S : Sees test cs)
    (F : Full most lf lm true ls labels (λ l. l)) (P : Full most first more false p r (λ a. a)) (begin : within first cs ≡ true) (item_label : apart first lm ≡ true) (label_item : apart lf more ≡ true) (item_item : apart first more ≡ true) where
  abbrev flat : Labelled L A → List Kind
  flat = flat_labelled labels r

  -- the first labels, and what stands behind them
  abbrev label_of : Labelled L A → L
  label_of (tail l) = l
  label_of (item l a rest) = l

  abbrev behind_label : Labelled L A → List Kind
  behind_label (tail l) = []
  behind_label (item l a rest) = r.flat a ++ flat rest

  abbrev GoodBehind : ℕ → Labelled L A → Type 0
  GoodBehind m (tail l) = Unit {0}
  GoodBehind m (item l a rest) = r.Good m a × GoodLabelled labels r (m + length (r.flat a)) rest

  abbrev goes : List Seen
  goes = cs ++ (lm ++ more)

  begun : (n : ℕ) (a : A) (w us : List Kind) → r.Good n a → r.flat a ≡ w → begins test (w ++ us) ≡ true
  begun n a [] us good e = absurd (P.filled refl n a good e)
  begun n a (k ∷ w) us good e = S k ∙ are_within first cs k begin (P.starts n a k w good e)

  long : (n : ℕ) (a : A) (w : List Kind) → r.Good n a → r.flat a ≡ w → 0 < length w
  long n a [] good e = absurd (P.filled refl n a good e)
  long n a (k ∷ w) good e = omega arith

  cut : (x : Labelled L A) (us : List Kind) → flat x ++ us ≡ labels.flat (label_of x) ++ (behind_label x ++ us)
  cut (tail l) us = refl
  cut (item l a rest) us = append_assoc (labels.flat l) (r.flat a ++ flat rest) us

  sizes : (x : Labelled L A) → length (flat x) ≡ length (labels.flat (label_of x)) + length (behind_label x)
  sizes (tail l) = omega arith
  sizes (item l a rest) = length-append (labels.flat l) (r.flat a ++ flat rest)

  label_good : (n : ℕ) (x : Labelled L A) → GoodLabelled labels r n x → labels.Good n (label_of x)
  label_good n (tail l) good = good
  label_good n (item l a rest) good = good.0

  behind_good : (n : ℕ) (x : Labelled L A) → GoodLabelled labels r n x → GoodBehind (n + length (labels.flat (label_of x))) x
  behind_good n (tail l) good = tt
  behind_good n (item l a rest) good = good.1

  -- an item's tokens go on within no set that they don't begin with
  item_ends : (ds : List Seen) (n : ℕ) (a : A) (w vs : List Kind) → apart first ds ≡ true → r.Good n a → r.flat a ≡ w → next_shows ds (w ++ vs) ≡ false
  item_ends ds n a [] vs h good e = absurd (P.filled refl n a good e)
  item_ends ds n a (k ∷ w) vs h good e = are_apart first ds k h (P.starts n a k w good e)

  labels_end : (m : ℕ) (x : Labelled L A) (us : List Kind) → GoodBehind m x → next_shows goes us ≡ false → next_shows lm (behind_label x ++ us) ≡ false
  labels_end m (tail l) us good ends = (ends_each lm more us (ends_each cs (lm ++ more) us ends).1).0
  labels_end m (item l a rest) us good ends = ap (next_shows lm) (append_assoc (r.flat a) (flat rest) us) ∙ item_ends lm m a (r.flat a) (flat rest ++ us) item_label good.0 refl

  behind_ends : (m : ℕ) (x : Labelled L A) (us : List Kind) → GoodBehind m x → next_shows goes us ≡ false → next_shows more (behind_label x ++ us) ≡ false
  behind_ends m (tail l) us good ends = (ends_each lm more us (ends_each cs (lm ++ more) us ends).1).1
  behind_ends m (item l a rest) us good ends = ap (next_shows more) (append_assoc (r.flat a) (flat rest) us) ∙ item_ends more m a (r.flat a) (flat rest ++ us) item_item good.0 refl

  ends_by : (n : ℕ) (x : Labelled L A) (w us : List Kind) → GoodLabelled labels r n x → labels.flat (label_of x) ≡ w → next_shows goes us ≡ false → next_shows more (w ++ (behind_label x ++ us)) ≡ false
  ends_by n x [] us good e ends = behind_ends (n + length (labels.flat (label_of x))) x us (behind_good n x good) ends
  ends_by n x (k ∷ w) us good e ends = are_apart lf more k label_item (F.starts n (label_of x) k w (label_good n x good) e)

  -- what stands behind an item doesn't go on within it
  rest_ends : (n : ℕ) (x : Labelled L A) (us : List Kind) → GoodLabelled labels r n x → next_shows goes us ≡ false → next_shows more (flat x ++ us) ≡ false
  rest_ends n x us good ends = ap (next_shows more) (cut x us) ∙ ends_by n x (labels.flat (label_of x)) us good refl ends

  abbrev turns : ℕ → L → Reader (Labelled L A)
  turns = read_label_turns ls test p

  abbrev then_rest : ℕ → L → Outcome A → Outcome (Labelled L A)
  then_rest t l o = and_then o (λ a i vs. and_then (and_then (ls i vs) (turns t)) (put_item ls test p l a))

  stopped : (t : ℕ) (l : L) (n : ℕ) (us : List Kind) → next_shows cs us ≡ false → turns t l n us ≡ got (tail l) n us
  stopped zero l n us h = refl
  stopped (suc t) l n us h = ap (λ v. cond v (then_rest t l (p n us)) (got (tail l) n us)) (next_sees test cs S us ∙ h)

  turns_read : (t m : ℕ) (x : Labelled L A) (us : List Kind) → GoodBehind m x → length (behind_label x) ≤ most → next_shows goes us ≡ false → length (behind_label x ++ us) ≤ t
      → turns t (label_of x) m (behind_label x ++ us) ≡ got x (m + length (behind_label x)) us
  turns_read t m (tail l) us good room ends enough = stopped t l m us (ends_each cs (lm ++ more) us ends).0 ∙ ap (λ i. got (tail l) i us) (omega arith)
  turns_read zero m (item l a rest) us good room ends enough = absurd (omega (arith, enough, long m a (r.flat a) good.0 refl, length-append (r.flat a ++ flat rest) us, length-append (r.flat a) (flat rest)))
  turns_read (suc t) m (item l a rest) us good room ends enough =
      let i : ℕ = m + length (r.flat a) in
      let w : List Kind = flat rest ++ us in
      let j : ℕ = i + length (labels.flat (label_of rest)) in
      let size : length (r.flat a ++ flat rest) ≡ length (r.flat a) + length (flat rest) = length-append (r.flat a) (flat rest) in
      let all : length ((r.flat a ++ flat rest) ++ us) ≡ length (r.flat a ++ flat rest) + length us = length-append (r.flat a ++ flat rest) us in
      let parts : length (flat rest) ≡ length (labels.flat (label_of rest)) + length (behind_label rest) = sizes rest in
      ap (turns (suc t) l m) (append_assoc (r.flat a) (flat rest) us)
      ∙ ap (λ v. cond v (then_rest t l (p m (r.flat a ++ w))) (got (tail l) m (r.flat a ++ w))) (begun m a (r.flat a) w good.0 refl)
      ∙ ap (then_rest t l) (P.reads m a w good.0 (omega (arith, room, size)) (rest_ends i rest us good.1 ends))
      ∙ ap (λ v. and_then (and_then (ls i v) (turns t)) (put_item ls test p l a)) (cut rest us)
      ∙ ap (λ o. and_then (and_then o (turns t)) (put_item ls test p l a))
      (F.reads i (label_of rest) (behind_label rest ++ us) (label_good i rest good.1) (omega (arith, room, size, parts)) (labels_end j rest us (behind_good i rest good.1) ends))
      ∙ ap (λ o. and_then o (put_item ls test p l a))
      (turns_read t j rest us (behind_good i rest good.1) (omega (arith, room, size, parts)) ends (omega (arith, enough, size, all, parts, long m a (r.flat a) good.0 refl, length-append (behind_label rest) us)))
      ∙ ap (λ q. got (item l a rest) q us) (omega (arith, size, parts))

  labelled_reads : (n : ℕ) (x : Labelled L A) (us : List Kind) → GoodLabelled labels r n x → length (flat x) ≤ most → next_shows goes us ≡ false → read_labelled ls test p n (flat x ++ us) ≡ got x (n + length (flat x)) us
  labelled_reads n x us good room ends =
      let m : ℕ = n + length (labels.flat (label_of x)) in
      ap (read_labelled ls test p n) (cut x us)
      ∙ ap (λ o. and_then o (λ l m us. turns (length us) l m us)) (F.reads n (label_of x) (behind_label x ++ us) (label_good n x good) (omega (arith, room, sizes x)) (labels_end m x us (behind_good n x good) ends))
      ∙ turns_read (length (behind_label x ++ us)) m x us (behind_good n x good) (omega (arith, room, sizes x)) ends (omega arith)
      ∙ ap (λ i. got x i us) (omega (arith, sizes x))

  item_start : (n : ℕ) (a : A) (rest : Labelled L A) (k : Kind) (v w : List Kind) → r.Good n a → r.flat a ≡ v → v ++ flat rest ≡ k ∷ w → shows first k ≡ true
  item_start n a rest k [] w good e h = absurd (P.filled refl n a good e)
  item_start n a rest k (j ∷ v) w good e h = let same : j ≡ k = cc in subst (λ i. shows first i ≡ true) same (P.starts n a j v good e)

  label_start : (n : ℕ) (l : L) (a : A) (rest : Labelled L A) (k : Kind) (v w : List Kind) → GoodLabelled labels r n (item l a rest) → labels.flat l ≡ v → v ++ (r.flat a ++ flat rest) ≡ k ∷ w → shows (lf ++ first) k ≡ true
  label_start n l a rest k [] w good e h = shows_right lf first k (item_start (n + length (labels.flat l)) a rest k (r.flat a) w good.1.0 refl h)
  label_start n l a rest k (j ∷ v) w good e h = let same : j ≡ k = cc in shows_left lf first k (subst (λ i. shows lf i ≡ true) same (F.starts n l j v good.0 e))

  labelled_starts : (n : ℕ) (x : Labelled L A) (k : Kind) (w : List Kind) → GoodLabelled labels r n x → flat x ≡ k ∷ w → shows (lf ++ first) k ≡ true
  labelled_starts n (tail l) k w good e = shows_left lf first k (F.starts n l k w good e)
  labelled_starts n (item l a rest) k w good e = label_start n l a rest k (labels.flat l) w good refl e

  pub full_labelled : Full most (lf ++ first) goes true (read_labelled ls test p) (labelled labels r) (λ x. x)
  full_labelled = record { reads = labelled_reads; starts = labelled_starts; filled = λ z n x good e. absurd cc }
