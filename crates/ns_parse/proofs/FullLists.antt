-- What rules for lists spell is read whole.
use Rattle.std.proofs.Common.{◌≡◌, ℕ, zero, suc, ◌+◌, ◌≤◌, ◌<◌, List, [], ◌∷◌, ◌++◌, length, Bool, true, false, cond, refl, ap, subst, ◌∙◌, append_assoc, length-append, arith}
use Rattle.ns_tree.specs.declared.token.Kind.{Kind}
use Rattle.ns_tree.specs.Rule.{Rule, many, flat_all, GoodAll, Listed, none, last, next, listed, flat_listed, GoodListed, once_or_more}
use Rattle.ns_parse_tokens.specs.Read.{Outcome, Reader, got, and_then, begins, read_many, read_turns, put, read_listed, read_list_turns, behind, put_next}
use Rattle.ns_parse.proofs.Seen.{Seen, shows, next_shows, apart, within, Sees, are_apart, are_within, ends_each, next_sees}
use Rattle.ns_parse.proofs.Full.{Full}

-- ---- any number of times

module _ {A : Type 0} {most : ℕ} {first more : List Seen} {p : Reader A} {r : Rule A} (test : Kind → Bool) (cs : List Seen) (S : Sees test cs) (P : Full most first more false p r (λ a. a)) (begin : within first cs ≡ true) (again : apart first more ≡ true) where
  abbrev turn : ℕ → Outcome A → Outcome (List A)
  turn t o = and_then o (λ a m us. and_then (read_turns test p t m us) (put test p a))

  begun : (n : ℕ) (a : A) (w us : List Kind) → r.Good n a → r.flat a ≡ w → begins test (w ++ us) ≡ true
  begun n a [] us good e = absurd (P.filled refl n a good e)
  begun n a (k ∷ w) us good e = S k ∙ are_within first cs k begin (P.starts n a k w good e)

  long : (n : ℕ) (a : A) (w : List Kind) → r.Good n a → r.flat a ≡ w → 0 < length w
  long n a [] good e = absurd (P.filled refl n a good e)
  long n a (k ∷ w) good e = omega arith

  -- what stands behind an item doesn't go on within it
  item_ends : (m : ℕ) (xs : List A) (us : List Kind) → GoodAll r m xs → next_shows (cs ++ more) us ≡ false → next_shows more (flat_all r xs ++ us) ≡ false
  item_ends m [] us good ends = (ends_each cs more us ends).1
  item_ends m (a ∷ xs) us good ends = next_ends (r.flat a) refl
    where
      next_ends : (w : List Kind) → r.flat a ≡ w → next_shows more ((w ++ flat_all r xs) ++ us) ≡ false
      next_ends [] e = absurd (P.filled refl m a good.0 e)
      next_ends (k ∷ w) e = are_apart first more k again (P.starts m a k w good.0 e)

  stopped : (t n : ℕ) (us : List Kind) → next_shows cs us ≡ false → read_turns test p t n us ≡ got [] n us
  stopped zero n us h = refl
  stopped (suc t) n us h = ap (λ v. cond v (turn t (p n us)) (got [] n us)) (next_sees test cs S us ∙ h)

  turns_read : (t n : ℕ) (xs : List A) (us : List Kind) → GoodAll r n xs → length (flat_all r xs) ≤ most → next_shows (cs ++ more) us ≡ false → length (flat_all r xs ++ us) ≤ t
      → read_turns test p t n (flat_all r xs ++ us) ≡ got xs (n + length (flat_all r xs)) us
  turns_read t n [] us good room ends turns = stopped t n us (ends_each cs more us ends).0 ∙ ap (λ i. got [] i us) (omega arith)
  turns_read zero n (a ∷ xs) us good room ends turns = absurd (omega (arith, turns, long n a (r.flat a) good.0 refl, length-append (r.flat a ++ flat_all r xs) us, length-append (r.flat a) (flat_all r xs)))
  turns_read (suc t) n (a ∷ xs) us good room ends turns =
      let m : ℕ = n + length (r.flat a) in
      let w : List Kind = flat_all r xs ++ us in
      let size : length (r.flat a ++ flat_all r xs) ≡ length (r.flat a) + length (flat_all r xs) = length-append (r.flat a) (flat_all r xs) in
      ap (read_turns test p (suc t) n) (append_assoc (r.flat a) (flat_all r xs) us)
      ∙ ap (λ v. cond v (turn t (p n (r.flat a ++ w))) (got [] n (r.flat a ++ w))) (begun n a (r.flat a) w good.0 refl)
      ∙ ap (turn t) (P.reads n a w good.0 (omega (arith, room, size)) (item_ends m xs us good.1 ends))
      ∙ ap (λ o. and_then o (put test p a))
      (turns_read t m xs us good.1 (omega (arith, room, size)) ends (omega (arith, turns, long n a (r.flat a) good.0 refl, size, length-append (r.flat a ++ flat_all r xs) us, length-append (flat_all r xs) us)))
      ∙ ap (λ i. got (a ∷ xs) i us) (omega (arith, size))

  all_start : (n : ℕ) (xs : List A) (k : Kind) (w : List Kind) → GoodAll r n xs → flat_all r xs ≡ k ∷ w → shows first k ≡ true
  all_start n [] k w good e = absurd cc
  all_start n (a ∷ xs) k w good e = start_by (r.flat a) refl e
    where
      start_by : (v : List Kind) → r.flat a ≡ v → v ++ flat_all r xs ≡ k ∷ w → shows first k ≡ true
      start_by [] e h = absurd (P.filled refl n a good.0 e)
      start_by (j ∷ v) e h = let same : j ≡ k = cc in subst (λ i. shows first i ≡ true) same (P.starts n a j v good.0 e)

  pub full_many : Full most first (cs ++ more) true (read_many test p) (many r) (λ xs. xs)
  full_many = record {
    reads = λ n xs us good room ends. turns_read (length (flat_all r xs ++ us)) n xs us good room ends (omega arith);
    starts = all_start;
    filled = λ z n xs good e. absurd cc;
  }

  some_filled : (n : ℕ) (x : A × List A) (v : List Kind) → r.Good n x.0 → r.flat x.0 ≡ v → v ++ flat_all r x.1 ≡ [] → ⊥
  some_filled n x [] good e h = P.filled refl n x.0 good e
  some_filled n x (k ∷ v) good e h = absurd cc

  -- one or more of them
  pub full_some : Full most first (cs ++ more) false (read_many test p) (once_or_more r) (λ x. x.0 ∷ x.1)
  full_some = record {
    reads = λ n x us good room ends. turns_read (length ((r.flat x.0 ++ flat_all r x.1) ++ us)) n (x.0 ∷ x.1) us good room ends (omega arith);
    starts = λ n x k w good e. all_start n (x.0 ∷ x.1) k w good e;
    filled = λ z n x good e. some_filled n x (r.flat x.0) good.0 refl e;
  }

-- ---- with separators

module _ {A : Type 0} {most : ℕ} {first more : List Seen} {p : Reader A} {r : Rule A} (test : Kind → Bool) (cs : List Seen) (S : Sees test cs) (separates : Kind → Bool) (ds : List Seen) (D : Sees separates ds) (separator : Kind)
    (P : Full most first more false p r (λ a. a)) (begin : within first cs ≡ true) (is_it : shows ds separator ≡ true) (ends_item : shows more separator ≡ false) where
  abbrev turns : ℕ → Reader (Listed A)
  turns = read_list_turns test separates p

  item_begun : (n : ℕ) (a : A) (w us : List Kind) → r.Good n a → r.flat a ≡ w → begins test (w ++ us) ≡ true
  item_begun n a [] us good e = absurd (P.filled refl n a good e)
  item_begun n a (k ∷ w) us good e = S k ∙ are_within first cs k begin (P.starts n a k w good e)

  item_long : (n : ℕ) (a : A) (w : List Kind) → r.Good n a → r.flat a ≡ w → 0 < length w
  item_long n a [] good e = absurd (P.filled refl n a good e)
  item_long n a (k ∷ w) good e = omega arith

  no_item : (t n : ℕ) (us : List Kind) → next_shows cs us ≡ false → turns t n us ≡ got none n us
  no_item zero n us h = refl
  no_item (suc t) n us h = ap (λ v. cond v (and_then (p n us) (behind test separates p (turns t))) (got none n us)) (next_sees test cs S us ∙ h)

  an_item : (t n : ℕ) (a : A) (us : List Kind) → r.Good n a → length (r.flat a) ≤ most → next_shows more us ≡ false → turns (suc t) n (r.flat a ++ us) ≡ behind test separates p (turns t) a (n + length (r.flat a)) us
  an_item t n a us good room ends =
      ap (λ v. cond v (and_then (p n (r.flat a ++ us)) (behind test separates p (turns t))) (got none n (r.flat a ++ us))) (item_begun n a (r.flat a) us good refl)
      ∙ ap (λ o. and_then o (behind test separates p (turns t))) (P.reads n a us good room ends)

  last_behind : (t m : ℕ) (a : A) (us : List Kind) → next_shows ds us ≡ false → behind test separates p (turns t) a m us ≡ got (last a) m us
  last_behind t m a [] h = refl
  last_behind t m a (k ∷ us) h = ap (λ v. cond v (and_then (turns t (m + 1) us) (put_next test separates p a)) (got (last a) m (k ∷ us))) (D k ∙ h)

  next_behind : (t m : ℕ) (a : A) (us : List Kind) → behind test separates p (turns t) a m (separator ∷ us) ≡ and_then (turns t (m + 1) us) (put_next test separates p a)
  next_behind t m a us = ap (λ v. cond v (and_then (turns t (m + 1) us) (put_next test separates p a)) (got (last a) m (separator ∷ us))) (D separator ∙ is_it)

  list_read : (t n : ℕ) (l : Listed A) (us : List Kind) → GoodListed r separator n l → length (flat_listed r separator l) ≤ most → next_shows (cs ++ (ds ++ more)) us ≡ false → length (flat_listed r separator l ++ us) ≤ t
      → turns t n (flat_listed r separator l ++ us) ≡ got l (n + length (flat_listed r separator l)) us
  list_read t n none us good room ends enough = no_item t n us (ends_each cs (ds ++ more) us ends).0 ∙ ap (λ i. got none i us) (omega arith)
  list_read zero n (last a) us good room ends enough = absurd (omega (arith, enough, item_long n a (r.flat a) good refl, length-append (r.flat a) us))
  list_read (suc t) n (last a) us good room ends enough =
      let ends' : (next_shows ds us ≡ false) × (next_shows more us ≡ false) = ends_each ds more us (ends_each cs (ds ++ more) us ends).1 in
      an_item t n a us good room ends'.1 ∙ last_behind t (n + length (r.flat a)) a us ends'.0
  list_read zero n (next a l) us good room ends enough =
      absurd (omega (arith, enough, item_long n a (r.flat a) good.0 refl, length-append (r.flat a ++ separator ∷ flat_listed r separator l) us, length-append (r.flat a) (separator ∷ flat_listed r separator l)))
  list_read (suc t) n (next a l) us good room ends enough =
      let m : ℕ = n + length (r.flat a) in
      let w : List Kind = flat_listed r separator l ++ us in
      let size : length (r.flat a ++ separator ∷ flat_listed r separator l) ≡ length (r.flat a) + length (separator ∷ flat_listed r separator l) = length-append (r.flat a) (separator ∷ flat_listed r separator l) in
      let all : length ((r.flat a ++ separator ∷ flat_listed r separator l) ++ us) ≡ length (r.flat a ++ separator ∷ flat_listed r separator l) + length us = length-append (r.flat a ++ separator ∷ flat_listed r separator l) us in
      ap (turns (suc t) n) (append_assoc (r.flat a) (separator ∷ flat_listed r separator l) us)
      ∙ an_item t n a (separator ∷ w) good.0 (omega (arith, room, size)) ends_item
      ∙ next_behind t m a w
      ∙ ap (λ o. and_then o (put_next test separates p a)) (list_read t (m + 1) l us good.1 (omega (arith, room, size)) ends (omega (arith, enough, size, all, length-append (flat_listed r separator l) us)))
      ∙ ap (λ i. got (next a l) i us) (omega (arith, size))

  list_starts : (n : ℕ) (l : Listed A) (k : Kind) (w : List Kind) → GoodListed r separator n l → flat_listed r separator l ≡ k ∷ w → shows first k ≡ true
  list_starts n none k w good e = absurd cc
  list_starts n (last a) k w good e = P.starts n a k w good e
  list_starts n (next a l) k w good e = start_by (r.flat a) refl e
    where
      start_by : (v : List Kind) → r.flat a ≡ v → v ++ separator ∷ flat_listed r separator l ≡ k ∷ w → shows first k ≡ true
      start_by [] e h = absurd (P.filled refl n a good.0 e)
      start_by (j ∷ v) e h = let same : j ≡ k = cc in subst (λ i. shows first i ≡ true) same (P.starts n a j v good.0 e)

  pub full_listed : Full most first (cs ++ (ds ++ more)) true (read_listed test separates p) (listed r separator) (λ l. l)
  full_listed = record {
    reads = λ n l us good room ends. list_read (length (flat_listed r separator l ++ us)) n l us good room ends (omega arith);
    starts = list_starts;
    filled = λ z n l good e. absurd cc;
  }
