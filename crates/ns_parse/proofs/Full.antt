-- What a rule spells is read whole, where nothing behind it goes on within it: a law for each way in which readers are
-- put together.
use Rattle.std.proofs.Common.{◌≡◌, ℕ, suc, ◌+◌, ◌≤◌, List, [], ◌∷◌, ◌++◌, length, Option, Some, None, Bool, true, false, ◌&&◌, cond, refl, sym, ap, subst, ◌∙◌, append_assoc, length-append, arith}
use Rattle.ns_tree.specs.declared.token.Kind.{Kind}
use Rattle.ns_tree.specs.Rule.{Rule, one, token, ◌&◌, mapped, flat_from, GoodFrom, placed, ◌▸◌, ◌◂◌}
use Rattle.ns_parse_tokens.specs.Read.{Outcome, Reader, got, fault, and_then, taken, read_one, read_mapped, read_both, read_after, read_until, read_placed}
use Rattle.ns_parse.proofs.Seen.{Seen, shows, next_shows, apart, within, are_apart, are_within, shows_left, shows_right, ends_each, ends_within}

-- The reader reads each value that the rule gives, as `to` makes it, where it is spelled by at most `most` tokens
-- and none of `more` is seen behind it. What is spelled begins with one of `first`; it is empty only where `null`.
pub record Full {A B : Type 0} (most : ℕ) (first more : List Seen) (null : Bool) (p : Reader B) (r : Rule A) (to : A → B) : Type 0 where
  pub reads : (n : ℕ) (a : A) (us : List Kind) → r.Good n a → length (r.flat a) ≤ most → next_shows more us ≡ false → p n (r.flat a ++ us) ≡ got (to a) (n + length (r.flat a)) us
  pub starts : (n : ℕ) (a : A) (kind : Kind) (w : List Kind) → r.Good n a → r.flat a ≡ kind ∷ w → shows first kind ≡ true
  pub filled : null ≡ false → (n : ℕ) (a : A) → r.Good n a → r.flat a ≡ [] → ⊥

-- the set, if the part before or behind it may be empty
abbrev pub if_null : Bool → List Seen → List Seen
if_null null cs = cond null cs []

-- ---- a value of another rule

-- A value of a rule stands for one of another: with the same spelling, and read as the same.
pub record Comes {A B C : Type 0} (r : Rule A) (to : A → B) (s : Rule C) (made : C → B) (n : ℕ) (c : C) : Type 0 where
  pub value : A
  pub good : r.Good n value
  pub same : r.flat value ≡ s.flat c
  pub is : to value ≡ made c

module _ {A B C : Type 0} {most : ℕ} {first more : List Seen} {null : Bool} {p : Reader B} {r : Rule A} {to : A → B} (s : Rule C) (made : C → B) (P : Full most first more null p r to) (from : (n : ℕ) (c : C) → s.Good n c → Comes r to s made n c) where
  from_reads : (n : ℕ) (c : C) (us : List Kind) → Comes r to s made n c → length (s.flat c) ≤ most → next_shows more us ≡ false → p n (s.flat c ++ us) ≡ got (made c) (n + length (s.flat c)) us
  from_reads n c us x room ends =
      ap (λ w. p n (w ++ us)) (sym x.same) ∙ P.reads n x.value us x.good (omega (arith, room, ap length x.same)) ends ∙ ap (λ b. got b (n + length (r.flat x.value)) us) x.is ∙ ap (λ w. got (made c) (n + length w) us) x.same

  from_starts : (n : ℕ) (c : C) (kind : Kind) (w : List Kind) → Comes r to s made n c → s.flat c ≡ kind ∷ w → shows first kind ≡ true
  from_starts n c kind w x e = P.starts n x.value kind w x.good (x.same ∙ e)

  from_filled : null ≡ false → (n : ℕ) (c : C) → Comes r to s made n c → s.flat c ≡ [] → ⊥
  from_filled z n c x e = P.filled z n x.value x.good (x.same ∙ e)

  pub full_from : Full most first more null p s made
  full_from = record {
    reads = λ n c us good room ends. from_reads n c us (from n c good) room ends;
    starts = λ n c kind w good e. from_starts n c kind w (from n c good) e;
    filled = λ z n c good e. from_filled z n c (from n c good) e;
  }

module _ {A B C : Type 0} (form : C → Option A) (r : Rule A) (to : A → B) (made : C → B) (forth : (c : C) (a : A) → form c ≡ Some a → to a ≡ made c) where
  comes_by : (n : ℕ) (c : C) (o : Option A) → form c ≡ o → GoodFrom form r n o → Comes r to (mapped form r) made n c
  comes_by n c None e good = absurd good
  comes_by n c (Some a) e good = record { value = a; good = good; same = ap (flat_from form r) (sym e); is = forth c a e }

-- the same spellings for the trees that have these forms
pub full_form : {A B C : Type 0} {most : ℕ} {first more : List Seen} {null : Bool} {p : Reader B} {r : Rule A} {to : A → B} (form : C → Option A) (made : C → B) → ((c : C) (a : A) → form c ≡ Some a → to a ≡ made c) → Full most first more null p r to
    → Full most first more null p (mapped form r) made
full_form {r = r} {to = to} form made forth P = full_from (mapped form r) made P (λ n c good. comes_by form r to made forth n c (form c) refl good)

-- the same as another function gives it
pub full_as : {A B : Type 0} {most : ℕ} {first more : List Seen} {null : Bool} {p : Reader B} {r : Rule A} {to : A → B} (made : A → B) → ((a : A) → to a ≡ made a) → Full most first more null p r to → Full most first more null p r made
full_as {r = r} made is P = full_from r made P (λ n c good. record { value = c; good = good; same = refl; is = is c })

-- ---- larger sets, and fewer tokens

pub full_within : {A B : Type 0} {most : ℕ} {first more : List Seen} {null : Bool} {p : Reader B} {r : Rule A} {to : A → B} (first' more' : List Seen) → within first first' ≡ true → within more more' ≡ true → Full most first more null p r to
    → Full most first' more' null p r to
full_within {first = first} {more = more} first' more' f m P = record {
  reads = λ n a us good room ends. P.reads n a us good room (ends_within more more' us m ends);
  starts = λ n a kind w good e. are_within first first' kind f (P.starts n a kind w good e);
  filled = P.filled;
}

pub full_less : {A B : Type 0} {most : ℕ} {first more : List Seen} {null : Bool} {p : Reader B} {r : Rule A} {to : A → B} (less : ℕ) → less ≤ most → Full most first more null p r to → Full less first more null p r to
full_less less h P = record { reads = λ n a us good room ends. P.reads n a us good (omega (arith, h, room)) ends; starts = P.starts; filled = P.filled }

-- ---- one token, or none

pub full_one : {A : Type 0} (make : ℕ → Kind → Option A) (kind : A → Kind) (made : ℕ → Kind → Option A) (most : ℕ) (first : List Seen) → ((n : ℕ) (a : A) → make n (kind a) ≡ Some a → made n (kind a) ≡ Some a) → ((n : ℕ) (a : A) → make n (kind a) ≡ Some a → shows first (kind a) ≡ true)
    → Full most first [] false (read_one made) (one make kind) (λ a. a)
full_one make kind made most first makes firsts = record {
  reads = λ n a us good room ends. ap (λ o. taken o n us) (makes n a good);
  starts = λ n a k w good e. let same : kind a ≡ k = cc in ap (shows first) (sym same) ∙ firsts n a good;
  filled = λ z n a good e. absurd cc;
}

pub full_token : {B : Type 0} {p : Reader B} (most : ℕ) (kind : Kind) (first : List Seen) (b : B) → ((n : ℕ) (us : List Kind) → p n (kind ∷ us) ≡ got b (n + 1) us) → shows first kind ≡ true → Full most first [] false p (token kind) (λ _. b)
full_token most kind first b reads is_first = record {
  reads = λ n a us good room ends. reads n us;
  starts = λ n a k w good e. let same : kind ≡ k = cc in ap (shows first) (sym same) ∙ is_first;
  filled = λ z n a good e. absurd cc;
}

-- ---- another value

pub full_mapped : {A B C : Type 0} {most : ℕ} {first more : List Seen} {null : Bool} {p : Reader B} {r : Rule A} {to : A → B} (made : B → C) → Full most first more null p r to → Full most first more null (read_mapped made p) r (λ a. made (to a))
full_mapped made P = record { reads = λ n a us good room ends. ap (λ o. and_then o (λ b m us. got (made b) m us)) (P.reads n a us good room ends); starts = P.starts; filled = P.filled }

pub full_placed : {A B : Type 0} {most : ℕ} {first more : List Seen} {null : Bool} {p : Reader B} {r : Rule A} {to : A → B} → Full most first more null p r to → Full most first more null (read_placed p) (placed r) (λ x. (x.0, to x.1))
full_placed {r = r} {to = to} P = record {
  reads = λ n a us good room ends. ap (λ o. and_then o (λ b m us. got (n, b) m us)) (P.reads n a.1 us good.1 room ends) ∙ ap (λ i. got (i, to a.1) (n + length (r.flat a.1)) us) (sym good.0);
  starts = λ n a k w good e. P.starts n a.1 k w good.1 e;
  filled = λ z n a good e. P.filled z n a.1 good.1 e;
}

-- ---- one, and then another

module _ {A B C D : Type 0} {most : ℕ} {f1 m1 f2 m2 : List Seen} {z1 z2 : Bool} {p : Reader B} {q : Reader D} {r : Rule A} {s : Rule C} {to : A → B} {to' : C → D}
    (P : Full most f1 m1 z1 p r to) (Q : Full most f2 m2 z2 q s to') (follows : apart f2 m1 ≡ true) where
  -- what the second spells doesn't go on within the first
  by_null : (n : ℕ) (c : C) (us : List Kind) → s.Good n c → s.flat c ≡ [] → (z : Bool) → z2 ≡ z → next_shows (m2 ++ if_null z m1) us ≡ false → next_shows m1 us ≡ false
  by_null n c us good e true z ends = (ends_each m2 m1 us ends).1
  by_null n c us good e false z ends = absurd (Q.filled z n c good e)

  ends_before : (n : ℕ) (c : C) (w us : List Kind) → s.Good n c → s.flat c ≡ w → next_shows (m2 ++ if_null z2 m1) us ≡ false → next_shows m1 (w ++ us) ≡ false
  ends_before n c [] us good e ends = by_null n c us good e z2 refl ends
  ends_before n c (kind ∷ w) us good e ends = are_apart f2 m1 kind follows (Q.starts n c kind w good e)

  abbrev pair : B → D → ℕ → List Kind → Outcome (B × D)
  pair b d m us = got (b, d) m us

  both_reads : (n : ℕ) (a : A) (c : C) (us : List Kind) → r.Good n a → s.Good (n + length (r.flat a)) c → length (r.flat a ++ s.flat c) ≤ most → next_shows (m2 ++ if_null z2 m1) us ≡ false
      → read_both p q n ((r.flat a ++ s.flat c) ++ us) ≡ got (to a, to' c) (n + length (r.flat a ++ s.flat c)) us
  both_reads n a c us good good' room ends =
      let m : ℕ = n + length (r.flat a) in
      let size : length (r.flat a ++ s.flat c) ≡ length (r.flat a) + length (s.flat c) = length-append (r.flat a) (s.flat c) in
      ap (read_both p q n) (append_assoc (r.flat a) (s.flat c) us)
      ∙ ap (λ o. and_then o (λ b m us. and_then (q m us) (pair b))) (P.reads n a (s.flat c ++ us) good (omega (arith, room, size)) (ends_before m c (s.flat c) us good' refl ends))
      ∙ ap (λ o. and_then o (pair (to a))) (Q.reads m c us good' (omega (arith, room, size)) (ends_each m2 (if_null z2 m1) us ends).0)
      ∙ ap (λ i. got (to a, to' c) i us) (omega (arith, size))

  first_by : (n : ℕ) (a : A) (c : C) (kind : Kind) (v w : List Kind) (z : Bool) → z1 ≡ z → r.Good n a → s.Good (n + length (r.flat a)) c → r.flat a ≡ v → v ++ s.flat c ≡ kind ∷ w → shows (f1 ++ if_null z f2) kind ≡ true
  first_by n a c kind [] w true z good good' e h = shows_right f1 f2 kind (Q.starts (n + length (r.flat a)) c kind w good' h)
  first_by n a c kind [] w false z good good' e h = absurd (P.filled z n a good e)
  first_by n a c kind (k ∷ v) w null z good good' e h =
      let same : k ≡ kind = cc in
      shows_left f1 (if_null null f2) kind (subst (λ j. shows f1 j ≡ true) same (P.starts n a k v good e))

  empty_both : (v w : List Kind) → v ++ w ≡ [] → (v ≡ []) × (w ≡ [])
  empty_both [] w e = (refl, e)
  empty_both (k ∷ v) w e = absurd cc

  filled_by : (z z' : Bool) → z1 ≡ z → z2 ≡ z' → (z && z') ≡ false → (n : ℕ) (a : A) (c : C) → r.Good n a → s.Good (n + length (r.flat a)) c → (r.flat a ≡ []) × (s.flat c ≡ []) → ⊥
  filled_by true z' e e' h n a c good good' empty = Q.filled (e' ∙ h) (n + length (r.flat a)) c good' empty.1
  filled_by false z' e e' h n a c good good' empty = P.filled e n a good empty.0

  pub full_both : Full most (f1 ++ if_null z1 f2) (m2 ++ if_null z2 m1) (z1 && z2) (read_both p q) (r & s) (λ x. (to x.0, to' x.1))
  full_both = record {
    reads = λ n x us good room ends. both_reads n x.0 x.1 us good.0 good.1 room ends;
    starts = λ n x kind w good e. first_by n x.0 x.1 kind (r.flat x.0) w z1 refl good.0 good.1 refl e;
    filled = λ z n x good e. filled_by z1 z2 refl refl z n x.0 x.1 good.0 good.1 (empty_both (r.flat x.0) (s.flat x.1) e);
  }

-- a token, and then what is kept
module _ {B C D : Type 0} {most : ℕ} {f1 f2 m2 : List Seen} {z2 : Bool} {p : Reader B} {q : Reader D} {kind : Kind} {s : Rule C} {to : Unit {0} → B} {to' : C → D} (P : Full (suc most) f1 [] false p (token kind) to) (Q : Full most f2 m2 z2 q s to') where
  -- within, there is a token less
  pub full_inside : Full (suc most) f1 m2 false (read_after p q) (kind ▸ s) to'
  full_inside = record {
    reads = λ n c us good room ends. ap (λ o. and_then o (λ b m us. q m us)) (P.reads n tt (s.flat c ++ us) tt (omega arith) (nothing_more (s.flat c ++ us)))
        ∙ Q.reads (n + 1) c us good.1 (omega (arith, room)) ends ∙ ap (λ i. got (to' c) i us) (omega arith);
    starts = λ n c k w good e. let same : kind ≡ k = cc in subst (λ j. shows f1 j ≡ true) same (P.starts n tt kind [] tt refl);
    filled = λ z n c good e. absurd cc;
  }
    where
      nothing_more : (us : List Kind) → next_shows [] us ≡ false
      nothing_more [] = refl
      nothing_more (k ∷ us) = refl

-- the same, not told that there is a token less
pub full_after : {B C D : Type 0} {most : ℕ} {f1 f2 m2 : List Seen} {z2 : Bool} {p : Reader B} {q : Reader D} {kind : Kind} {s : Rule C} {to : Unit {0} → B} {to' : C → D} → Full (suc most) f1 [] false p (token kind) to → Full most f2 m2 z2 q s to'
    → Full most f1 m2 false (read_after p q) (kind ▸ s) to'
full_after {most = most} P Q = full_less most (omega arith) (full_inside P Q)

-- what is kept, and then a token
module _ {A B D : Type 0} {most : ℕ} {f1 m1 f2 : List Seen} {z1 : Bool} {p : Reader B} {q : Reader D} {r : Rule A} {kind : Kind} {to : A → B} {to' : Unit {0} → D}
    (P : Full most f1 m1 z1 p r to) (Q : Full most f2 [] false q (token kind) to') (follows : apart f2 m1 ≡ true) where
  left : (o : Outcome B) (b : B) (d : D) (m : ℕ) (us : List Kind) → and_then o (λ b m us. and_then (q m us) (pair P Q follows b)) ≡ got (b, d) m us → and_then o (λ b m us. and_then (q m us) (λ d l vs. got b l vs)) ≡ got b m us
  left (fault k) b d m us e = absurd cc
  left (got b' i vs) b d m us e = left_by (q i vs) e
    where
      left_by : (o : Outcome D) → and_then o (pair P Q follows b') ≡ got (b, d) m us → and_then o (λ d l vs. got b' l vs) ≡ got b m us
      left_by (fault k) e = absurd cc
      left_by (got d' l ws) e = ap (λ (o : Outcome (B × D)). and_then o (λ x l vs. got x.0 l vs)) e

  pub full_until : Full most (f1 ++ if_null z1 f2) [] false (read_until p q) (r ◂ kind) to
  full_until =
      let both : Full most (f1 ++ if_null z1 f2) [] (z1 && false) (read_both p q) (r & token kind) (λ x. (to x.0, to' x.1)) = full_both P Q follows in
      record {
        reads = λ n a us good room ends. left (p n ((r.flat a ++ kind ∷ []) ++ us)) (to a) (to' tt) (n + length (r.flat a ++ kind ∷ [])) us (both.reads n (a, tt) us good room ends);
        starts = λ n a k w good e. both.starts n (a, tt) k w good e;
        filled = λ z n a good e. not_empty (r.flat a) e;
      }
    where
      not_empty : (w : List Kind) → w ++ kind ∷ [] ≡ [] → ⊥
      not_empty [] e = absurd cc
      not_empty (k ∷ w) e = absurd cc
