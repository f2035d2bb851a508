-- What one rule or another spells is read whole, where the next token tells which.
use Rattle.std.proofs.Common.{◌≡◌, ℕ, ◌+◌, ◌≤◌, ◌⊎◌, inl, inr, List, [], ◌∷◌, ◌++◌, length, Option, Some, None, Bool, true, false, cond, refl, sym, ap, ◌∙◌, arith}
use Rattle.ns_tree.specs.declared.token.Kind.{Kind}
use Rattle.ns_tree.specs.Rule.{Rule, maybe, either}
use Rattle.ns_parse_tokens.specs.Read.{Outcome, Reader, got, begins, read_none, read_or, read_maybe}
use Rattle.ns_parse.proofs.Seen.{Seen, shows, next_shows, apart, within, Sees, are_apart, are_within, shows_left, shows_right, ends_each, next_sees}
use Rattle.ns_parse.proofs.Full.{Full, Comes, if_null, full_mapped}

-- A value of the rule is one of the first, or one of the second.
abbrev pub Splits : {A B C D : Type 0} → Rule A → (A → B) → Rule C → (C → B) → Rule D → (D → B) → Type 0
Splits {D = D} r to s to' t made = (n : ℕ) (d : D) → t.Good n d → Comes r to t made n d ⊎ Comes s to' t made n d

module _ {A B C D : Type 0} {most : ℕ} {f1 m1 f2 m2 : List Seen} {z : Bool} {p q : Reader B} {r : Rule A} {s : Rule C} {to : A → B} {to' : C → B} (test : Kind → Bool) (cs : List Seen) (S : Sees test cs) (t : Rule D) (made : D → B)
    (P : Full most f1 m1 false p r to) (Q : Full most f2 m2 z q s to') (split : Splits r to s to' t made) (begin : within f1 cs ≡ true) (others : apart f2 cs ≡ true) where
  chosen : (n : ℕ) (ts : List Kind) (o : Outcome B) → begins test ts ≡ true → p n ts ≡ o → read_or test p q n ts ≡ o
  chosen n ts o h e = ap (λ v. cond v (p n ts) (q n ts)) h ∙ e

  other : (n : ℕ) (ts : List Kind) (o : Outcome B) → begins test ts ≡ false → q n ts ≡ o → read_or test p q n ts ≡ o
  other n ts o h e = ap (λ v. cond v (p n ts) (q n ts)) h ∙ e

  begun : (n : ℕ) (a : A) (w us : List Kind) → r.Good n a → r.flat a ≡ w → begins test (w ++ us) ≡ true
  begun n a [] us good e = absurd (P.filled refl n a good e)
  begun n a (k ∷ w) us good e = S k ∙ are_within f1 cs k begin (P.starts n a k w good e)

  passed_by : (n : ℕ) (c : C) (us : List Kind) (v : Bool) → z ≡ v → s.Good n c → s.flat c ≡ [] → next_shows (if_null v cs) us ≡ false → next_shows cs us ≡ false
  passed_by n c us true e good empty ends = ends
  passed_by n c us false e good empty ends = absurd (Q.filled e n c good empty)

  passed : (n : ℕ) (c : C) (w us : List Kind) → s.Good n c → s.flat c ≡ w → next_shows (if_null z cs) us ≡ false → begins test (w ++ us) ≡ false
  passed n c [] us good e ends = next_sees test cs S us ∙ passed_by n c us z refl good e ends
  passed n c (k ∷ w) us good e ends = S k ∙ are_apart f2 cs k others (Q.starts n c k w good e)

  choice_reads : (n : ℕ) (d : D) (us : List Kind) → Comes r to t made n d ⊎ Comes s to' t made n d → length (t.flat d) ≤ most → next_shows (m1 ++ (m2 ++ if_null z cs)) us ≡ false
      → read_or test p q n (t.flat d ++ us) ≡ got (made d) (n + length (t.flat d)) us
  choice_reads n d us (inl x) room ends =
      ap (λ w. read_or test p q n (w ++ us)) (sym x.same)
      ∙ chosen n (r.flat x.value ++ us) (got (to x.value) (n + length (r.flat x.value)) us) (begun n x.value (r.flat x.value) us x.good refl)
      (P.reads n x.value us x.good (omega (arith, room, ap length x.same)) (ends_each m1 (m2 ++ if_null z cs) us ends).0)
      ∙ ap (λ b. got b (n + length (r.flat x.value)) us) x.is ∙ ap (λ w. got (made d) (n + length w) us) x.same
  choice_reads n d us (inr x) room ends =
      let ends' : (next_shows m2 us ≡ false) × (next_shows (if_null z cs) us ≡ false) = ends_each m2 (if_null z cs) us (ends_each m1 (m2 ++ if_null z cs) us ends).1 in
      ap (λ w. read_or test p q n (w ++ us)) (sym x.same)
      ∙ other n (s.flat x.value ++ us) (got (to' x.value) (n + length (s.flat x.value)) us) (passed n x.value (s.flat x.value) us x.good refl ends'.1)
      (Q.reads n x.value us x.good (omega (arith, room, ap length x.same)) ends'.0)
      ∙ ap (λ b. got b (n + length (s.flat x.value)) us) x.is ∙ ap (λ w. got (made d) (n + length w) us) x.same

  choice_starts : (n : ℕ) (d : D) (k : Kind) (w : List Kind) → Comes r to t made n d ⊎ Comes s to' t made n d → t.flat d ≡ k ∷ w → shows (f1 ++ f2) k ≡ true
  choice_starts n d k w (inl x) e = shows_left f1 f2 k (P.starts n x.value k w x.good (x.same ∙ e))
  choice_starts n d k w (inr x) e = shows_right f1 f2 k (Q.starts n x.value k w x.good (x.same ∙ e))

  choice_filled : z ≡ false → (n : ℕ) (d : D) → Comes r to t made n d ⊎ Comes s to' t made n d → t.flat d ≡ [] → ⊥
  choice_filled e n d (inl x) empty = P.filled refl n x.value x.good (x.same ∙ empty)
  choice_filled e n d (inr x) empty = Q.filled e n x.value x.good (x.same ∙ empty)

  pub full_choice : Full most (f1 ++ f2) (m1 ++ (m2 ++ if_null z cs)) z (read_or test p q) t made
  full_choice = record {
    reads = λ n d us good room ends. choice_reads n d us (split n d good) room ends;
    starts = λ n d k w good e. choice_starts n d k w (split n d good) e;
    filled = λ e n d good empty. choice_filled e n d (split n d good) empty;
  }

pub splits_either : {A B C : Type 0} (r : Rule A) (s : Rule C) (to : A ⊎ C → B) → Splits r (λ a. to (inl a)) s (λ c. to (inr c)) (either r s) to
splits_either r s to n (inl a) good = inl (record { value = a; good = good; same = refl; is = refl })
splits_either r s to n (inr c) good = inr (record { value = c; good = good; same = refl; is = refl })

pub full_either : {A B C : Type 0} {most : ℕ} {f1 m1 f2 m2 : List Seen} {z : Bool} {p q : Reader B} {r : Rule A} {s : Rule C} (test : Kind → Bool) (cs : List Seen) → Sees test cs → (to : A ⊎ C → B) → Full most f1 m1 false p r (λ a. to (inl a)) → Full most f2 m2 z q s (λ c. to (inr c))
    → within f1 cs ≡ true → apart f2 cs ≡ true → Full most (f1 ++ f2) (m1 ++ (m2 ++ if_null z cs)) z (read_or test p q) (either r s) to
full_either {r = r} {s = s} test cs S to P Q begin others = full_choice test cs S (either r s) to P Q (splits_either r s to) begin others

-- no token
abbrev pub empty : Rule (Unit {0})
empty = record { flat = λ _. []; Good = λ n _. Unit {0}; Front = λ n f. f ≡ [] }

pub full_none : {B : Type 0} (most : ℕ) (b : B) → Full most [] [] true (read_none b) empty (λ _. b)
full_none most b = record { reads = λ n a us good room ends. ap (λ i. got b i us) (omega arith); starts = λ n a k w good e. absurd cc; filled = λ z n a good e. absurd cc }

pub splits_maybe : {A B : Type 0} (r : Rule A) (to : Option A → B) → Splits r (λ a. to (Some a)) empty (λ _. to None) (maybe r) to
splits_maybe r to n None good = inr (record { value = tt; good = tt; same = refl; is = refl })
splits_maybe r to n (Some a) good = inl (record { value = a; good = good; same = refl; is = refl })

-- one, or nothing
pub full_option : {A B : Type 0} {most : ℕ} {first more : List Seen} {p : Reader B} {r : Rule A} (test : Kind → Bool) (cs : List Seen) → Sees test cs → (to : Option A → B) → Full most first more false p r (λ a. to (Some a)) → within first cs ≡ true
    → Full most (first ++ []) (more ++ cs) true (read_or test p (read_none (to None))) (maybe r) to
full_option {most = most} {r = r} test cs S to P begin = full_choice test cs S (maybe r) to P (full_none most (to None)) (splits_maybe r to) begin refl

pub full_maybe : {A : Type 0} {most : ℕ} {first more : List Seen} {p : Reader A} {r : Rule A} (test : Kind → Bool) (cs : List Seen) → Sees test cs → Full most first more false p r (λ a. a) → within first cs ≡ true
    → Full most (first ++ []) (more ++ cs) true (read_maybe test p) (maybe r) (λ o. o)
full_maybe test cs S P begin = full_option test cs S (λ o. o) (full_mapped Some P) begin

-- the first of two, where the rule gives nothing else
pub full_only : {A B : Type 0} {most : ℕ} {first more : List Seen} {p : Reader B} {r : Rule A} {to : A → B} (test : Kind → Bool) (cs : List Seen) → Sees test cs → (q : Reader B) → Full most first more false p r to → within first cs ≡ true → Full most first more false (read_or test p q) r to
full_only {A = A} {first = first} {p = p} {r = r} {to = to} test cs S q P begin = record {
  reads = λ n a us good room ends. ap (λ v. cond v (p n (r.flat a ++ us)) (q n (r.flat a ++ us))) (begun n a (r.flat a) us good refl) ∙ P.reads n a us good room ends;
  starts = P.starts;
  filled = P.filled;
}
  where
    begun : (n : ℕ) (a : A) (w us : List Kind) → r.Good n a → r.flat a ≡ w → begins test (w ++ us) ≡ true
    begun n a [] us good e = absurd (P.filled refl n a good e)
    begun n a (k ∷ w) us good e = S k ∙ are_within first cs k begin (P.starts n a k w good e)

-- the second of two, where the rule gives nothing else
pub full_other : {A B : Type 0} {most : ℕ} {first more : List Seen} {p : Reader B} {r : Rule A} {to : A → B} (test : Kind → Bool) (cs : List Seen) → Sees test cs → (q : Reader B) → Full most first more false p r to → apart first cs ≡ true → Full most first more false (read_or test q p) r to
full_other {A = A} {first = first} {p = p} {r = r} {to = to} test cs S q P others = record {
  reads = λ n a us good room ends. ap (λ v. cond v (q n (r.flat a ++ us)) (p n (r.flat a ++ us))) (passed n a (r.flat a) us good refl) ∙ P.reads n a us good room ends;
  starts = P.starts;
  filled = P.filled;
}
  where
    passed : (n : ℕ) (a : A) (w us : List Kind) → r.Good n a → r.flat a ≡ w → begins test (w ++ us) ≡ false
    passed n a [] us good e = absurd (P.filled refl n a good e)
    passed n a (k ∷ w) us good e = S k ∙ are_apart first cs k others (P.starts n a k w good e)
