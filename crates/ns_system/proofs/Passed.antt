-- What a loop over an outlet passes on.
use Rattle.std.proofs.Common.{◌≡◌, ℕ, zero, suc, ◌+◌, List, [], ◌∷◌, ◌++◌, take, drop, Option, Some, None, refl, sym, ap, ◌∙◌, append_assoc, append-nil, arith}
use Rattle.ns_base.specs.Sink.{with_bytes}

no_bytes : (n : ℕ) → take {A = ℕ} n [] ≡ []
no_bytes zero = refl
no_bytes (suc n) = refl

-- the first bytes, and then the next ones
take_two : (i n : ℕ) (xs : List ℕ) → take (i + n) xs ≡ take i xs ++ take n (drop i xs)
take_two zero n xs = ap (λ j. take j xs) (omega arith)
take_two (suc i) n [] = no_bytes (suc i + n) ∙ sym (no_bytes n)
take_two (suc i) n (x ∷ xs) = let e : suc i + n ≡ suc (i + n) = omega arith in ap (λ j. take j (x ∷ xs)) e ∙ ap (λ ys. x ∷ ys) (take_two i n xs)

pub nothing_passed : (old : Option (List ℕ)) (bytes : List ℕ) → old ≡ with_bytes (take 0 bytes) old
nothing_passed None bytes = refl
nothing_passed (Some v) bytes = ap (λ u. Some u) (sym (append-nil v))

pub more_passed : (old : Option (List ℕ)) (xs ys : List ℕ) → with_bytes ys (with_bytes xs old) ≡ with_bytes (xs ++ ys) old
more_passed None xs ys = refl
more_passed (Some v) xs ys = ap (λ u. Some u) (append_assoc v xs ys)

-- a write took some bytes of the rest
pub passed : (old mid new : Option (List ℕ)) (bytes rest : List ℕ) (i n j : ℕ) → rest ≡ drop i bytes → j ≡ i + n → mid ≡ with_bytes (take i bytes) old → new ≡ with_bytes (take n rest) mid → new ≡ with_bytes (take j bytes) old
passed old mid new bytes rest i n j r e a b =
    b ∙ ap (λ u. with_bytes (take n u) mid) r ∙ ap (λ u. with_bytes (take n (drop i bytes)) u) a ∙ more_passed old (take i bytes) (take n (drop i bytes)) ∙ ap (λ u. with_bytes u old) (sym (take_two i n bytes) ∙ ap (λ k. take k bytes) (sym e))
