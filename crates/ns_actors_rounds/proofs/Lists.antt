-- Elements of lists that are there.
use Rattle.std.proofs.Common.{◌≡◌, ◌<◌, ℕ, ◌+◌, List, [], ◌∷◌, ap, ◌∙◌, arith, Some, slice_get, get_or, length, drop}
use Rattle.std.proofs.lemmas.List.{drop_more}
use Rattle.std.proofs.lemmas.Option.{get_or_from_slice_get, slice_get-get_or}

-- An element that is there.
pub record IsThere {A : Type 0} (xs : List A) (k : ℕ) : Type 0 where
  pub element : A
  pub is : slice_get xs k ≡ Some element

pub there_is : {A : Type 0} (xs : List A) (k : ℕ) → k < length xs → IsThere xs k
there_is [] k within = absurd (omega (arith, within))
there_is (x ∷ xs) k within = record { element = get_or (x ∷ xs) k x; is = slice_get-get_or (x ∷ xs) k x within }

-- it is the first of those from its place on
pub drop_there : {A : Type 0} (xs : List A) (k : ℕ) (x : A) → k < length xs → slice_get xs k ≡ Some x → drop k xs ≡ x ∷ drop (k + 1) xs
drop_there {A} xs k x within got = drop_more xs k x within ∙ ap (λ (y : A). y ∷ drop (k + 1) xs) (get_or_from_slice_get xs k x x got)
