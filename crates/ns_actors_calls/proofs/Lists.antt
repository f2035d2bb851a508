-- Elements of lists that are there.
use Rattle.std.proofs.Common.{◌≡◌, ◌<◌, ◌≤◌, ℕ, ◌+◌, List, [], ◌∷◌, refl, sym, ap, ◌∙◌, subst, arith, Option, Some, None, true, nat_lt, slice_get, get_or, length, drop}
use Rattle.std.specs.Prelude.{slice_set}
use Rattle.std.proofs.lemmas.Bool.{ltb-true}
use Rattle.std.proofs.lemmas.List.{drop_more, get_or-set_same, length-set, set-get_or}
use Rattle.std.proofs.lemmas.Option.{get_or_from_slice_get, same_Some, slice_get-get_or, slice_get_past, slice_get_read, slice_get_within}
use Rattle.std.specs.Option.{ForSome}

-- An element that is there.
pub record IsThere {A : Type 0} (xs : List A) (k : ℕ) : Type 0 where
  pub element : A
  pub is : slice_get xs k ≡ Some element

pub there_is : {A : Type 0} (xs : List A) (k : ℕ) → k < length xs → IsThere xs k
there_is [] k within = absurd (omega (arith, within))
there_is (x ∷ xs) k within = record { element = get_or (x ∷ xs) k x; is = slice_get-get_or (x ∷ xs) k x within }

module _ {A : Type 0} where
  -- an element is the first of those from its place on
  pub drop_got : (xs : List A) (k : ℕ) (x : A) → slice_get xs k ≡ Some x → drop k xs ≡ x ∷ drop (k + 1) xs
  drop_got xs k x got =
      drop_more xs k x (slice_get_within xs k x got) ∙ ap (λ (y : A). y ∷ drop (k + 1) xs) (get_or_from_slice_get xs k x x got)

  -- one that is set is there
  pub set_got : (xs : List A) (k : ℕ) (x : A) → k < length xs → slice_get (slice_set xs k x) k ≡ Some x
  set_got xs k x within =
      slice_get-get_or (slice_set xs k x) k x (subst (λ (n : ℕ). k < n) (sym (length-set xs k x)) within)
      ∙ ap (λ (y : A). Some y) (get_or-set_same xs k x x within)

  -- one that was there is set again
  pub set_same : (xs : List A) (k : ℕ) (x : A) → slice_get xs k ≡ Some x → slice_set xs k x ≡ xs
  set_same xs k x got = ap (λ (y : A). slice_set xs k y) (sym (get_or_from_slice_get xs k x x got)) ∙ set-get_or xs k x

  -- an element that was read is there
  pub read_got : (xs : List A) (k : ℕ) (x : A) → k < length xs → x ≡ get_or xs k x → slice_get xs k ≡ Some x
  read_got xs k x within is = slice_get_read xs (length xs) k x refl within is

  -- what holds of it holds of all that is there
  pub all_got : (P : A → Type 0) (o : Option A) (x : A) → o ≡ Some x → P x → ForSome o P
  all_got P o x got holds other there = subst P (same_Some x other (sym got ∙ there)) holds

  -- one that was looked for is there, or isn't
  pub looked_up : (xs ys : List A) (k : ℕ) (x : A) → xs ≡ ys → true ≡ nat_lt k (length xs) → x ≡ get_or xs k x → slice_get ys k ≡ Some x
  looked_up xs ys k x same within is =
      subst (λ (zs : List A). slice_get zs k ≡ Some x) same (read_got xs k x (ltb-true k (length xs) (sym within)) is)

  pub looked_past : (xs ys : List A) (k : ℕ) → xs ≡ ys → length xs ≤ k → slice_get ys k ≡ None
  looked_past xs ys k same past = subst (λ (zs : List A). slice_get zs k ≡ None) same (slice_get_past xs k past)
