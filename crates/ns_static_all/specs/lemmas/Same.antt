-- Lists that ascend and have the same items are the same.
use Rattle.std.proofs.Common.{◌≡◌, inl, inr, refl, sym, subst, ℕ, Bool, true, List, [], ◌∷◌}
use Rattle.ns_static_rules.specs.Least.{comes_before}
use Rattle.ns_static_rules.specs.laws.Order.{before_before, not_both, not_itself}
use Rattle.ns_static_all.specs.Ascending.{IsOneOf, BeforeAll, Ascends, AreAmong}

module _ {X : Type 0} (key : X → List ℕ) where
  abbrev before : X → X → Bool
  before x y = comes_before (key x) (key y)

  pub before_each : (x y : X) (xs : List X) → BeforeAll key x xs → IsOneOf xs y → before x y ≡ true
  before_each x y [] h k = absurd k
  before_each x y (z ∷ xs) (h, rest) (inl e) = subst (λ w. before x w ≡ true) e h
  before_each x y (z ∷ xs) (h, rest) (inr k) = before_each x y xs rest k

  not_before_itself : (x : X) → before x x ≡ true → ⊥
  not_before_itself x h = not_both (before x x) h (not_itself (key x))

  one_way : (x y : X) → before x y ≡ true → before y x ≡ true → ⊥
  one_way x y h k = not_before_itself x (before_before (key x) (key y) (key x) h k)

  same_first : (x y : X) (xs ys : List X) → BeforeAll key x xs → BeforeAll key y ys → IsOneOf (y ∷ ys) x → IsOneOf (x ∷ xs) y → x ≡ y
  same_first x y xs ys h k (inl e) q = sym e
  same_first x y xs ys h k (inr p) (inl e) = e
  same_first x y xs ys h k (inr p) (inr q) = absurd (one_way x y (before_each x y xs h q) (before_each y x ys k p))

  in_rest : (x y : X) (xs : List X) → before x y ≡ true → IsOneOf (x ∷ xs) y → IsOneOf xs y
  in_rest x y xs h (inl e) = absurd (not_before_itself x (subst (λ w. before x w ≡ true) (sym e) h))
  in_rest x y xs h (inr k) = k

  rest_among : (x y : X) (xs ys : List X) → x ≡ y → BeforeAll key x xs → AreAmong (x ∷ xs) (y ∷ ys) → AreAmong xs ys
  rest_among x y xs ys e h p item k = in_rest y item ys (subst (λ w. before w item ≡ true) e (before_each x item xs h k)) (p item (inr k))

  join : (x y : X) (xs ys : List X) → x ≡ y → xs ≡ ys → x ∷ xs ≡ y ∷ ys
  join x y xs ys e f = cc

  pub same_list : (xs ys : List X) → Ascends key xs → Ascends key ys → AreAmong xs ys → AreAmong ys xs → xs ≡ ys
  same_list [] [] h k p q = refl
  same_list [] (y ∷ ys) h k p q = absurd (q y (inl refl))
  same_list (x ∷ xs) [] h k p q = absurd (p x (inl refl))
  same_list (x ∷ xs) (y ∷ ys) (h, up) (k, rise) p q =
      let e : x ≡ y = same_first x y xs ys h k (p x (inl refl)) (q y (inl refl)) in
      join x y xs ys e (same_list xs ys up rise (rest_among x y xs ys e h p) (rest_among y x ys xs (sym e) k q))
