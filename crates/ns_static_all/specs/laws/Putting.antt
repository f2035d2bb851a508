-- Items that are put in order ascend, and are those that were put.
use Rattle.std.proofs.Common.{◌≡◌, ◌∙◌, ◌⊎◌, inl, inr, refl, sym, subst, ℕ, Bool, true, false, List, [], ◌∷◌, length, if◌then◌else◌, fold}
use Rattle.ns_static_rules.specs.Least.{comes_before}
use Rattle.ns_static_rules.specs.laws.Order.{before_before}
use Rattle.ns_static_all.specs.InOrder.{put, in_order}
use Rattle.ns_static_all.specs.Ascending.{IsOneOf, BeforeAll, Ascends, AreAmong}
use Rattle.ns_static_all.specs.lemmas.Keys.{neither_first}

module _ {X : Type 0} (key : X → List ℕ) (size : ℕ) (long : (x : X) → length (key x) ≡ size) (same : (x y : X) → key x ≡ key y → x ≡ y) where
  abbrev pub before : X → X → Bool
  before x y = comes_before (key x) (key y)

  pub neither_before : (x y : X) → before x y ≡ false → before y x ≡ false → x ≡ y
  neither_before x y h k = same x y (neither_first (key x) (key y) (long x ∙ sym (long y)) h k)

  pub before_all : (x y : X) (xs : List X) → before x y ≡ true → BeforeAll key y xs → BeforeAll key x xs
  before_all x y [] h k = tt
  before_all x y (z ∷ xs) h (k, rest) = (before_before (key x) (key y) (key z) h k, before_all x y xs h rest)

  -- what is put among items, by the two tests
  abbrev put_by : Bool → Bool → X → List X → X → List X
  put_by a b x xs item = if a then item ∷ x ∷ xs else if b then x ∷ put key xs item else x ∷ xs

  put_before_all_by : (x y : X) (xs : List X) (item : X) (a b : Bool) → before x item ≡ true → BeforeAll key x (y ∷ xs) → BeforeAll key x (put key xs item) →
      BeforeAll key x (put_by a b y xs item)
  put_before_all_by x y xs item true b h k rest = (h, k)
  put_before_all_by x y xs item false true h k rest = (k.0, rest)
  put_before_all_by x y xs item false false h k rest = k

  put_before_all : (x : X) (xs : List X) (item : X) → before x item ≡ true → BeforeAll key x xs → BeforeAll key x (put key xs item)
  put_before_all x [] item h k = (h, tt)
  put_before_all x (y ∷ xs) item h k = put_before_all_by x y xs item (before item y) (before y item) h k (put_before_all x xs item h k.1)

  put_ascends_by : (x : X) (xs : List X) (item : X) (a b : Bool) → (a ≡ true → before item x ≡ true) → (b ≡ true → before x item ≡ true) →
      Ascends key (x ∷ xs) → Ascends key (put key xs item) → Ascends key (put_by a b x xs item)
  put_ascends_by x xs item true b p q (h, k) rest = ((p refl, before_all item x xs (p refl) h), (h, k))
  put_ascends_by x xs item false true p q (h, k) rest = (put_before_all x xs item (q refl) h, rest)
  put_ascends_by x xs item false false p q h rest = h

  put_ascends : (xs : List X) (item : X) → Ascends key xs → Ascends key (put key xs item)
  put_ascends [] item h = (tt, tt)
  put_ascends (x ∷ xs) item h = put_ascends_by x xs item (before item x) (before x item) (λ e. e) (λ e. e) h (put_ascends xs item h.1)

  pub in_order_ascends : (before items : List X) → Ascends key before → Ascends key (fold (put key) before items)
  in_order_ascends before [] h = h
  in_order_ascends before (x ∷ items) h = in_order_ascends (put key before x) items (put_ascends before x h)

  -- ---- those that were put

  put_among_by : (x : X) (xs : List X) (item other : X) (a b : Bool) →
      IsOneOf (put_by a b x xs item) other → (IsOneOf (put key xs item) other → (item ≡ other) ⊎ IsOneOf xs other) → (item ≡ other) ⊎ IsOneOf (x ∷ xs) other
  put_among_by x xs item other true b h k = h
  put_among_by x xs item other false true (inl h) k = inr (inl h)
  put_among_by x xs item other false true (inr h) k = elim (k h) [ inl e ↦ inl e | inr e ↦ inr (inr e) ]
  put_among_by x xs item other false false h k = inr h

  put_among : (xs : List X) (item other : X) → IsOneOf (put key xs item) other → (item ≡ other) ⊎ IsOneOf xs other
  put_among [] item other h = h
  put_among (x ∷ xs) item other h = put_among_by x xs item other (before item x) (before x item) h (put_among xs item other)

  put_it_by : (x : X) (xs : List X) (item : X) (a b : Bool) → (a ≡ false → b ≡ false → item ≡ x) →
      IsOneOf (put key xs item) item → IsOneOf (put_by a b x xs item) item
  put_it_by x xs item true b same h = inl refl
  put_it_by x xs item false true same h = inr h
  put_it_by x xs item false false same h = inl (sym (same refl refl))

  put_it : (xs : List X) (item : X) → IsOneOf (put key xs item) item
  put_it [] item = inl refl
  put_it (x ∷ xs) item = put_it_by x xs item (before item x) (before x item) (neither_before item x) (put_it xs item)

  put_others_by : (x : X) (xs : List X) (item other : X) (a b : Bool) → IsOneOf (x ∷ xs) other →
      (IsOneOf xs other → IsOneOf (put key xs item) other) → IsOneOf (put_by a b x xs item) other
  put_others_by x xs item other true b h k = inr h
  put_others_by x xs item other false true (inl h) k = inl h
  put_others_by x xs item other false true (inr h) k = inr (k h)
  put_others_by x xs item other false false h k = h

  put_others : (xs : List X) (item other : X) → IsOneOf xs other → IsOneOf (put key xs item) other
  put_others [] item other h = absurd h
  put_others (x ∷ xs) item other h = put_others_by x xs item other (before item x) (before x item) h (put_others xs item other)

  among_either : (x : X) (xs before : List X) (other : X) → ((x ≡ other) ⊎ IsOneOf before other) ⊎ IsOneOf xs other → IsOneOf before other ⊎ IsOneOf (x ∷ xs) other
  among_either x xs before other (inl (inl h)) = inr (inl h)
  among_either x xs before other (inl (inr h)) = inl h
  among_either x xs before other (inr h) = inr (inr h)

  fold_among : (before items : List X) (other : X) → IsOneOf (fold (put key) before items) other → IsOneOf before other ⊎ IsOneOf items other
  fold_among before [] other h = inl h
  fold_among before (x ∷ items) other h = elim (fold_among (put key before x) items other h) [ inl e ↦ among_either x items before other (inl (put_among before x other e)) | inr e ↦ inr (inr e) ]

  fold_keeps : (before items : List X) (other : X) → IsOneOf before other → IsOneOf (fold (put key) before items) other
  fold_keeps before [] other h = h
  fold_keeps before (x ∷ items) other h = fold_keeps (put key before x) items other (put_others before x other h)

  none_lost : (before items : List X) (other : X) → IsOneOf items other → IsOneOf (fold (put key) before items) other
  none_lost before [] other h = absurd h
  none_lost before (x ∷ items) other (inl h) = fold_keeps (put key before x) items other (subst (λ y. IsOneOf (put key before x) y) h (put_it before x))
  none_lost before (x ∷ items) other (inr h) = none_lost (put key before x) items other h

  pub ordered_are_items : (items : List X) → AreAmong (in_order key items) items
  ordered_are_items items other h = elim (fold_among [] items other h) [ inl e ↦ absurd e | inr e ↦ e ]

  pub ordered_miss_none : (items : List X) → AreAmong items (in_order key items)
  ordered_miss_none items other h = none_lost [] items other h
