-- Items that are sorted, and told where they come behind the one before them, are in order, each once.
use Rattle.std.proofs.Common.{◌≡◌, ◌∙◌, ◌⊎◌, inl, inr, refl, sym, subst, ℕ, suc, zero, ◌+◌, ◌<◌, Bool, true, false, List, [], ◌∷◌, length, Option, Some, None, if◌then◌else◌, arith}
use Rattle.std.specs.Cmp.{IsStrictWeakOrder}
use Rattle.std.specs.List.{Contains, slice_index_or}
use Rattle.std.specs.List.Sorted.{IsSortedBy, IsPermutation}
use Rattle.std.proofs.lemmas.List.Sorted.{Contains-permutation, IsPermutation-sym}
use Rattle.ns_static_rules.specs.Least.{comes_before}
use Rattle.ns_static_rules.specs.laws.Order.{before_before, before_other, is_false, not_both, not_itself}
use Rattle.ns_static_all.specs.InOrder.{in_order, once_behind, is_behind}
use Rattle.ns_static_all.specs.Ascending.{IsOneOf, BeforeAll, Ascends, AreAmong, AreAllOf}
use Rattle.ns_static_all.specs.laws.Putting.{neither_before, before_all, in_order_ascends, ordered_are_items, ordered_miss_none}
use Rattle.ns_static_all.specs.lemmas.Same.{same_list}

module _ {X : Type 0} (key : X → List ℕ) (size : ℕ) (long : (x : X) → length (key x) ≡ size) (same : (x y : X) → key x ≡ key y → x ≡ y) where
  abbrev before : X → X → Bool
  before x y = comes_before (key x) (key y)

  -- ---- the order of the sort

  pub order_is_weak : IsStrictWeakOrder before
  order_is_weak = record {
    one_way = λ x y h. is_false (before y x) (λ k. not_both (before x x) (before_before (key x) (key y) (key x) h k) (not_itself (key x)));
    chain = λ x y z h k. is_false (before x z) (λ q. not_both (before x y) (before_other (key x) (key y) (key z) (long x ∙ sym (long y)) (long y ∙ sym (long z)) q k) h);
  }

  -- ---- what is told

  abbrev Risen : X → List X → Type 0
  Risen last told = BeforeAll key last told × Ascends key told

  told_by : (last x : X) (b : Bool) (rest more : List X) → (b ≡ true → before last x ≡ true) → Risen x rest → Risen last more → Risen last (if b then x ∷ rest else more)
  told_by last x true rest more h (k, up) other = ((h refl, before_all key size long same last x rest (h refl) k), (k, up))
  told_by last x false rest more h k other = other

  told_rises : (last : X) (xs : List X) → Risen last (once_behind key (Some last) xs)
  told_rises last [] = (tt, tt)
  told_rises last (x ∷ xs) = told_by last x (before last x) (once_behind key (Some x) xs) (once_behind key (Some last) xs) (λ e. e) (told_rises x xs) (told_rises last xs)

  told_ascends : (xs : List X) → Ascends key (once_behind key None xs)
  told_ascends [] = tt
  told_ascends (x ∷ xs) = told_rises x xs

  -- ---- what is told was there

  among_told_by : (x item : X) (b : Bool) (xs rest more : List X) → (IsOneOf rest item → IsOneOf xs item) → (IsOneOf more item → IsOneOf xs item) →
      IsOneOf (if b then x ∷ rest else more) item → IsOneOf (x ∷ xs) item
  among_told_by x item true xs rest more p q (inl e) = inl e
  among_told_by x item true xs rest more p q (inr k) = inr (p k)
  among_told_by x item false xs rest more p q k = inr (q k)

  told_were_there : (last : Option X) (xs : List X) → AreAmong (once_behind key last xs) xs
  told_were_there last [] item h = h
  told_were_there last (x ∷ xs) item h =
      among_told_by x item (is_behind key last x) xs (once_behind key (Some x) xs) (once_behind key last xs) (told_were_there (Some x) xs item) (told_were_there last xs item) h

  -- ---- and none is left out where they are sorted

  abbrev SortedBehind : X → List X → Type 0
  SortedBehind last [] = Unit {0}
  SortedBehind last (x ∷ xs) = (before x last ≡ false) × SortedBehind x xs

  abbrev ToldOrLast : X → X → List X → Type 0
  ToldOrLast last item told = (last ≡ item) ⊎ IsOneOf told item

  none_left_by : (last x item : X) (b : Bool) (xs rest more : List X) → (b ≡ false → last ≡ x) →
      (IsOneOf xs item → ToldOrLast x item rest) → (b ≡ false → IsOneOf xs item → ToldOrLast last item more) →
      IsOneOf (x ∷ xs) item → ToldOrLast last item (if b then x ∷ rest else more)
  none_left_by last x item true xs rest more same p q (inl e) = inr (inl e)
  none_left_by last x item true xs rest more same p q (inr k) = inr (p k)
  none_left_by last x item false xs rest more same p q (inl e) = inl (subst (λ w. last ≡ w) e (same refl))
  none_left_by last x item false xs rest more same p q (inr k) = q refl k

  none_left : (last : X) (xs : List X) → SortedBehind last xs → (item : X) → IsOneOf xs item → ToldOrLast last item (once_behind key (Some last) xs)
  none_left last [] h item k = absurd k
  none_left last (x ∷ xs) (h, rest) item k =
      none_left_by last x item (before last x) xs (once_behind key (Some x) xs) (once_behind key (Some last) xs)
      (λ e. neither_before key size long same last x e h) (none_left x xs rest item)
      (λ e. none_left last xs (subst (λ w. SortedBehind w xs) (sym (neither_before key size long same last x e h)) rest) item) k

  abbrev IsSortedList : List X → Type 0
  IsSortedList [] = Unit {0}
  IsSortedList (x ∷ xs) = SortedBehind x xs

  none_left_out : (xs : List X) → IsSortedList xs → AreAmong xs (once_behind key None xs)
  none_left_out [] h item k = k
  none_left_out (x ∷ xs) h item (inl e) = inl e
  none_left_out (x ∷ xs) h item (inr k) = none_left x xs h item k

  -- ---- what the sort gives

  one_further : (x : X) (xs : List X) → IsSortedBy before (x ∷ xs) → IsSortedBy before xs
  one_further x xs h k d p q =
      let e : suc k + 1 ≡ suc (k + 1) = omega arith in
      subst (λ n. before (slice_index_or (x ∷ xs) n d) (slice_index_or (x ∷ xs) (suc k) d) ≡ false) e (h (suc k) d (omega arith) (omega arith))

  sorted_behind : (x : X) (xs : List X) → IsSortedBy before (x ∷ xs) → SortedBehind x xs
  sorted_behind x [] h = tt
  sorted_behind x (y ∷ xs) h = (h 0 x (omega arith) (omega arith), sorted_behind y xs (one_further x (y ∷ xs) h))

  sorted_list : (xs : List X) → IsSortedBy before xs → IsSortedList xs
  sorted_list [] h = tt
  sorted_list (x ∷ xs) h = sorted_behind x xs h

  contained : (xs : List X) (item : X) → IsOneOf xs item → Contains xs item
  contained [] item h = absurd h
  contained (x ∷ xs) item (inl e) = (0, omega arith, e)
  contained (x ∷ xs) item (inr h) = let there = contained xs item h in (suc there.0, omega (arith, there.1), there.2)

  among_at : (xs : List X) (k : ℕ) (item : X) → k < length xs → slice_index_or xs k item ≡ item → IsOneOf xs item
  among_at [] k item h e = absurd (omega arith)
  among_at (x ∷ xs) zero item h e = inl e
  among_at (x ∷ xs) (suc k) item h e = inr (among_at xs k item (omega arith) e)

  permuted : (xs ys : List X) → IsPermutation xs ys → AreAmong xs ys
  permuted xs ys h item k = let there = Contains-permutation xs ys item h (contained xs item k) in among_at ys there.0 item there.1 there.2

  pub told_in_order : (items sorted : List X) → IsPermutation items sorted → IsSortedBy before sorted → once_behind key None sorted ≡ in_order key items
  told_in_order items sorted h up =
      same_list key (once_behind key None sorted) (in_order key items) (told_ascends sorted) (in_order_ascends key size long same [] items tt)
      (λ item k. ordered_miss_none key size long same items item (permuted sorted items (IsPermutation-sym items sorted h) item (told_were_there None sorted item k)))
      (λ item k. none_left_out sorted (sorted_list sorted up) item (permuted items sorted h item (ordered_are_items key size long same items item k)))

  pub all_of_them : (items : List X) → AreAllOf key items (in_order key items)
  all_of_them items = record {
    ascends = in_order_ascends key size long same [] items tt;
    are_items = ordered_are_items key size long same items;
    none_missing = ordered_miss_none key size long same items;
  }
