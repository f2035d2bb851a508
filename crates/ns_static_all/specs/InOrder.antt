-- Lists in order, each item once, where items are compared by lists of numbers: their keys.
use Rattle.std.specs.Prelude.{ℕ, Bool, true, List, [], ◌∷◌, fold, Option, Some, None, if◌then◌else◌}
use Rattle.ns_static_rules.specs.Least.{comes_before}

module _ {X : Type 0} (key : X → List ℕ) where
  -- items in order, and another at its place among them; where the same item stands already, nothing is put
  abbrev pub put : List X → X → List X
  put [] item = item ∷ []
  put (x ∷ xs) item =
      if comes_before (key item) (key x) then item ∷ x ∷ xs
      else if comes_before (key x) (key item) then x ∷ put xs item
      else x ∷ xs

  -- items in order, each once
  abbrev pub in_order : List X → List X
  in_order items = fold put [] items

  -- whether the last item that was told, if there is one, comes before this one
  abbrev pub is_behind : Option X → X → Bool
  is_behind None item = true
  is_behind (Some last) item = comes_before (key last) (key item)

  -- those of sorted items that come behind the one before them
  abbrev pub once_behind : Option X → List X → List X
  once_behind last [] = []
  once_behind last (x ∷ xs) = if is_behind last x then x ∷ once_behind (Some x) xs else once_behind last xs
