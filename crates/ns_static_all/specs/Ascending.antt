-- What a list in order is: it ascends, and it has each item, and no other.
use Rattle.std.specs.Prelude.{◌≡◌, ◌⊎◌, ℕ, true, List, [], ◌∷◌, Option, Some, None}
use Rattle.ns_static_rules.specs.Least.{comes_before}

-- the item is one of these
abbrev pub IsOneOf : {X : Type 0} → List X → X → Type 0
IsOneOf [] item = ⊥
IsOneOf (x ∷ xs) item = (x ≡ item) ⊎ IsOneOf xs item

-- each item of these is one of those
abbrev pub AreAmong : {X : Type 0} → List X → List X → Type 0
AreAmong {X} xs ys = (item : X) → IsOneOf xs item → IsOneOf ys item

-- the first item, if there is one
abbrev pub first_of : {X : Type 0} → List X → Option X
first_of [] = None
first_of (x ∷ xs) = Some x

module _ {X : Type 0} (key : X → List ℕ) where
  -- the item comes before each of these
  abbrev pub BeforeAll : X → List X → Type 0
  BeforeAll item [] = Unit {0}
  BeforeAll item (x ∷ xs) = (comes_before (key item) (key x) ≡ true) × BeforeAll item xs

  -- each comes before those behind it
  abbrev pub Ascends : List X → Type 0
  Ascends [] = Unit {0}
  Ascends (x ∷ xs) = BeforeAll x xs × Ascends xs

  -- Of these items, those are all, each once, in order.
  pub record AreAllOf (items told : List X) : Type 0 where
    -- each comes before those behind it
    pub ascends : Ascends told
    -- each is one of the items
    pub are_items : AreAmong told items
    -- none is missing
    pub none_missing : AreAmong items told
