-- Declarations that are listed under names.
use Rattle.std.specs.Prelude.{◌≡◌, ℕ, ◌+◌, List, [], ◌∷◌, ◌++◌, Bool, true, ◌==◌, ◌&&◌, Some, slice_get, map}
use Rattle.std.specs.List.{list_any}
use Rattle.ns_code.specs.declared.class.ClassCode.{ClassCode}
use Rattle.ns_code.specs.declared.listed.Listed.{Listed}

-- whether a name is one of these
abbrev pub is_among : ℕ → List ℕ → Bool
is_among name names = list_any (λ one. name == one) names

-- whether a declaration is listed under a name
abbrev pub is_listed : ℕ → ℕ → List Listed → Bool
is_listed name declaration listed = list_any (λ (one : Listed). name == one.name && declaration == one.declaration) listed

-- whether a declaration is listed, under whatever name
abbrev pub is_declared : ℕ → List Listed → Bool
is_declared declaration listed = list_any (λ (one : Listed). declaration == one.declaration) listed

-- a declaration under each of some names
abbrev pub under_names : ℕ → List ℕ → List Listed
under_names declaration names = map (λ name. record { name = name; declaration = declaration }) names

-- each of some declarations, which are numbered from that number on, under each of its names
abbrev pub all_listed : (ClassCode → List ℕ) → ℕ → List ClassCode → List Listed
all_listed names number [] = []
all_listed names number (class ∷ classes) = under_names number (names class) ++ all_listed names (number + 1) classes

-- Each of some declarations is listed under each of its names.
abbrev pub ListsAll : (ClassCode → List ℕ) → List ClassCode → List Listed → Type 0
ListsAll names classes listed =
    (number name : ℕ) (class : ClassCode) → slice_get classes number ≡ Some class → is_among name (names class) ≡ true
    → is_listed name number listed ≡ true

-- Each of some declarations that has a name is among those listed.
abbrev pub TellsOf : (ClassCode → List ℕ) → List ClassCode → ℕ → List Listed → Type 0
TellsOf names classes name listed =
    (number : ℕ) (class : ClassCode) → slice_get classes number ≡ Some class → is_among name (names class) ≡ true
    → is_declared number listed ≡ true
