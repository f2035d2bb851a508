-- Names that are among others, which may stand in two lists.
use Rattle.std.proofs.Common.{◌≡◌, ℕ, List, ◌∷◌, refl, ap}
use Rattle.std.specs.Prelude.{Bool, true, false, cond, ◌||◌}
use Rattle.std.specs.List.{list_any}
use Rattle.std.specs.Str.{bytes_eq}
use Rattle.std.proofs.lemmas.Slice.Eq.{bytes_eq-Decides}
use Rattle.std.specs.Bool.{Decides}

pub bytes_same : (text : List ℕ) → bytes_eq text text ≡ true
bytes_same text = by (bytes_eq text text) (bytes_eq-Decides text text) where
  by : (same : Bool) → Decides same (text ≡ text) → same ≡ true
  by true d = refl
  by false d = d.1 refl

pub or_else : (x y : Bool) → y ≡ true → (x || y) ≡ true
or_else true y h = refl
or_else false y h = h

-- the name is one of these
abbrev pub Among : List (List ℕ) → List ℕ → Type 0
Among names name = list_any (bytes_eq name) names ≡ true

-- the name is one of the first or of the second
abbrev pub Either : List (List ℕ) → List (List ℕ) → List ℕ → Type 0
Either first second name = (list_any (bytes_eq name) first || list_any (bytes_eq name) second) ≡ true

pub first_one : (name : List ℕ) (names : List (List ℕ)) → Among (name ∷ names) name
first_one name names = ap (λ x. x || list_any (bytes_eq name) names) (bytes_same name)

-- a name that may stand before others
abbrev pub If : Bool → List ℕ → List (List ℕ) → List (List ℕ)
If there name names = cond there (name ∷ names) names

pub left_first : (there : Bool) (name : List ℕ) (first second : List (List ℕ)) → there ≡ true → Either (If there name first) second name
left_first true name first second e = ap (λ x. (x || list_any (bytes_eq name) first) || list_any (bytes_eq name) second) (bytes_same name)
left_first false name first second e = absurd (let f : false ≡ true = e in cc)

pub left_more : (there : Bool) (name : List ℕ) (first second : List (List ℕ)) (text : List ℕ) → Either first second text →
    Either (If there name first) second text
left_more false name first second text h = h
left_more true name first second text h = by (bytes_eq text name) (list_any (bytes_eq text) first) (list_any (bytes_eq text) second) h where
  by : (x y z : Bool) → (y || z) ≡ true → ((x || y) || z) ≡ true
  by true y z h = refl
  by false y z h = h

pub right_first : (there : Bool) (name : List ℕ) (first second : List (List ℕ)) → there ≡ true → Either first (If there name second) name
right_first true name first second e =
    or_else (list_any (bytes_eq name) first) (list_any (bytes_eq name) (name ∷ second)) (first_one name second)
right_first false name first second e = absurd (let f : false ≡ true = e in cc)

pub right_more : (there : Bool) (name : List ℕ) (first second : List (List ℕ)) (text : List ℕ) → Either first second text →
    Either first (If there name second) text
right_more false name first second text h = h
right_more true name first second text h =
    by (bytes_eq text name) (list_any (bytes_eq text) first) (list_any (bytes_eq text) second) h where
      by : (x y z : Bool) → (y || z) ≡ true → (y || (x || z)) ≡ true
      by x true z h = refl
      by true false z h = refl
      by false false z h = h
