-- What is read from values of JSON, part by part.
use Rattle.std.proofs.Common.{◌≡◌, ℕ, List, [], ◌∷◌, Bool, false, refl, ap, ◌∙◌}
use Rattle.std.specs.Str.{bytes_eq}
use Rattle.ns_json.specs.Json.{Value, Elements, Member, Members, string, number, array, object, no_elements, more_elements, no_members, more_members}
use Rattle.ns_json.specs.Json.{members}
use Rattle.ns_json.specs.Objects.{each}

abbrev pub bytes : Value → List ℕ
bytes (string text) = text
bytes (number n) = []
bytes (array values) = []
bytes (object fields) = []

abbrev pub natural : Value → ℕ
natural (string text) = 0
natural (number n) = n
natural (array values) = 0
natural (object fields) = 0

abbrev pub elements_in : Value → Elements
elements_in (string text) = no_elements
elements_in (number n) = no_elements
elements_in (array values) = values
elements_in (object fields) = no_elements

abbrev pub members_in : Value → Members
members_in (string text) = no_members
members_in (number n) = no_members
members_in (array values) = no_members
members_in (object fields) = fields

-- the value of the first member, whether it has that name, and the members behind it
abbrev pub first : Members → Value
first no_members = string []
first (more_members name value more) = value

abbrev pub is_named : List ℕ → Members → Bool
is_named word no_members = false
is_named word (more_members name value more) = bytes_eq word name

abbrev pub next : Members → Members
next no_members = no_members
next (more_members name value more) = more

-- things, one for each object of an array
abbrev pub things_of : {A : Type 0} → (Members → A) → Elements → List A
things_of thing_of no_elements = []
things_of thing_of (more_elements value more) = thing_of (members_in value) ∷ things_of thing_of more

pub things_back : {A : Type 0} (members_of : A → List Member) (thing_of : Members → A) → ((a : A) → thing_of (members (members_of a)) ≡ a) →
    (things : List A) → things_of thing_of (each members_of things) ≡ things
things_back members_of thing_of back [] = refl
things_back members_of thing_of back (thing ∷ things) =
    ap (λ a. a ∷ things_of thing_of (each members_of things)) (back thing)
    ∙ ap (λ more. thing ∷ more) (things_back members_of thing_of back things)
