-- Arrays of objects, one for each of some things.
use Rattle.std.specs.Prelude.{ℕ, List, map}
use Rattle.ns_json.specs.Json.{Value, Member, Elements, array, elements, object_of}

abbrev pub each : {A : Type 0} → (A → List Member) → List A → Elements
each members_of things = elements (map (λ thing. object_of (members_of thing)) things)

abbrev pub objects : {A : Type 0} → (A → List Member) → List A → Value
objects members_of things = array (each members_of things)

-- a member that is such an array
abbrev pub listed : {A : Type 0} → List ℕ → (A → List Member) → List A → Member
listed name members_of things = record { name = name; value = objects members_of things }
