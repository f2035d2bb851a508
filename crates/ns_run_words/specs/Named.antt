-- What is said of the files of some names.
use Rattle.std.specs.Prelude.{◌≡◌, ℕ, List, length, Option, slice_get, IsSome, IsSomeAnd}
use Rattle.ns_base.specs.Files.{Files}

-- There is a text, or none, for each of these names, and of these this is so.
abbrev pub OfSomeTexts : List (List ℕ) → (List (Option (List ℕ)) → Type 0) → Type 0
OfSomeTexts names P = (texts : List (Option (List ℕ))) × (length texts ≡ length names) × P texts

-- Some of these names is such.
abbrev pub OfSomeName : List (List ℕ) → (List ℕ → Type 0) → Type 0
OfSomeName names P = (k : ℕ) × IsSomeAnd (slice_get names k) P

-- One of these files is there.
abbrev pub SomeIsThere : Files → List (List ℕ) → Type 0
SomeIsThere files names = OfSomeName names (λ file. IsSome (files file))
