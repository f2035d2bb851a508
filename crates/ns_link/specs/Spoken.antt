-- When the names and the places of a body's code are such as an image may hold.
use Rattle.std.specs.Prelude.{ℕ, ◌<◌, ◌≤◌, All}
use Rattle.ns_base.specs.declared.place.Place.{Place}
use Rattle.ns_code.specs.declared.body.BodyCode.{BodyCode}
use Rattle.ns_code.specs.Fits.{IsWord, IsLocalName}

-- The place is in one of so many files; lines and columns are counted from 1, and fit their fields.
pub record IsInFiles (files : ℕ) (place : Place) : Type 0 where
  pub file : place.file < files
  pub line : (1 ≤ place.line) × IsWord place.line
  pub col : (1 ≤ place.col) × IsWord place.col

-- The locals of a body have names, and its places are in one of so many files.
pub record NamesFit (files : ℕ) (body : BodyCode) : Type 0 where
  pub local_names : All IsLocalName body.local_names
  pub places : All (λ (place : ℕ × Place). IsInFiles files place.1) body.places
