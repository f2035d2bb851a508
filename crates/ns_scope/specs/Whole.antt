-- When a program is whole: what the loading of files gives.
use Rattle.std.specs.Prelude.{◌≡◌, ◌≢◌, ◌≤◌, ℕ, ◌+◌, List, [], ◌∷◌, length, map, None, All, IsUtf8}
use Rattle.ns_base.specs.declared.place.Place.{Place}
use Rattle.ns_tree.specs.declared.token.Kind.{Kind}
use Rattle.ns_tree.specs.declared.token.Kind.TheVariants as k
use Rattle.ns_tree.specs.Deep.{deep}
use Rattle.ns_tree.specs.Flat.{flat}
use Rattle.ns_tree.specs.Plain as p
use Rattle.ns_tree.specs.PlainOf.{unit_of}
use Rattle.ns_tree.specs.Tree.{Tree}
use Rattle.ns_scope.specs.declared.program.Program.{Program}

-- how many bytes, tokens and files a source or a program has at most
abbrev pub most_bytes : ℕ
most_bytes = 1048576

abbrev pub most_units : ℕ
most_units = 17

-- the name or text of a token
abbrev pub text_of : Kind → List ℕ
text_of (k.Ident text) = text
text_of (k.Key text) = text
text_of (k.SetKey text) = text
text_of (k.Oper text) = text
text_of (k.Str text) = text
text_of (k.Symbol text) = text
text_of _ = []

-- no name or text has more bytes
abbrev pub AllWithin : ℕ → List Kind → Type 0
AllWithin most [] = Unit {0}
AllWithin most (kind ∷ kinds) = (length (text_of kind) ≤ most) × AllWithin most kinds

-- A number of a line or of a column: counted from 1, and at most one behind the last byte.
abbrev pub IsCounted : ℕ → Type 0
IsCounted number = (1 ≤ number) × (number ≤ most_bytes + 1)

-- The place is one of that file.
abbrev pub IsPlaceOf : ℕ → Place → Type 0
IsPlaceOf file place = (place.file ≡ file) × IsCounted place.line × IsCounted place.col

abbrev pub ArePlacesOf : ℕ → List Place → Type 0
ArePlacesOf file [] = Unit {0}
ArePlacesOf file (place ∷ places) = IsPlaceOf file place × ArePlacesOf file places

-- A unit, and the places of its tokens and of its end.
pub record IsWholeUnit (number : ℕ) (unit : p.SourceUnit) (marks : List Place) : Type 0 where
  pub tree : Tree unit
  pub shallow : deep (flat unit) ≡ None
  pub few : length (flat unit) ≤ most_bytes
  pub short : AllWithin most_bytes (flat unit)
  pub one_longer : length marks ≡ length (flat unit) + 1
  pub placed : ArePlacesOf number marks

-- units, of which the first has this number
abbrev pub AreWholeUnits : ℕ → List p.SourceUnit → List (List Place) → Type 0
AreWholeUnits number [] [] = Unit {0}
AreWholeUnits number [] (marks ∷ others) = ⊥
AreWholeUnits number (unit ∷ units) [] = ⊥
AreWholeUnits number (unit ∷ units) (marks ∷ others) = IsWholeUnit number unit marks × AreWholeUnits (number + 1) units others

abbrev pub NamesFile : List ℕ → Type 0
NamesFile name = IsUtf8 name × (name ≢ []) × (length name ≤ 4294967295)

pub record IsWhole (program : Program) : Type 0 where
  pub some : 1 ≤ length program.units
  pub not_many : length program.units ≤ most_units
  pub units : AreWholeUnits 0 (map unit_of program.units) program.marks
  pub one_name_each : length program.files ≡ length program.units
  pub names : All NamesFile program.files
