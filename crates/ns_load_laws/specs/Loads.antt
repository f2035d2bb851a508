-- What the texts of a program's files are loaded as, by their tokens and the grammar alone.
use Rattle.std.specs.Prelude.{◌≡◌, ℕ, ◌+◌, ◌<◌, ◌≤◌, ◌⊎◌, List, [], ◌∷◌, ◌++◌, length, Option, Some, None}
use Rattle.ns_base.specs.declared.place.Place.{Place}
use Rattle.ns_load.specs.Loaded.{Loading, units, stopped}
use Rattle.ns_load.specs.Source.{FileReading, spells, refused}
use Rattle.ns_load.specs.declared.fault.LoadCause.TheVariants.{Missing, TooLong}
use Rattle.ns_load.specs.declared.fault.LoadFault.{LoadFault}
use Rattle.ns_load.specs.declared.fault.LoadFault.TheVariants.{At}
use Rattle.ns_load_laws.specs.Reads.{SourceReadsAs}
use Rattle.ns_tree.specs.Plain as p

-- a text, or none, for each file
abbrev pub Texts : Type 0
Texts = List (Option (List ℕ))

-- A file that isn't there is missing, one of more than 1,048,576 bytes is too long, and any other is read as its source is.
abbrev pub TextReadsAs : ℕ → Option (List ℕ) → FileReading → Type 0
TextReadsAs file None reading = reading ≡ refused (At Missing file)
TextReadsAs file (Some source) reading =
    ((1048576 < length source) × (reading ≡ refused (At TooLong file))) ⊎ ((length source ≤ 1048576) × SourceReadsAs file source reading)

-- Each text is read as a unit with its places. The first is that of file k.
abbrev pub AreSourcesOf : ℕ → Texts → List p.SourceUnit → List (List Place) → Type 0
AreSourcesOf k [] [] [] = Unit {0}
AreSourcesOf k (text ∷ texts) (unit ∷ trees) (places ∷ others) = TextReadsAs k text (spells unit places) × AreSourcesOf (k + 1) texts trees others
AreSourcesOf k _ _ _ = ⊥

-- The first text that is read as no unit is refused with the fault. The first of all is that of file k.
pub record FirstRefused (k : ℕ) (texts : Texts) (fault : LoadFault) : Type 0 where
  pub before : Texts
  pub text : Option (List ℕ)
  pub rest : Texts
  pub trees : List p.SourceUnit
  pub places : List (List Place)
  pub cut : texts ≡ before ++ text ∷ rest
  pub are_sources : AreSourcesOf k before trees places
  pub refusal : TextReadsAs (k + length before) text (refused fault)

-- The texts are those of units with their places, or the first that is none is refused. The first of all is that of file k.
abbrev pub LoadAs : ℕ → Texts → Loading → Type 0
LoadAs k texts (units trees places) = AreSourcesOf k texts trees places
LoadAs k texts (stopped fault) = FirstRefused k texts fault
