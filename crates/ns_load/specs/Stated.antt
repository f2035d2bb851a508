-- What is read and loaded exactly, and when what is loaded is whole.
use Rattle.std.specs.Prelude.{◌≡◌, ◌≢◌, ◌≤◌, ℕ, Bool, List, All, length, map, Result, MatchResult}
use Rattle.ns_load.specs.Answer.{AreRead}
use Rattle.ns_load.specs.Loaded.{Loading, units, stopped, file_names}
use Rattle.ns_load.specs.Source.{FileReading, spells, refused}
use Rattle.ns_load.specs.declared.fault.LoadFault.{LoadFault}
use Rattle.ns_load.specs.declared.fault.LoadFault.TheVariants.{Memory}
use Rattle.ns_load.specs.declared.read.Source.{Source}
use Rattle.ns_scope.specs.Whole.{NamesFile, IsWhole}
use Rattle.ns_scope.specs.declared.program.Program.{Program}
use Rattle.ns_tree.specs.PlainOf.{unit_of}

-- A source is what this reading spells; a fault is the one that it is refused for, unless memory was wanted.
abbrev pub IsReading : FileReading → Result Source LoadFault → Type 0
IsReading reading result =
    MatchResult result (λ source. reading ≡ spells (unit_of source.unit) source.marks) (λ fault. fault ≢ Memory → reading ≡ refused fault)

-- A program is that of this loading; a fault is the one that stopped it, unless memory was wanted.
abbrev pub IsLoading : Loading → Result Program LoadFault → Type 0
IsLoading loading result =
    MatchResult result (λ program. loading ≡ units (map unit_of program.units) program.marks) (λ fault. fault ≢ Memory → loading ≡ stopped fault)

-- A program of sources that were read, under 1 to 16 names of files, is whole.
abbrev pub LoadedIsWhole : Type 0
LoadedIsWhole =
    (program : Program) (names : List (List ℕ)) (lib : Bool) → 1 ≤ length names → length names ≤ 16 → All NamesFile names
    → program.files ≡ file_names names lib → length program.units ≡ length program.files
    → AreRead 0 (map unit_of program.units) program.marks → IsWhole program
