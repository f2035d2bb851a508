-- The applications of a session are made of their sources, one after another.
use Rattle.std.specs.Prelude.{ℕ, Bool, List, [], ◌∷◌, ◌++◌, length, map, take, drop, Option, Some, None, if◌then◌else◌}
use Rattle.std.specs.Str.{bytes_eq}
use Rattle.ns_base.specs.Files.{Files}
use Rattle.ns_base.specs.declared.limits.Limits.{Limits}
use Rattle.ns_base.specs.declared.place.Place.{Place}
use Rattle.ns_run_words.specs.Application.{Asked, asked_of}
use Rattle.ns_facets.specs.declared.row.Grants.{Grants}
use Rattle.ns_gen_code.specs.Code.{code_of}
use Rattle.ns_gen_code.specs.Sizes.{size_fault}
use Rattle.ns_gen_code.specs.declared.size.SizeKind.{SizeKind}
use Rattle.ns_load.specs.Loaded.{Loading, units, stopped, file_names, loaded_texts}
use Rattle.ns_load.specs.declared.fault.LoadFault.{LoadFault}
use Rattle.ns_resolved.specs.Classes.{meant_of}
use Rattle.ns_resolved.specs.Program.{Meant}
use Rattle.ns_static_rules.specs.Least.{faults, least}
use Rattle.ns_static_rules.specs.declared.fault.Placed.{Placed}
use Rattle.ns_session.specs.Member.{Application}
use Rattle.ns_tree.specs.Plain as p

-- what an application is made of: a program without static faults, and what it is granted
pub record Source : Type 0 where
  pub meant : Meant
  pub grants : Grants

-- the application, within these limits
abbrev pub application_of : Limits → Source → Application
application_of limits source = record { code = code_of source.meant; grants = source.grants; limits = limits }

-- why there is none: the first file that is refused, or the least static fault, of files of these names; or a size
pub data Refusal : Type 0 where
  unloaded : (names : List (List ℕ)) (fault : LoadFault) → Refusal
  unchecked : (names : List (List ℕ)) (fault : Placed) → Refusal
  too_large : (kind : SizeKind) → Refusal

-- what all applications are made of, or the first refusal
pub data Making : Type 0 where
  made : (sources : List Source) → Making
  refused : (why : Refusal) → Making

-- what a word asks that an application is granted
abbrev pub granted : Asked → Grants
granted asked = record { console = asked.console; kernel = asked.kernel; mirrors = asked.mirrors; board = asked.board }

-- ---- one application

-- an application of which this size is too large
abbrev pub of_sized : Source → Option SizeKind → Making
of_sized source None = made (source ∷ [])
of_sized source (Some kind) = refused (too_large kind)

abbrev pub of_source : Source → Making
of_source source = of_sized source (size_fault (code_of source.meant))

-- the application of units of files, of which this is the least static fault
abbrev pub of_least : List (List ℕ) → Grants → List (List ℕ) → List p.SourceUnit → List (List Place) → Option Placed → Making
of_least names grants files trees places None = of_source (record { meant = meant_of files trees places; grants = grants })
of_least names grants files trees places (Some fault) = refused (unchecked names fault)

abbrev pub of_loading : List (List ℕ) → Grants → Bool → Loading → Making
of_loading names grants lib (units trees places) = of_least names grants (file_names names lib) trees places (least (faults trees places))
of_loading names grants lib (stopped fault) = refused (unloaded names fault)

-- the application of these texts of its files, and of the library where it is asked for
abbrev pub made_of : Bool → Asked → List (Option (List ℕ)) → Making
made_of lib asked texts = of_loading asked.names (granted asked) lib (loaded_texts texts lib)

-- that of the files' own texts
abbrev pub made_from : Files → Bool → Asked → Making
made_from files lib asked = made_of lib asked (map files asked.names)

-- the files of which there is one, with this name and text
abbrev pub one_file : List ℕ → List ℕ → Files
one_file name text asked = if bytes_eq name asked then Some text else None

-- ---- all applications

abbrev pub behind : List Source → Making → Making
behind sources (made more) = made (sources ++ more)
behind sources (refused why) = refused why

-- some applications, and then others: the first refusal decides
abbrev pub then_made : Making → Making → Making
then_made (made sources) others = behind sources others
then_made (refused why) others = refused why

-- the files of all applications, in their order
abbrev pub files_asked : List Asked → List (List ℕ)
files_asked [] = []
files_asked (asked ∷ more) = asked.names ++ files_asked more

-- the applications of these texts of their files
abbrev pub all_made : Bool → List Asked → List (Option (List ℕ)) → Making
all_made lib [] texts = made []
all_made lib (asked ∷ more) texts =
    then_made (made_of lib asked (take (length asked.names) texts)) (all_made lib more (drop (length asked.names) texts))

-- those that words ask for, of these texts of their files, or of the files' own
abbrev pub files_named : List (List ℕ) → List (List ℕ)
files_named words = files_asked (map asked_of words)

abbrev pub made_by : Bool → List (List ℕ) → List (Option (List ℕ)) → Making
made_by lib words texts = all_made lib (map asked_of words) texts

abbrev pub made_over : Files → Bool → List (List ℕ) → Making
made_over files lib words = made_by lib words (map files (files_named words))
