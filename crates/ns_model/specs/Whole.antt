-- The meaning of a program's run.
use Rattle.std.specs.Prelude.{ℕ, List, [], ◌∷◌, Option, Some, None, slice_get}
use Rattle.std.specs.Option.{option_map_or}
use Rattle.ns_base.specs.declared.limits.Limits.{Limits}
use Rattle.ns_base.specs.declared.place.Place.{Place}
use Rattle.ns_base.specs.declared.status.Status.{Status}
use Rattle.ns_base.specs.declared.status.Status.TheVariants as status
use Rattle.ns_code.specs.declared.program.CodeProgram.{CodeProgram}
use Rattle.ns_code.specs.declared.own.Own.{Own}
use Rattle.ns_code.specs.declared.own.Own.TheVariants.{PackageUsing, MainArgs}
use Rattle.ns_world.specs.declared.value.Value.{Value}
use Rattle.ns_world.specs.declared.ending.Counters.{Counters}
use Rattle.ns_world.specs.declared.ending.Ending.{Ending}
use Rattle.ns_world.specs.declared.ending.Ending.TheVariants.{Done, Error, Limit}
use Rattle.ns_world.specs.declared.ending.LimitKind.TheVariants.{Steps}
use Rattle.ns_world.specs.World.{counters_of}
use Rattle.ns_facets.specs.declared.row.Grants.{Grants}
use Rattle.ns_moves.specs.Control.{Progress, After, Gives, Halts}
use Rattle.ns_moves.specs.Sends.{sent_plain, own_sel}
use Rattle.ns_moves.specs.Report.{report_line}
use Rattle.ns_moves.specs.Start.{start_made, manifest, platform, first_class}
use Rattle.ns_resolved.specs.Tables.{tables}
use Rattle.ns_resolved.specs.Program.{Meant, Declaration, Does, as_initialiser}
use Rattle.ns_model.specs.Outcome.{Completion, Yields, Returns, Ends, Spent, bind}
use Rattle.ns_model.specs.Run.{does_at, run, fuel_of}

-- ---- the sends that open a run

-- the place of a class's name, in its initialiser
abbrev pub place_in : Does → Option Place
place_in (as_initialiser init) = Some init.place
place_in other = None

-- the place of the opening sends: that of the first class's name (this profile)
abbrev pub opening_place : Meant → Option Place
opening_place meant = option_map_or (λ (class : Declaration). place_in (does_at meant class.initialiser)) (slice_get meant.classes 0) None

-- a plain send that no code makes
abbrev pub opening : Meant → CodeProgram → Value → Own → List Value → Progress → Completion Value
opening meant code receiver own values progress =
    run meant code (fuel_of progress) (sent_plain code receiver (own_sel code own) values (opening_place meant) progress) []

-- `packageUsing:` with the Manifest to the class of the first file, and then `main:args:` with the Platform and the
-- array of arguments to its value (Modules as Objects in Newspeak; the selectors are this profile's)
abbrev pub opened : Meant → CodeProgram → Value → Progress → Completion Value
opened meant code array progress =
    bind (opening meant code (first_class progress.world.cells) PackageUsing (manifest ∷ []) progress) λ module_object locals progress.
    opening meant code module_object MainArgs (platform ∷ array ∷ []) progress

-- ---- a run

-- how a run ended, and what it has done by then
pub record RunEnd : Type 0 where
  pub ending : Ending
  pub progress : Progress

-- The end of a run that started so. No return goes past the opening sends, and the fuel is enough.
abbrev pub concluded : Progress → Completion Value → RunEnd
concluded start (Yields value locals progress) = record { ending = Done value; progress = progress }
concluded start (Returns home value progress) = record { ending = Done value; progress = progress }
concluded start (Ends ending progress) = record { ending = ending; progress = progress }
concluded start Spent = record { ending = Limit Steps; progress = start }

-- the opening sends, where the start fits
abbrev pub opened_after : Meant → CodeProgram → After → RunEnd
opened_after meant code (Gives array progress) = concluded progress (opened meant code array progress)
opened_after meant code (Halts ending progress) = record { ending = ending; progress = progress }

-- the run of a program, whose tables these are
abbrev pub ran : Meant → CodeProgram → Grants → List (List ℕ) → Limits → RunEnd
ran meant code grants arguments limits = opened_after meant code (start_made code grants arguments limits)

-- ---- what is reported of it

-- the status of an ending
abbrev pub status_of : Ending → Status
status_of (Done value) = status.Done
status_of (Error error) = status.ProgramError
status_of (Limit limit) = status.Limit

-- what a run printed, the line of its ending, its status, and what it used
pub record RunReport : Type 0 where
  pub output : List ℕ
  pub line : List ℕ
  pub status : Status
  pub counters : Counters

-- what is reported of an end, with the text of its line
abbrev pub report_of : CodeProgram → RunEnd → RunReport
report_of code ended =
    record {
      output = ended.progress.world.output;
      line = report_line ended.progress.world.cells code code.files ended.ending;
      status = status_of ended.ending;
      counters = counters_of ended.progress.world;
    }

-- what a run of a program comes to
abbrev pub meaning_of_run : Meant → List (List ℕ) → Grants → Limits → RunReport
meaning_of_run meant arguments grants limits = report_of (tables meant) (ran meant (tables meant) grants arguments limits)
