-- What is done with a program: what is stored, the bytes that are written and the status, over the texts of its files.
use Rattle.std.specs.Prelude.{ℕ, ℤ, Bool, false, List, Option, Some, None, codes, flat_map, map, ◌++◌, ◌∷◌, [], length, nat_lt, slice_get, if◌then◌else◌}
use Rattle.std.specs.Fmt.{decimal}
use Rattle.ns_actors_rounds.specs.Source.{source_acted}
use Rattle.ns_base.specs.Files.{Files}
use Rattle.ns_base.specs.declared.limits.Limits.{Limits}
use Rattle.ns_base.specs.declared.place.Place.{Place}
use Rattle.ns_base.specs.declared.status.Status.{Status}
use Rattle.ns_base.specs.declared.status.Status.TheVariants.{Done, ProgramError}
use Rattle.ns_code.specs.Selector.{selector_text}
use Rattle.ns_code.specs.declared.program.CodeProgram.{CodeProgram}
use Rattle.ns_format.specs.Format.{formatted}
use Rattle.ns_gen_code.specs.Code.{code_of}
use Rattle.ns_gen_code.specs.Sizes.{size_fault}
use Rattle.ns_gen_code.specs.declared.size.SizeKind.{SizeKind}
use Rattle.ns_json.specs.declared.saying.Fault.{Fault}
use Rattle.ns_json.specs.declared.saying.FilePlace.{FilePlace}
use Rattle.ns_json.specs.declared.saying.Saying.TheVariants.{Faulty, Searched}
use Rattle.ns_json.specs.declared.saying.Unanswered.{Unanswered}
use Rattle.ns_lib.specs.Sample.{sample}
use Rattle.ns_load.specs.Loaded.{Loading, units, stopped, file_names, loaded_texts}
use Rattle.ns_load.specs.Source.{FileReading, spells, read}
use Rattle.ns_load.specs.Source as reads
use Rattle.ns_load.specs.declared.fault.LoadCause.{LoadCause}
use Rattle.ns_load.specs.declared.fault.LoadCause.TheVariants.{Missing, TooLong, ReadFault, Spelling}
use Rattle.ns_load.specs.declared.fault.LoadFault.{LoadFault}
use Rattle.ns_load.specs.declared.fault.LoadFault.TheVariants.{At, Memory}
use Rattle.ns_print.specs.Printed.{printed}
use Rattle.ns_resolved.specs.Classes.{meant_of}
use Rattle.ns_resolved.specs.Program.{Meant}
use Rattle.ns_run_code.specs.Build.{Built, built_of, image, image_too_large}
use Rattle.ns_run_code.specs.Build as built
use Rattle.ns_run_code.specs.Run.{meant_run}
use Rattle.ns_run_input.specs.Input.{RunWork, parts_of, trace_of, traced_report, with_inputs}
use Rattle.ns_run_snap.specs.Snapped.{Snapped, snapped_of, snapshot, snapshot_too_large}
use Rattle.ns_run_snap.specs.Snapped as snapped
use Rattle.ns_run_replay.specs.Replayed.{Replayed, lines, replayed_of}
use Rattle.ns_run_replay.specs.Replayed as replayed
use Rattle.ns_run_files.specs.Acts.{acts_report}
use Rattle.ns_run_files.specs.Task.{Task, Checks, Shows, Builds, Acts, Tests, Snaps, Replays}
use Rattle.ns_run_files.specs.Tests.{tests_report}
use Rattle.ns_run_outcome.specs.Report.{bad_word, checked, never_told, refused, refused_file, refused_size, refused_text, spelling_name, static_name, stores, told, too_large}
use Rattle.ns_run_outcome.specs.declared.report.Report.{Report}
use Rattle.ns_run_outcome.specs.declared.run.Telling.{Telling}
use Rattle.ns_run_words.specs.Words.{limits_of, nothing_given}
use Rattle.ns_run_words.specs.declared.moves.Move.{Move}
use Rattle.ns_sends.specs.Unanswered.{unanswered}
use Rattle.ns_sends.specs.declared.sent.SentAt.{SentAt}
use Rattle.ns_static_all.specs.InOrder.{in_order}
use Rattle.ns_static_rules.specs.Least.{faults, least, order_of}
use Rattle.ns_static_rules.specs.declared.fault.Placed.{Placed}
use Rattle.ns_test.specs.Source.{source_tested}
use Rattle.ns_tree.specs.Flat.{flat}
use Rattle.ns_tree.specs.Plain as p

abbrev pub name_from : Option (List ℕ) → List ℕ
name_from (Some name) = name
name_from None = codes "lib:Collections"

-- the name of the file of that number: the library stands behind the files that are named
abbrev pub name_of : List (List ℕ) → ℕ → List ℕ
name_of names file = name_from (slice_get names file)

-- the check of units, of which this is the least fault
abbrev pub of_check : List (List ℕ) → Option Placed → Report
of_check names None = checked
of_check names (Some fault) = refused_text (name_of names fault.place.file) fault.place (static_name fault.cause)

-- the line of a fault
abbrev pub fault_line : List (List ℕ) → Placed → List ℕ
fault_line names fault = (of_check names (Some fault)).err

-- a place by the name of its file
abbrev pub place_told : List (List ℕ) → Place → FilePlace
place_told names place = record { file = name_of names place.file; line = place.line; col = place.col }

-- a fault in parts
abbrev pub fault_told : List (List ℕ) → Placed → Fault
fault_told names fault = record { cause = static_name fault.cause; place = place_told names fault.place }

-- the check that tells each fault, of which these are all; where there is none, it tells the other report
abbrev pub of_faults : List (List ℕ) → List Placed → Report → Report
of_faults names [] other = other
of_faults names (fault ∷ faults) other =
    refused (Some (Faulty (map (fault_told names) (fault ∷ faults)))) (flat_map (fault_line names) (fault ∷ faults))

-- the front of a line on a place of a file
abbrev pub place_front : List ℕ → Place → List ℕ
place_front file place = file ++ codes ":" ++ decimal place.line ++ codes ":" ++ decimal place.col ++ codes ": "

-- the line of a send that nothing answers
abbrev pub send_line : List (List ℕ) → CodeProgram → SentAt → List ℕ
send_line names code sent =
    place_front (name_of names sent.place.file) sent.place ++ codes "nothing answers " ++ selector_text code sent.sel.0 ++ 10 ∷ []

-- a send that nothing answers, in parts
abbrev pub send_told : List (List ℕ) → CodeProgram → SentAt → Unanswered
send_told names code sent = record { selector = selector_text code sent.sel.0; place = place_told names sent.place }

-- whether there are sends that nothing answers
abbrev pub sends_status : List SentAt → Status
sends_status [] = Done
sends_status (sent ∷ sends) = ProgramError

-- The sends of code that nothing answers are told, and behind them that the files are a program.
abbrev pub sends_report : List (List ℕ) → CodeProgram → List SentAt → Report
sends_report names code sends =
    record {
      out = flat_map (send_line names code) sends ++ codes "ok" ++ 10 ∷ [];
      err = [];
      status = sends_status sends;
      stored = None;
      said = Some (Searched (map (send_told names code) sends));
    }

-- the sends of code that nothing answers, where this size of it is too large
abbrev pub of_sends : List (List ℕ) → CodeProgram → Option SizeKind → Report
of_sends names code None = sends_report names code (unanswered code)
of_sends names code (Some kind) = too_large kind

-- the check of a program without static faults, asked for its sends or not
abbrev pub of_faultless : Bool → List (List ℕ) → Meant → Report
of_faultless sends names meant = if sends then of_sends names (code_of meant) (size_fault (code_of meant)) else of_check names None

-- the check of units of files of these names, of which this is the least static fault
abbrev pub of_least : Bool → List (List ℕ) → List (List ℕ) → List p.SourceUnit → List (List Place) → Option Placed → Report
of_least sends names files trees places None = of_faultless sends names (meant_of files trees places)
of_least sends names files trees places (Some fault) = of_check names (Some fault)

-- the check of units, of which these are the static faults in their order, and this is the least of them; asked for all of them or not
abbrev pub of_checks : Bool → Bool → List (List ℕ) → List (List ℕ) → List p.SourceUnit → List (List Place) → List Placed → Option Placed →
    Report
of_checks all sends names files trees places each fault =
    if all then of_faults names each (of_least sends names files trees places fault) else of_least sends names files trees places fault

-- the canonical source of the first unit (there is always one)
abbrev pub of_show : List p.SourceUnit → Report
of_show [] = never_told
of_show (unit ∷ more) = told (printed (flat unit))

-- the run of a program within these limits with these arguments: the code of what is meant decides on its parts alone
abbrev pub meant_report : Telling → Limits → Meant → List (List ℕ) → Report
meant_report telling limits meant arguments =
    traced_report telling limits (meant_run meant limits arguments) (trace_of telling (code_of meant) limits arguments)
    (parts_of telling (code_of meant) limits arguments)

-- the run of a program, of which this size is too large, over the texts of its inputs
abbrev pub of_sized : RunWork → Meant → Option SizeKind → List (Option (List ℕ)) → Report
of_sized run meant None texts = with_inputs (meant_report run.telling run.limits meant) run.arguments run.inputs texts
of_sized run meant (Some kind) texts = too_large kind

-- the run of a program without static faults
abbrev pub of_meant : RunWork → Meant → List (Option (List ℕ)) → Report
of_meant run meant texts = of_sized run meant (size_fault (code_of meant)) texts

-- the run of units of files of these names, of which this is the least static fault
abbrev pub of_run : List (List ℕ) → RunWork → List (List ℕ) → List p.SourceUnit → List (List Place) → Option Placed →
    List (Option (List ℕ)) → Report
of_run names run files trees places None texts = of_meant run (meant_of files trees places) texts
of_run names run files trees places (Some fault) texts = of_check names (Some fault)

-- so many actors of the units of files of these names, of which this is the least static fault; the first gets a letter
abbrev pub of_acts : List (List ℕ) → Limits → ℕ → List ℕ → ℤ → List (List ℕ) → List p.SourceUnit → List (List Place) →
    Option Placed → Report
of_acts names limits count sel number files trees places None =
    acts_report (source_acted (meant_of files trees places) limits count sel number)
of_acts names limits count sel number files trees places (Some fault) = of_check names (Some fault)

-- the tests of units of files of these names, of which this is the least static fault
abbrev pub of_tests : List (List ℕ) → Limits → Bool → Option (List ℕ) → List (List ℕ) → List p.SourceUnit → List (List Place) →
    Option Placed → Report
of_tests names limits reversed only files trees places None =
    tests_report (name_of names 0) (source_tested (meant_of files trees places) limits reversed only)
of_tests names limits reversed only files trees places (Some fault) = of_check names (Some fault)

-- An image is stored under its name; one that would be too large is refused, as a size of the program is.
abbrev pub of_built : List ℕ → Built → Report
of_built name (image bytes) = stores name bytes
of_built name (built.too_large kind) = too_large kind
of_built name image_too_large = refused_size (codes "TooLarge(Image)")

-- the image of units of files of these names, of which this is the least static fault
abbrev pub of_build : List (List ℕ) → List ℕ → List (List ℕ) → List p.SourceUnit → List (List Place) → Option Placed → Report
of_build names name files trees places None = of_built name (built_of (meant_of files trees places))
of_build names name files trees places (Some fault) = of_check names (Some fault)

-- A snapshot is stored under its name; one that would be too large is refused, as a size of the program is.
abbrev pub of_snapped : List ℕ → Snapped → Report
of_snapped name (snapshot bytes) = stores name bytes
of_snapped name (snapped.too_large kind) = too_large kind
of_snapped name snapshot_too_large = refused_size (codes "TooLarge(Snapshot)")

-- the snapshot of the run of units of files of these names, of which this is the least static fault, after so many steps
abbrev pub of_snap : List (List ℕ) → List ℕ → Limits → ℕ → List (List ℕ) → List p.SourceUnit → List (List Place) → Option Placed → Report
of_snap names name limits at files trees places None = of_snapped name (snapped_of (meant_of files trees places) limits at)
of_snap names name limits at files trees places (Some fault) = of_check names (Some fault)

-- The lines of moves are told.
abbrev pub of_replayed : Replayed → Report
of_replayed (lines bytes) = told bytes
of_replayed (replayed.too_large kind) = too_large kind

-- the moves through the run of units of files of these names, of which this is the least static fault
abbrev pub of_replay : List (List ℕ) → Limits → List Move → List (List ℕ) → List p.SourceUnit → List (List Place) → Option Placed → Report
of_replay names limits moves files trees places None = of_replayed (replayed_of (meant_of files trees places) limits moves)
of_replay names limits moves files trees places (Some fault) = of_check names (Some fault)

-- what is done with the units of files of these names, of which the first are those that the command names
abbrev pub of_units : Task → List (List ℕ) → List (List ℕ) → List p.SourceUnit → List (List Place) → Report
of_units (Checks all sends) names files trees places =
    of_checks all sends names files trees places (in_order order_of (faults trees places)) (least (faults trees places))
of_units Shows names files trees places = of_show trees
of_units (Builds name) names files trees places = of_build names name files trees places (least (faults trees places))
of_units (Acts limits count sel number) names files trees places =
    of_acts names limits count sel number files trees places (least (faults trees places))
of_units (Tests limits reversed only) names files trees places =
    of_tests names limits reversed only files trees places (least (faults trees places))
of_units (Snaps name limits at) names files trees places =
    of_snap names name limits at files trees places (least (faults trees places))
of_units (Replays limits moves) names files trees places =
    of_replay names limits moves files trees places (least (faults trees places))

-- the refusal of a file (none that is told fails to be read)
abbrev pub of_cause : List ℕ → LoadCause → Report
of_cause file Missing = refused_file file (codes "Missing")
of_cause file TooLong = refused_file file (codes "TooLong")
of_cause file ReadFault = never_told
of_cause file (Spelling wrong place) = refused_text file place (spelling_name wrong)

-- the refusal of files (none want memory)
abbrev pub of_fault : List (List ℕ) → LoadFault → Report
of_fault names (At cause file) = of_cause (name_of names file) cause
of_fault names Memory = never_told

abbrev pub of_loading : Task → List (List ℕ) → Bool → Loading → Report
of_loading task names lib (units trees places) = of_units task names (file_names names lib) trees places
of_loading task names lib (stopped fault) = of_fault names fault

-- what is done with these texts of the files of these names, and with the library where it is asked for
abbrev pub of_texts : Task → List (List ℕ) → Bool → List (Option (List ℕ)) → Report
of_texts task names lib texts = of_loading task names lib (loaded_texts texts lib)

-- what is done with the files of these names, and with the library where it is asked for
abbrev pub of_files : Task → List (List ℕ) → Bool → Files → Report
of_files task names lib files = of_texts task names lib (map files names)

-- the run of what was loaded, over the texts of its inputs
abbrev pub run_of_loading : RunWork → List (List ℕ) → Bool → Loading → List (Option (List ℕ)) → Report
run_of_loading run names lib (units trees places) inputs =
    of_run names run (file_names names lib) trees places (least (faults trees places)) inputs
run_of_loading run names lib (stopped fault) inputs = of_fault names fault

-- the run of the program of these texts of files of these names, over the texts of its inputs
abbrev pub run_of_texts : RunWork → List (List ℕ) → Bool → List (Option (List ℕ)) → List (Option (List ℕ)) → Report
run_of_texts run names lib texts inputs = run_of_loading run names lib (loaded_texts texts lib) inputs

-- the run of a text alone, under that name
abbrev pub run_of_text : RunWork → List ℕ → Bool → List ℕ → List (Option (List ℕ)) → Report
run_of_text run name lib text inputs = run_of_texts run (name ∷ []) lib (Some text ∷ []) inputs

-- what a sample is asked to tell: its classes are counted
abbrev pub sample_telling : ℕ → Telling
sample_telling n = record { classes = Some n; stats = false; trace = false; truth = false; json = false }

-- the refusal of one file
abbrev pub of_own_fault : List ℕ → LoadFault → Report
of_own_fault name (At cause file) = of_cause name cause
of_own_fault name Memory = never_told

-- the source of a file of these bytes, which is read so, with its lines laid out; or its refusal
abbrev pub of_layout : List ℕ → List ℕ → FileReading → Report
of_layout name source (spells unit places) = told (formatted source)
of_layout name source (reads.refused fault) = of_own_fault name fault

-- the layout of a file of these bytes, if they aren't too many
abbrev pub of_source : List ℕ → List ℕ → Report
of_source name source =
    if nat_lt 1048576 (length source) then refused_file name (codes "TooLong") else of_layout name source (read 0 source)

abbrev pub of_format_file : List ℕ → Option (List ℕ) → Report
of_format_file name None = refused_file name (codes "Missing")
of_format_file name (Some source) = of_source name source

-- the layout of the first of these files (there is always one)
abbrev pub of_format : List (List ℕ) → List (Option (List ℕ)) → Report
of_format [] texts = bad_word 1
of_format (name ∷ names) [] = bad_word 1
of_format (name ∷ names) (text ∷ texts) = of_format_file name text

-- the run of a sample
abbrev pub sample_run : ℕ → RunWork
sample_run n = record { telling = sample_telling n; limits = limits_of nothing_given; arguments = []; inputs = [] }

-- the sample of that number is run within the default limits, and its classes are counted; without a number there is none. It has no
-- inputs, so that there are no texts
abbrev pub of_sample : Option ℕ → List (Option (List ℕ)) → Report
of_sample None texts = bad_word 1
of_sample (Some n) texts = run_of_text (sample_run n) (codes "sample") false (sample n) texts

-- the source of a class whose application answers what these statements do
abbrev pub eval_source : List ℕ → List ℕ
eval_source text =
    codes "class Eval packageUsing: m = (| manifest = m. |) (public main: platform args: args = (^[" ++ 10 ∷ [] ++ text ++ 10 ∷ []
    ++ codes "] value))" ++ 10 ∷ []

-- the run of these statements, over the texts of its inputs
abbrev pub of_eval : RunWork → Bool → List ℕ → List (Option (List ℕ)) → Report
of_eval run lib text inputs = run_of_text run (codes "eval") lib (eval_source text) inputs
