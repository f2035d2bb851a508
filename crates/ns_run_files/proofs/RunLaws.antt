-- What is told of the run of a program.
use Rattle.std.proofs.Common.{◌≡◌, ℕ, List, Bool, Option, Some, None, Result, Ok, Err, IfOk, map, sym, ap, ◌∙◌}
use Rattle.ns_base.specs.Files.{Files}
use Rattle.ns_base.specs.Limits.{InRange}
use Rattle.ns_base.specs.declared.place.Place.{Place}
use Rattle.ns_code.specs.declared.program.CodeProgram.{CodeProgram}
use Rattle.ns_gen_code.specs.Code.{code_of}
use Rattle.ns_gen_code.specs.Sizes.{size_fault}
use Rattle.ns_gen_code.specs.declared.size.SizeKind.{SizeKind}
use Rattle.ns_load.specs.Answer.{IsFaultOfTexts, TellsFault}
use Rattle.ns_load.specs.Loaded.{file_names, loaded_texts, units}
use Rattle.ns_load.specs.declared.fault.LoadFault.{LoadFault}
use Rattle.ns_resolved.specs.Program.{Meant}
use Rattle.ns_run_code.specs.Laws.{RunsAsSourceMeans}
use Rattle.ns_run_code.specs.Run.{meant_run}
use Rattle.ns_run_files.proofs.TextLaws.{texts_refused}
use Rattle.ns_run_files.specs.Programs.{meant_report, of_fault, of_meant, of_run, of_sized, run_of_loading, run_of_texts}
use Rattle.ns_run_files.specs.Refusal.{IsRefusal}
use Rattle.ns_run_files.specs.laws.Faults.{refusal_is}
use Rattle.ns_run_input.specs.Input.{RunWork, code_report, code_run, parts_of, trace_of, traced_report}
use Rattle.ns_run_input.specs.laws.Inputs.{inputs_same}
use Rattle.ns_run_outcome.specs.Report.{too_large}
use Rattle.ns_run_outcome.specs.declared.report.Report.{Report}
use Rattle.ns_run_outcome.specs.declared.stop.Stop.{Stop}
use Rattle.ns_static_rules.specs.Least.{faults, least}
use Rattle.ns_tree.specs.Plain as p

-- ---- a program without static faults

-- The run of its code is the run that its source means.
pub code_is_meant : (run : RunWork) (meant : Meant) (code : CodeProgram) (texts : List (Option (List ℕ))) → code ≡ code_of meant → RunsAsSourceMeans meant code → size_fault (code_of meant) ≡ None
    → InRange run.limits → code_run run code texts ≡ of_meant run meant texts
code_is_meant run meant code texts is runs small range =
    inputs_same (code_report run.telling run.limits code) (meant_report run.telling run.limits meant) run.arguments run.inputs texts each
    ∙ ap (λ kind. of_sized run meant kind texts) (sym small)
  where
    each : (arguments : List (List ℕ)) → code_report run.telling run.limits code arguments ≡ meant_report run.telling run.limits meant arguments
    each arguments =
        ap (λ ran. traced_report run.telling run.limits ran (trace_of run.telling code run.limits arguments) (parts_of run.telling code run.limits arguments))
        (runs run.limits arguments range)
        ∙ ap (λ (each : CodeProgram). traced_report run.telling run.limits (meant_run meant run.limits arguments) (trace_of run.telling each run.limits arguments) (parts_of run.telling each run.limits arguments)) is

pub large_is_meant : (run : RunWork) (meant : Meant) (kind : SizeKind) (texts : List (Option (List ℕ))) → size_fault (code_of meant) ≡ Some kind → too_large kind ≡ of_meant run meant texts
large_is_meant run meant kind texts is = ap (λ each. of_sized run meant each texts) (sym is)

-- ---- a program that was loaded

-- What is meant of the units is meant of the texts that were loaded as these.
pub units_are_run :
    (run : RunWork) (own names : List (List ℕ)) (lib : Bool) (texts : List (Option (List ℕ))) (files : List (List ℕ)) (trees : List p.SourceUnit) (places : List (List Place)) (more : List (Option (List ℕ))) →
    names ≡ own → files ≡ file_names names lib → loaded_texts texts lib ≡ units trees places
    → of_run own run files trees places (least (faults trees places)) more ≡ run_of_texts run names lib texts more
units_are_run run own names lib texts files trees places more same named loaded =
    ap (λ each. of_run each run files trees places (least (faults trees places)) more) (sym same)
    ∙ ap (λ each. of_run names run each trees places (least (faults trees places)) more) named
    ∙ ap (λ loading. run_of_loading run names lib loading more) (sym loaded)

-- So is the refusal of texts that are none.
pub refusal_is_run : (run : RunWork) (names : List (List ℕ)) (lib : Bool) (texts : List (Option (List ℕ))) (fault : LoadFault) (result : Result Report Stop) →
    IsFaultOfTexts texts lib fault → IfOk result (λ r. IsRefusal fault) → IfOk result (λ r. r ≡ of_fault names fault)
    → IfOk result (λ r. (more : List (Option (List ℕ))) → r ≡ run_of_texts run names lib texts more)
refusal_is_run run names lib texts fault (Ok r) tells refuses told = λ more.
    told ∙ ap (λ loading. run_of_loading run names lib loading more) (sym (texts_refused texts lib fault refuses tells))
refusal_is_run run names lib texts fault (Err why) tells refuses told = tt

-- The same of files that are told.
pub refusal_of_files : (run : RunWork) (names : List (List ℕ)) (lib : Bool) (files : Files) (fault : LoadFault) (result : Result Report Stop) →
    TellsFault names lib files fault → IfOk result (λ r. IsRefusal fault) → IfOk result (λ r. r ≡ of_fault names fault)
    → IfOk result (λ r. (more : List (Option (List ℕ))) → r ≡ run_of_texts run names lib (map files names) more)
refusal_of_files run names lib files fault (Ok r) tells refuses told = λ more.
    told ∙ ap (λ loading. run_of_loading run names lib loading more) (sym (refusal_is names lib files fault refuses tells))
refusal_of_files run names lib files fault (Err why) tells refuses told = tt
