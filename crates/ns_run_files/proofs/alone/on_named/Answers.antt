use Rattle.std.proofs.Common.{◌≡◌, Err, IfOk, Some, [], ◌∷◌, ap, map, string_bytes, subst, sym}
use Rattle.std.proofs.lemmas.Result.{IfOk-weaker}
use Rattle.ns_load.specs.Answer.{IsFaultOfTexts}
use Rattle.ns_run_files.proofs.AloneLaws.{alone_is_there}
use Rattle.ns_run_files.proofs.RunLaws.{refusal_is_run, units_are_run}
use Rattle.ns_run_files.proofs.alone.on_named.Goals as goal
use Rattle.ns_run_files.specs.Programs.{of_fault, of_run, run_of_text}
use Rattle.ns_run_files.specs.laws.Faults.{fault_ends, fault_says, read_fault_at}
use Rattle.ns_run_input.specs.Input.{run_of}
use Rattle.ns_run_input.specs.laws.Behind.{whatever_reports}
use Rattle.ns_run_input.specs.laws.Inputs.{same_meaning}
use Rattle.ns_run_outcome.specs.Outcome.{IsEnding, IsMissing}
use Rattle.ns_run_outcome.specs.declared.report.Report.{Report}
use Rattle.ns_static.specs.Check.{fault_of}
use Rattle.ns_tree.specs.PlainOf.{unit_of}

pub returns-in-Ok : goal.returns-in-Ok
returns-in-Ok g c =
    let run = run_of c.args.task in
    let own = map string_bytes c.args.names.now in
    let name = c.args.name.now in
    let source = c.args.source.items in
    let program = c.in-Ok.program in
    same_meaning _ _ _ _ _ _ run.inputs (of_run own run program.files (map unit_of program.units) program.marks (fault_of program)) (run_of_text run name c.args.lib source) c.on_run.result
    (λ more. units_are_run run own (name ∷ []) c.args.lib (Some source ∷ []) program.files (map unit_of program.units) program.marks more (sym c.requires.named) c.in-Ok.ensures.files c.in-Ok.ensures.texts)
    c.on_run.ensures.reports

pub returns-in-Err : goal.returns-in-Err
returns-in-Err g c =
    let run = run_of c.args.task in
    let own = map string_bytes c.args.names.now in
    let name = c.args.name.now in
    let source = c.args.source.items in
    let fault = c.in-Err.fault in
    let told = subst (λ each. IfOk c.on_fault.result (λ r. r ≡ of_fault each fault)) c.requires.named c.on_fault.ensures.told in
    whatever_reports _ _ _ _ c.args.shelf.now run.inputs (run_of_text run name c.args.lib source) c.on_fault.result
    (refusal_is_run run (name ∷ []) c.args.lib (Some source ∷ []) fault c.on_fault.result c.in-Err.ensures.texts c.on_fault.ensures.refusal told)
    (IfOk-weaker c.on_fault.result _ _ (λ r h. subst (λ (report : Report). IsEnding report.status) (sym h) (fault_ends own fault)) c.on_fault.ensures.told)
    (λ e. read_fault_at fault (c.on_fault.ensures.read_fault e) (λ k is. c.in-Err.ensures.no_read_fault k (ap Err is)))
    (IfOk-weaker c.on_fault.result _ _
    (λ r h file m. fault_says own fault (λ k e. alone_is_there source c.args.lib k (subst (IsFaultOfTexts (Some source ∷ []) c.args.lib) e c.in-Err.ensures.texts)) file (subst (IsMissing file) h m)) c.on_fault.ensures.told)
