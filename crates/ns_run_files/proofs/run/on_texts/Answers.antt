use Rattle.std.proofs.Common.{Err, IfOk, ap, map, string_bytes, subst, sym, ◌≡◌}
use Rattle.std.proofs.lemmas.Result.{IfOk-weaker}
use Rattle.ns_run_files.proofs.RunLaws.{refusal_is_run, refusal_of_files, units_are_run}
use Rattle.ns_run_files.proofs.run.on_texts.Goals as goal
use Rattle.ns_run_files.specs.Programs.{of_fault, of_run, run_of_texts}
use Rattle.ns_run_files.specs.laws.Faults.{fault_ends, fault_says, read_fault_at, read_fault_there}
use Rattle.ns_run_input.specs.Input.{run_of}
use Rattle.ns_run_input.specs.laws.Behind.{behind_reports, front_reports}
use Rattle.ns_run_outcome.specs.Outcome.{IsEnding, IsMissing}
use Rattle.ns_run_outcome.specs.declared.report.Report.{Report}
use Rattle.ns_static.specs.Check.{fault_of}
use Rattle.ns_tree.specs.PlainOf.{unit_of}

pub returns-in-Ok : goal.returns-in-Ok
returns-in-Ok g c =
    let run = run_of c.args.task in
    let own = map string_bytes c.args.names.now in
    let names = c.args.texts.now in
    let program = c.in-Ok.program in
    let t = c.in-Ok.ensures.texts in
    behind_reports _ _ _ _ c.args.shelf.now c.load.new.shelf c.on_run.new.shelf names run.inputs (run_of_texts run names c.args.lib)
    (of_run own run program.files (map unit_of program.units) program.marks (fault_of program)) c.on_run.result c.in-Ok.ensures.only_read
    (λ files e more. units_are_run run own names c.args.lib (map files names) program.files (map unit_of program.units) program.marks more c.requires.same c.in-Ok.ensures.files (c.in-Ok.ensures.told files e))
    (t.0, t.1, λ more. units_are_run run own names c.args.lib t.0 program.files (map unit_of program.units) program.marks more c.requires.same c.in-Ok.ensures.files t.2)
    c.on_run.ensures.reports c.on_run.ensures.missing

pub returns-in-Err : goal.returns-in-Err
returns-in-Err g c =
    let run = run_of c.args.task in
    let own = map string_bytes c.args.names.now in
    let names = c.args.texts.now in
    let fault = c.in-Err.fault in
    let t = c.in-Err.ensures.texts in
    let told = subst (λ each. IfOk c.on_fault.result (λ r. r ≡ of_fault each fault)) (sym c.requires.same) c.on_fault.ensures.told in
    front_reports _ _ _ _ c.args.shelf.now c.load.new.shelf names run.inputs (run_of_texts run names c.args.lib) c.on_fault.result c.in-Err.ensures.only_read
    (λ files e. refusal_of_files run names c.args.lib files fault c.on_fault.result (c.in-Err.ensures.told files e) c.on_fault.ensures.refusal told)
    (t.0, t.1, refusal_is_run run names c.args.lib t.0 fault c.on_fault.result t.2 c.on_fault.ensures.refusal told)
    (IfOk-weaker c.on_fault.result _ _ (λ r h. subst (λ (report : Report). IsEnding report.status) (sym h) (fault_ends own fault)) c.on_fault.ensures.told)
    (λ e. read_fault_at fault (c.on_fault.ensures.read_fault e) (λ k is. c.in-Err.ensures.read_fault k (ap Err is)))
    (λ files e f. read_fault_there names c.args.lib files fault (c.on_fault.ensures.read_fault f) (c.in-Err.ensures.told files e))
    (IfOk-weaker c.on_fault.result _ _ (λ r h name m. fault_says own fault (λ k e. c.in-Err.ensures.missing k (ap Err e)) name (subst (IsMissing name) h m)) c.on_fault.ensures.told)
