use Rattle.std.proofs.Common.{None, Option, Some, ap, arith, map, refl, string_bytes, subst, sym}
use Rattle.ns_resolved.specs.Classes.{meant}
use Rattle.ns_run_files.proofs.run.on_run.Goals as goal
use Rattle.ns_run_files.specs.Programs.{of_check, of_meant, of_run}
use Rattle.ns_run_files.specs.laws.Programs.{check_plain}
use Rattle.ns_run_input.specs.Input.{run_of}
use Rattle.ns_run_input.specs.laws.Behind.{plain_missing, plain_reports}
use Rattle.ns_run_outcome.specs.laws.Parts.{no_memory_reports, same_reports}
use Rattle.ns_scope.specs.declared.program.Program.{Program}
use Rattle.ns_static.specs.Check.{FaultIsTold, fault_of}
use Rattle.ns_static_rules.specs.declared.fault.Placed.{Placed}
use Rattle.ns_tree.specs.PlainOf.{unit_of}

pub returns-in-Ok-clause-reports : goal.returns-in-Ok-clause-reports
returns-in-Ok-clause-reports g c =
    let run = run_of c.args.task in
    let own = map string_bytes c.args.names.now in
    let program = c.args.program in
    same_reports _ _ _ _ _ _ (λ (fault : Option Placed). run.inputs) (of_run own run program.files (map unit_of program.units) program.marks) None (fault_of program) c.run.result (sym c.in-Ok.ensures.exact)
    (same_reports _ _ _ _ _ _ (λ (each : Program). run.inputs) (λ each. of_meant run (meant each)) c.in-Ok.checked program c.run.result c.in-Ok.ensures.program c.run.ensures.reports)

pub returns-in-Err-At-clause-reports : goal.returns-in-Err-At-clause-reports
returns-in-Err-At-clause-reports g c =
    let run = run_of c.args.task in
    let own = map string_bytes c.args.names.now in
    let program = c.args.program in
    let fault : Placed = record { place = c.in-Err-At.place; cause = c.in-Err-At.cause } in
    plain_reports _ _ _ _ c.args.shelf.now run.inputs (of_run own run program.files (map unit_of program.units) program.marks (fault_of program)) (of_check own (Some fault)) c.on_static_fault.result c.or_stop.result
    c.or_stop.ensures c.on_static_fault.ensures (check_plain own (Some fault))
    (λ texts. ap (λ each. of_run own run program.files (map unit_of program.units) program.marks each texts) (sym (subst (FaultIsTold (fault_of program)) c.in-Err-At.field-0-is c.in-Err-At.ensures.exact)))

pub returns-in-Err-At-clause-missing : goal.returns-in-Err-At-clause-missing
returns-in-Err-At-clause-missing g c =
    let own = map string_bytes c.args.names.now in
    let fault : Placed = record { place = c.in-Err-At.place; cause = c.in-Err-At.cause } in
    plain_missing _ (of_check own (Some fault)) c.on_static_fault.result c.or_stop.result c.or_stop.ensures c.on_static_fault.ensures (check_plain own (Some fault))

pub returns-in-Err-Memory-clause-reports : goal.returns-in-Err-Memory-clause-reports
returns-in-Err-Memory-clause-reports g c = no_memory_reports _ _ _ _ _ _ _ _ (refl, refl, omega arith, omega arith)
