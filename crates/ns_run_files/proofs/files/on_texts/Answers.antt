use Rattle.std.proofs.Common.{Err, IfOk, ap, map, string_bytes, subst, sym, ◌≡◌}
use Rattle.std.proofs.lemmas.Result.{IfOk-weaker}
use Rattle.ns_run_files.proofs.TextLaws.{refusal_of_texts, units_of_texts}
use Rattle.ns_run_files.proofs.files.on_texts.Goals as goal
use Rattle.ns_run_files.specs.Programs.{of_fault}
use Rattle.ns_run_files.specs.Task.{task_of}
use Rattle.ns_run_files.specs.laws.Faults.{fault_ends, fault_says, read_fault_at, read_fault_there, refusal_means}
use Rattle.ns_run_files.specs.laws.Programs.{units_plain}
use Rattle.ns_run_outcome.specs.Outcome.{IsEnding, IsMissing}
use Rattle.ns_run_outcome.specs.declared.report.Report.{Report}
use Rattle.ns_run_outcome.specs.laws.Parts.{any_missing, never_unread}
use Rattle.ns_run_outcome.specs.laws.Plain.{stop_keeps}
use Rattle.ns_tree.specs.PlainOf.{unit_of}

pub returns-in-Ok-clause-missing : goal.returns-in-Ok-clause-missing
returns-in-Ok-clause-missing g c =
    let plain = units_plain (task_of c.args.task) (map string_bytes c.args.names.now) c.in-Ok.program.files (map unit_of c.in-Ok.program.units) c.in-Ok.program.marks in
    stop_keeps c.on_program.result c.or_stop.result _ c.or_stop.ensures
    (IfOk-weaker c.on_program.result _ _ (λ r h name m. absurd (plain.says name (subst (IsMissing name) h m))) c.on_program.ensures)

pub returns-in-Err-clause-missing : goal.returns-in-Err-clause-missing
returns-in-Err-clause-missing g c =
    IfOk-weaker c.on_fault.result _ _
    (λ r h name m. fault_says (map string_bytes c.args.names.now) c.in-Err.fault (λ k e. c.in-Err.ensures.missing k (ap Err e)) name (subst (IsMissing name) h m)) c.on_fault.ensures.told

pub returns-in-Ok-clause-reports : goal.returns-in-Ok-clause-reports
returns-in-Ok-clause-reports g c =
    let task = task_of c.args.task in
    let own = map string_bytes c.args.names.now in
    let names = c.args.texts.now in
    let program = c.in-Ok.program in
    let plain = units_plain task own program.files (map unit_of program.units) program.marks in
    record {
      told = λ files e.
          units_of_texts task own names c.args.lib (map files names) program.files (map unit_of program.units) program.marks c.on_program.result c.or_stop.result c.or_stop.ensures c.requires.same
          c.in-Ok.ensures.files (c.in-Ok.ensures.told files e) c.on_program.ensures;
      texts = (
        c.in-Ok.ensures.texts.0,
        c.in-Ok.ensures.texts.1,
        units_of_texts task own names c.args.lib c.in-Ok.ensures.texts.0 program.files (map unit_of program.units) program.marks c.on_program.result c.or_stop.result c.or_stop.ensures c.requires.same
            c.in-Ok.ensures.files c.in-Ok.ensures.texts.2 c.on_program.ensures,
      );
      ending = stop_keeps c.on_program.result c.or_stop.result _ c.or_stop.ensures
          (IfOk-weaker c.on_program.result _ _ (λ r h. subst (λ (report : Report). IsEnding report.status) (sym h) plain.ends) c.on_program.ensures);
      only_read = c.in-Ok.ensures.only_read;
      read_fault = λ e. absurd (never_unread c.on_program.result c.or_stop.result c.or_stop.ensures e);
      read_fault_there = λ files e f. absurd (never_unread c.on_program.result c.or_stop.result c.or_stop.ensures f);
      missing = any_missing names _ c.or_stop.result (returns-in-Ok-clause-missing g c);
    }

pub returns-in-Err-clause-reports : goal.returns-in-Err-clause-reports
returns-in-Err-clause-reports g c =
    let task = task_of c.args.task in
    let own = map string_bytes c.args.names.now in
    let names = c.args.texts.now in
    let fault = c.in-Err.fault in
    let told = subst (λ each. IfOk c.on_fault.result (λ r. r ≡ of_fault each fault)) (sym c.requires.same) c.on_fault.ensures.told in
    record {
      told = λ files e. refusal_means task names c.args.lib files fault c.on_fault.result (c.in-Err.ensures.told files e) c.on_fault.ensures.refusal told;
      texts = (
        c.in-Err.ensures.texts.0,
        c.in-Err.ensures.texts.1,
        refusal_of_texts task names c.args.lib c.in-Err.ensures.texts.0 fault c.on_fault.result c.in-Err.ensures.texts.2 c.on_fault.ensures.refusal told,
      );
      ending = IfOk-weaker c.on_fault.result _ _ (λ r h. subst (λ (report : Report). IsEnding report.status) (sym h) (fault_ends own fault)) c.on_fault.ensures.told;
      only_read = c.in-Err.ensures.only_read;
      read_fault = λ e. read_fault_at fault (c.on_fault.ensures.read_fault e) (λ k is. c.in-Err.ensures.read_fault k (ap Err is));
      read_fault_there = λ files e f. read_fault_there names c.args.lib files fault (c.on_fault.ensures.read_fault f) (c.in-Err.ensures.told files e);
      missing = any_missing names _ c.on_fault.result (returns-in-Err-clause-missing g c);
    }
