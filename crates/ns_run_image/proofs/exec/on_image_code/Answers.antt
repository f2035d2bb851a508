use Rattle.std.proofs.Common.{Err, ap, arith, refl, sym}
use Rattle.ns_run_code.specs.Exec.{ImageCode, admitted, image_code}
use Rattle.ns_run_image.proofs.ExecLaws.{fault_plain, unsound_plain}
use Rattle.ns_run_image.proofs.exec.on_image_code.Goals as goal
use Rattle.ns_run_image.specs.Image.{of_code, of_image_fault}
use Rattle.ns_run_input.specs.Input.{run_of}
use Rattle.ns_run_input.specs.laws.Behind.{plain_missing, plain_reports}
use Rattle.ns_run_outcome.specs.Report.{unsound}
use Rattle.ns_run_outcome.specs.laws.Parts.{no_memory_reports, same_reports}

pub returns-in-Ok-clause-reports : goal.returns-in-Ok-clause-reports
returns-in-Ok-clause-reports g c =
    let run = run_of c.args.task in
    same_reports _ _ _ _ _ _ (λ (each : ImageCode). run.inputs) (of_code run c.args.name.now) (admitted c.in-Ok.code) (image_code c.args.bytes.now) c.on_code.result (sym c.in-Ok.ensures.code) c.on_code.ensures.reports

pub returns-in-Err-Image-clause-reports : goal.returns-in-Err-Image-clause-reports
returns-in-Err-Image-clause-reports g c =
    let run = run_of c.args.task in
    let name = c.args.name.now in
    let fault = c.in-Err-Image.fault in
    plain_reports _ _ _ _ c.args.shelf.now run.inputs (of_code run name (image_code c.args.bytes.now)) (of_image_fault name fault) c.refused_image.result c.or_stop.result c.or_stop.ensures c.refused_image.ensures
    (fault_plain name fault) (λ texts. ap (λ each. of_code run name each texts) (sym (c.in-Err-Image.ensures.image fault (ap Err c.in-Err-Image.field-0-is))))

pub returns-in-Err-Image-clause-missing : goal.returns-in-Err-Image-clause-missing
returns-in-Err-Image-clause-missing g c =
    plain_missing _ (of_image_fault c.args.name.now c.in-Err-Image.fault) c.refused_image.result c.or_stop.result c.or_stop.ensures c.refused_image.ensures (fault_plain c.args.name.now c.in-Err-Image.fault)

pub returns-in-Err-Unsound-clause-reports : goal.returns-in-Err-Unsound-clause-reports
returns-in-Err-Unsound-clause-reports g c =
    let run = run_of c.args.task in
    let name = c.args.name.now in
    let cause = c.in-Err-Unsound.cause in
    let at = c.in-Err-Unsound.at in
    plain_reports _ _ _ _ c.args.shelf.now run.inputs (of_code run name (image_code c.args.bytes.now)) (unsound name cause at) c.unsound.result c.or_stop-in-Err-Unsound.result c.or_stop-in-Err-Unsound.ensures c.unsound.ensures
    (unsound_plain name cause at) (λ texts. ap (λ each. of_code run name each texts) (sym (c.in-Err-Unsound.ensures.unsound cause at (ap Err c.in-Err-Unsound.field-0-is))))

pub returns-in-Err-Unsound-clause-missing : goal.returns-in-Err-Unsound-clause-missing
returns-in-Err-Unsound-clause-missing g c =
    plain_missing _ (unsound c.args.name.now c.in-Err-Unsound.cause c.in-Err-Unsound.at) c.unsound.result c.or_stop-in-Err-Unsound.result c.or_stop-in-Err-Unsound.ensures c.unsound.ensures
    (unsound_plain c.args.name.now c.in-Err-Unsound.cause c.in-Err-Unsound.at)

pub returns-in-Err-Memory-clause-reports : goal.returns-in-Err-Memory-clause-reports
returns-in-Err-Memory-clause-reports g c = no_memory_reports _ _ _ _ _ _ _ _ (refl, refl, omega arith, omega arith)
