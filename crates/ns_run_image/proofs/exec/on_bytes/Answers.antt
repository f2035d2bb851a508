use Rattle.std.proofs.Common.{◌≡◌, Bool, arith, ap, codes, cond, false, length, nat_lt, sym, true}
use Rattle.std.proofs.lemmas.Bool.Decides.{nat_tests}
use Rattle.ns_run_code.specs.Exec.{image_code}
use Rattle.ns_run_image.proofs.ExecLaws.{long_plain}
use Rattle.ns_run_image.proofs.exec.on_bytes.Goals as goal
use Rattle.ns_run_image.specs.Image.{of_code, of_exec_bytes}
use Rattle.ns_run_input.specs.Input.{run_of}
use Rattle.ns_run_input.specs.laws.Behind.{plain_missing, plain_reports}
use Rattle.ns_run_outcome.specs.Report.{refused_file}
use Rattle.ns_run_outcome.specs.laws.Parts.{same_reports}

pub returns-then-bytes-gt-IMAGE_BYTES-clause-reports : goal.returns-then-bytes-gt-IMAGE_BYTES-clause-reports
returns-then-bytes-gt-IMAGE_BYTES-clause-reports g c =
    let run = run_of c.args.task in
    let name = c.args.name.now in
    let long : nat_lt 134217728 (length c.args.bytes.now) ≡ true = grind (arith, nat_tests, c.if-bytes-gt-IMAGE_BYTES.true) in
    plain_reports _ _ _ _ c.args.shelf.now run.inputs (of_exec_bytes run name c.args.bytes.now) (refused_file name (codes "TooLong")) c.refused_file.result c.or_stop.result c.or_stop.ensures c.refused_file.ensures
    (long_plain name) (λ texts. ap (λ q. cond q (refused_file name (codes "TooLong")) (of_code run name (image_code c.args.bytes.now) texts)) (sym long))

pub returns-then-bytes-gt-IMAGE_BYTES-clause-missing : goal.returns-then-bytes-gt-IMAGE_BYTES-clause-missing
returns-then-bytes-gt-IMAGE_BYTES-clause-missing g c =
    plain_missing _ (refused_file c.args.name.now (codes "TooLong")) c.refused_file.result c.or_stop.result c.or_stop.ensures c.refused_file.ensures (long_plain c.args.name.now)

pub returns-clause-reports : goal.returns-clause-reports
returns-clause-reports g c =
    let run = run_of c.args.task in
    let name = c.args.name.now in
    let short : nat_lt 134217728 (length c.args.bytes.now) ≡ false = grind (arith, nat_tests, c.if-bytes-gt-IMAGE_BYTES.false) in
    same_reports _ _ _ _ _ _ (λ (q : Bool). run.inputs) (λ q texts. cond q (refused_file name (codes "TooLong")) (of_code run name (image_code c.args.bytes.now) texts)) false (nat_lt 134217728 (length c.args.bytes.now))
    c.on_image_code.result (sym short) c.on_image_code.ensures.reports
