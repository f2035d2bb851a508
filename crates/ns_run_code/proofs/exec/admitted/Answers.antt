use Rattle.std.proofs.Common.{sym, ap, ◌∙◌}
use Rattle.ns_run_code.specs.Exec.{admitted, of_code}
use Rattle.ns_run_code.proofs.exec.admitted.Goals as goal

pub returns-in-Ok-clause-code : goal.returns-in-Ok-clause-code
returns-in-Ok-clause-code c =
    ap (of_code c.args.code) c.in-Ok.ensures.exact ∙ ap admitted (sym c.in-Ok.ensures.code)
