use Rattle.ns_resolved.specs.Classes.{meant}
use Rattle.ns_test.proofs.Opened.{source_tells}
use Rattle.ns_test.proofs.source.test_source.Goals as goal

pub returns-in-Ok : goal.returns-in-Ok
returns-in-Ok c =
    source_tells (meant c.args.checked.now) c.args.limits c.args.reversed _ c.in-Ok.code c.run_tests-told.result
    c.in-Ok.ensures.code c.in-Ok.ensures.small c.run_tests-told.ensures
