use Rattle.ns_test.proofs.Asked.{asked_of_class}
use Rattle.ns_test.proofs.Names.{new_has_selector}
use Rattle.ns_test.proofs.tests.tests_in.Goals as goal

pub report_if-requires-clause-new : goal.report_if-requires-clause-new
report_if-requires-clause-new c = new_has_selector c.args.code.now c.args.class.now.factory.0 c.requires.new

pub report_if-requires-clause-tests : goal.report_if-requires-clause-tests
report_if-requires-clause-tests c =
    asked_of_class _ c.args.code.now c.code-program.result.now c.args.class.now c.args.reversed _
    c.in_ok-tests.tests.items c.in_ok-asked.asked c.code-program.ensures.code c.in_ok-tests.ensures c.in_ok-asked.ensures
