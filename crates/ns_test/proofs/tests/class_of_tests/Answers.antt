use Rattle.ns_test.specs.Stated.{AnswersFault}
use Rattle.ns_test.proofs.Opened.{answers_class, answers_none, class_has_new, found_there, is_fault}
use Rattle.ns_test.proofs.tests.class_of_tests.Goals as goal

pub returns-in-Some-clause-class : goal.returns-in-Some-clause-class
returns-in-Some-clause-class c =
    answers_class c.args.code.now c.args.machine.now.state c.args.value c.in-Some.class.now c.requires.ends
    (found_there _ _ _ _ _ _ c.code.ensures.code c.world.ensures c.in-Some.ensures)

pub returns-in-Some-clause-new : goal.returns-in-Some-clause-new
returns-in-Some-clause-new c =
    class_has_new c.args.code.now _ c.args.value c.in-Some.class.now
    (found_there _ _ _ _ _ _ c.code.ensures.code c.world.ensures c.in-Some.ensures)

pub returns-in-None-clause-fault : goal.returns-in-None-clause-fault
returns-in-None-clause-fault c fault is =
    is_fault (AnswersFault c.args.code.now c.args.machine.now.state) _ fault is
    (answers_none c.args.code.now c.args.machine.now.state c.args.value c.requires.ends
    (found_there _ _ _ _ _ _ c.code.ensures.code c.world.ensures c.in-None.ensures))
