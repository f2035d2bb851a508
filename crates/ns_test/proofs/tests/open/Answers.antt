use Rattle.std.proofs.Common.{ap, subst}
use Rattle.std.proofs.lemmas.Result.{IfOk-weaker}
use Rattle.ns_machine.specs.Machine.{MachineView}
use Rattle.ns_moves.specs.State.{State}
use Rattle.ns_test.specs.Stated.{AnswersClass, AnswersFault}
use Rattle.ns_test.proofs.tests.open.Goals as goal

pub returns-clause-class : goal.returns-clause-class
returns-clause-class c =
    let stands = ap (λ (machine : MachineView). machine.state) c.in_ok-machine.ensures.machine in
    IfOk-weaker c.answered-found.result _ _
    (λ class here. subst (λ (state : State). AnswersClass c.args.code.now state class.now) stands here c.args.limits)
    c.answered-found.ensures.class

pub returns-clause-fault : goal.returns-clause-fault
returns-clause-fault c fault is reversed only =
    let stands = ap (λ (machine : MachineView). machine.state) c.in_ok-machine.ensures.machine in
    subst (λ (state : State). AnswersFault c.args.code.now state fault) stands (c.answered-found.ensures.fault fault is)
    c.args.limits reversed only
