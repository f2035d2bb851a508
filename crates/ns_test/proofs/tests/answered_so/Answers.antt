use Rattle.ns_test.specs.Stated.{AnswersFault}
use Rattle.ns_test.proofs.Opened.{answers_stop, is_fault}
use Rattle.ns_test.proofs.tests.answered_so.Goals as goal

pub returns-in-Error-clause-fault : goal.returns-in-Error-clause-fault
returns-in-Error-clause-fault c fault is =
    let ended_so = c.in-Error.is in
    is_fault (AnswersFault c.args.code.now c.args.machine.now.state) _ fault is
    (answers_stop c.args.code.now c.args.machine.now.code c.args.machine.now.state c.args.ending c.stopped.result
    c.requires.code c.requires.ends (λ value done. absurd (cc)) c.stopped.ensures)

pub returns-in-Limit-clause-fault : goal.returns-in-Limit-clause-fault
returns-in-Limit-clause-fault c fault is =
    let ended_so = c.in-Limit.is in
    is_fault (AnswersFault c.args.code.now c.args.machine.now.state) _ fault is
    (answers_stop c.args.code.now c.args.machine.now.code c.args.machine.now.state c.args.ending c.stopped-in-Limit.result
    c.requires.code c.requires.ends (λ value done. absurd (cc)) c.stopped-in-Limit.ensures)
