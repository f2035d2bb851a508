use Rattle.ns_machine_plan.specs.Packed.{step_in}
use Rattle.ns_machine_turns.specs.Sent.{row_spelled}
use Rattle.ns_machine_turns.proofs.Rowed.{can_send, row_is_spelled, send_leads}
use Rattle.ns_machine_turns.proofs.performing.send_to_value.Goals as goal

pub send_as_spelled-requires-clause-can : goal.send_as_spelled-requires-clause-can
send_as_spelled-requires-clause-can c =
    can_send c.args.code.now c.args.core.now c.args.at (step_in c.args.step) (row_spelled c.args.step.packed.now) c.in-Some.send.now c.in-Some.ensures
    c.requires.can

pub send_as_spelled-requires-clause-spelled : goal.send_as_spelled-requires-clause-spelled
send_as_spelled-requires-clause-spelled c =
    row_is_spelled c.args.code.now c.args.core.now c.args.at (step_in c.args.step) (row_spelled c.args.step.packed.now) c.in-Some.send.now c.in-Some.ensures
    c.requires.can c.requires.member

pub returns-in-Some : goal.returns-in-Some
returns-in-Some c =
    send_leads c.args.code.now c.args.core.now c.args.at (step_in c.args.step) (row_spelled c.args.step.packed.now) c.in-Some.send.now c.in-Some.ensures
    c.send_as_spelled.new.core c.send_as_spelled.result c.send_as_spelled.ensures
