use Rattle.std.proofs.Common.{None, ap, ◌∙◌}
use Rattle.ns_machine_plan.specs.Packed.{step_in, unpacked}
use Rattle.ns_machine_turns.proofs.Rowed.{can_send, send_goes}
use Rattle.ns_machine_turns.proofs.blockwise.send_step.Goals as goal

pub send_block-requires : goal.send_block-requires
send_block-requires c =
    can_send c.args.code.now c.args.core.now c.args.at (step_in c.args.step) None c.send.result.now
    (ap (unpacked c.args.step.tables.now) c.in-Send.is ∙ c.send.ensures None) c.requires.can

pub returns-in-Send : goal.returns-in-Send
returns-in-Send c =
    send_goes c.args.code.now c.args.core.now c.args.at (step_in c.args.step) None c.send.result.now
    (ap (unpacked c.args.step.tables.now) c.in-Send.is ∙ c.send.ensures None) c.send_block.new.core c.send_block.result c.send_block.ensures
