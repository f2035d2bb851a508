use Rattle.ns_machine_sends.proofs.Received.{send_does}
use Rattle.ns_machine_sends.proofs.sends.send.Goals as goal

pub returns : goal.returns
returns c =
    send_does c.operands_are_taken.ensures.taken c.args.code.now c.args.core.now c.send_operands.new.core c.args.at c.args.sel c.args.argc c.args.place
    c.send_operands.result c.requires.can c.send_operands.ensures
