use Rattle.std.proofs.Common.{refl}
use Rattle.ns_moves.specs.Sends.{To}
use Rattle.ns_machine_sends.specs.laws.Stepped.{step_sends}
use Rattle.ns_machine_quick.proofs.values.charge.Goals as goal

pub returns-in-Ok : goal.returns-in-Ok
returns-in-Ok c activation =
    step_sends c.a_send_is_its_step_and_its_answer.ensures.running c.args.code.now c.args.core.now c.wait.new.core c.args.at c.args.sent c.args.receiver activation
    (To c.args.receiver c.args.kind) c.step.new.self c.wait.result c.in-Ok.ensures.charges.0 c.in-Ok.ensures.charges.1 refl c.requires.can (c.wait.ensures activation)
