use Rattle.std.proofs.Common.{refl}
use Rattle.ns_moves.specs.Sends.{To}
use Rattle.ns_machine_core.specs.declared.state.Next.TheVariants.{On}
use Rattle.ns_machine_core.specs.laws.Charged.{step_on_top, on_top_after}
use Rattle.ns_machine_core.specs.laws.Worlds.{in_other}
use Rattle.ns_machine_sends.specs.laws.Stepped.{step_sends}
use Rattle.ns_machine_quick.proofs.rows.charge_put.Goals as goal

pub returns-in-Ok : goal.returns-in-Ok
returns-in-Ok c = (
  λ activation.
      step_sends c.a_send_is_its_step_and_its_answer.ensures.running c.args.code.now c.args.core.now c.put.new.core c.args.at c.args.sent c.args.receiver activation
      (To c.args.receiver c.args.kind) c.step.new.self (On c.put.result) c.in-Ok.ensures.charges.0 c.in-Ok.ensures.charges.1 refl c.requires.can
      (c.put.ensures.sends activation),
  on_top_after 1 0 c.args.core.now (in_other c.args.core.now c.step.new.self) c.put.new.core
      (step_on_top c.args.core.now c.step.new.self c.in-Ok.ensures.charges.0) c.put.ensures.stays,
)
