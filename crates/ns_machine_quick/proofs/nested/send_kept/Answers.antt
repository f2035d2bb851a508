use Rattle.std.proofs.Common.{refl, sym, subst}
use Rattle.ns_moves.specs.Control.{Control}
use Rattle.ns_moves.specs.Sends.{To}
use Rattle.ns_machine_core.specs.declared.state.Next.TheVariants.{On}
use Rattle.ns_machine_core.specs.laws.Worlds.{in_other}
use Rattle.ns_machine_sends.specs.Sending.{Sends}
use Rattle.ns_machine_sends.specs.laws.Stepped.{step_sends}
use Rattle.ns_machine_quick.proofs.Keeping.{nested_later, class_on_top}
use Rattle.ns_machine_quick.proofs.nested.send_kept.Goals as goal

pub returns-in-Ok : goal.returns-in-Ok
returns-in-Ok c = (
  λ activation.
      step_sends c.a_send_is_its_step_and_its_answer.ensures.running c.args.code.now c.args.core.now c.give_class.new.core c.args.at c.args.sent c.args.receiver
      activation (To c.args.receiver c.args.kind) c.step.new.self (On c.give_class.result) c.in-Ok.ensures.charges.0 c.in-Ok.ensures.charges.1 refl c.requires.can
      (subst (λ (control : Control). Sends c.args.code.now (in_other c.args.core.now c.step.new.self) c.args.at c.args.sent.floor control c.give_class.new.core
      (On c.give_class.result))
      (sym (nested_later c.args.code.now c.args.core.now c.args.at c.args.sent c.args.receiver c.args.holder c.args.class c.args.kept activation
      (To c.args.receiver c.args.kind) c.step.new.self c.in-Ok.ensures.charges.0 c.requires.finds refl c.requires.keeps))
      c.give_class.ensures),
  class_on_top c.args.code.now c.args.core.now c.give_class.new.core c.args.at c.give_class.result c.args.sent.floor c.args.kept c.step.new.self
      c.in-Ok.ensures.charges.0 c.give_class.ensures,
)
