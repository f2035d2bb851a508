use Rattle.std.proofs.Common.{refl, sym, subst}
use Rattle.ns_find.specs.declared.found.Found.TheVariants.{Setter}
use Rattle.ns_moves.specs.Control.{Control}
use Rattle.ns_moves.specs.Sends.{To}
use Rattle.ns_machine_core.specs.declared.state.Next.TheVariants.{On}
use Rattle.ns_machine_core.specs.laws.Worlds.{in_other}
use Rattle.ns_machine_sends.specs.Sending.{Sends}
use Rattle.ns_machine_sends.specs.laws.Stepped.{no_one, step_sends}
use Rattle.ns_machine_quick.proofs.Slotted.{suits_later, setter_later, set_on_top}
use Rattle.ns_machine_quick.proofs.slots.send_setter.Goals as goal

pub set-requires-clause-suits : goal.set-requires-clause-suits
set-requires-clause-suits c =
    suits_later c.args.code.now c.args.core.now c.args.sent c.args.receiver (Setter c.args.holder c.args.word) no_one (To c.args.receiver c.args.kind) c.step.new.self
    c.in-Ok.ensures.charges.0
    (c.what_is_found_suits.ensures.own c.args.core.now.run.world.world c.args.code.now c.args.receiver c.args.sent.site.sel.0 c.args.kind c.requires.can.lawful)
    c.requires.finds refl

pub returns-in-Ok : goal.returns-in-Ok
returns-in-Ok c = (
  λ activation.
      step_sends c.a_send_is_its_step_and_its_answer.ensures.running c.args.code.now c.args.core.now c.set.new.core c.args.at c.args.sent c.args.receiver activation
      (To c.args.receiver c.args.kind) c.step.new.self (On c.set.result) c.in-Ok.ensures.charges.0 c.in-Ok.ensures.charges.1 refl c.requires.can
      (subst (λ (control : Control). Sends c.args.code.now (in_other c.args.core.now c.step.new.self) c.args.at c.args.sent.floor control c.set.new.core (On c.set.result))
      (sym (setter_later c.args.code.now c.args.core.now c.args.at c.args.sent c.args.receiver c.args.holder c.args.word activation (To c.args.receiver c.args.kind)
      c.step.new.self c.in-Ok.ensures.charges.0 c.requires.finds refl))
      c.set.ensures),
  set_on_top c.args.code.now c.args.core.now c.set.new.core c.args.at c.set.result c.args.sent c.args.receiver c.args.word c.step.new.self
      c.in-Ok.ensures.charges.0 c.set.ensures,
)
