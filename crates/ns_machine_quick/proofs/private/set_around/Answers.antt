use Rattle.std.proofs.Common.{sym, subst}
use Rattle.ns_find.specs.declared.found.Found.TheVariants.{Setter}
use Rattle.ns_moves.specs.Control.{Control}
use Rattle.ns_moves.specs.Sends.{ToPrivate}
use Rattle.ns_moves.specs.Running.{code_of}
use Rattle.ns_machine_core.specs.declared.state.Next.TheVariants.{On}
use Rattle.ns_machine_core.specs.laws.Worlds.{in_other}
use Rattle.ns_machine_sends.specs.Sending.{Sends}
use Rattle.ns_machine_sends.specs.laws.Stepped.{step_sends}
use Rattle.ns_machine_quick.proofs.Slotted.{suits_later, setter_later, set_on_top}
use Rattle.ns_machine_quick.proofs.private.set_around.Goals as goal

pub set-requires-clause-suits : goal.set-requires-clause-suits
set-requires-clause-suits c =
    suits_later c.args.code.now c.args.core.now c.args.sent c.args.receiver (Setter c.args.holder c.args.word) (code_of c.args.running) (ToPrivate c.args.level)
    c.step.new.self c.in-Ok.ensures.charges.0
    (c.what_is_found_suits.ensures.private c.args.core.now.run.world.world c.args.code.now (code_of c.args.running) c.args.level c.args.sent.site.sel.0
    c.requires.can.lawful c.requires.runs c.requires.level)
    (sym c.requires.finds) (sym c.requires.receiver)

pub returns-in-Ok : goal.returns-in-Ok
returns-in-Ok c = (
  step_sends c.a_send_is_its_step_and_its_answer.ensures.running c.args.code.now c.args.core.now c.set.new.core c.args.at c.args.sent c.args.receiver
      (code_of c.args.running) (ToPrivate c.args.level) c.step.new.self (On c.set.result) c.in-Ok.ensures.charges.0 c.in-Ok.ensures.charges.1 (sym c.requires.receiver)
      c.requires.can
      (subst (λ (control : Control). Sends c.args.code.now (in_other c.args.core.now c.step.new.self) c.args.at c.args.sent.floor control c.set.new.core (On c.set.result))
      (sym (setter_later c.args.code.now c.args.core.now c.args.at c.args.sent c.args.receiver c.args.holder c.args.word (code_of c.args.running) (ToPrivate c.args.level)
      c.step.new.self c.in-Ok.ensures.charges.0 (sym c.requires.finds) (sym c.requires.receiver)))
      c.set.ensures),
  set_on_top c.args.code.now c.args.core.now c.set.new.core c.args.at c.set.result c.args.sent c.args.receiver c.args.word c.step.new.self
      c.in-Ok.ensures.charges.0 c.set.ensures,
)
