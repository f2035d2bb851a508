use Rattle.std.proofs.Common.{sym, subst}
use Rattle.ns_find.specs.declared.found.Found.TheVariants.{Getter}
use Rattle.ns_moves.specs.Control.{Control}
use Rattle.ns_moves.specs.Sends.{ToPrivate}
use Rattle.ns_moves.specs.Running.{code_of}
use Rattle.ns_machine_core.specs.declared.state.Next.TheVariants.{On}
use Rattle.ns_machine_core.specs.laws.Worlds.{in_other}
use Rattle.ns_machine_sends.specs.Sending.{Sends}
use Rattle.ns_machine_sends.specs.laws.Stepped.{step_sends}
use Rattle.ns_machine_quick.proofs.Slotted.{suits_later, getter_later, got_on_top}
use Rattle.ns_machine_quick.proofs.private.get_around.Goals as goal

pub get-requires-clause-suits : goal.get-requires-clause-suits
get-requires-clause-suits c =
    suits_later c.args.code.now c.args.core.now c.args.sent c.args.receiver (Getter c.args.holder c.args.word) (code_of c.args.running) (ToPrivate c.args.level)
    c.step.new.self c.in-Ok.ensures.charges.0
    (c.what_is_found_suits.ensures.private c.args.core.now.run.world.world c.args.code.now (code_of c.args.running) c.args.level c.args.sent.site.sel.0
    c.requires.can.lawful c.requires.runs c.requires.level)
    (sym c.requires.finds) (sym c.requires.receiver)

pub returns-in-Ok : goal.returns-in-Ok
returns-in-Ok c = (
  step_sends c.a_send_is_its_step_and_its_answer.ensures.running c.args.code.now c.args.core.now c.get.new.core c.args.at c.args.sent c.args.receiver
      (code_of c.args.running) (ToPrivate c.args.level) c.step.new.self (On c.get.result) c.in-Ok.ensures.charges.0 c.in-Ok.ensures.charges.1 (sym c.requires.receiver)
      c.requires.can
      (subst (λ (control : Control). Sends c.args.code.now (in_other c.args.core.now c.step.new.self) c.args.at c.args.sent.floor control c.get.new.core (On c.get.result))
      (sym (getter_later c.args.code.now c.args.core.now c.args.at c.args.sent c.args.receiver c.args.holder c.args.word (code_of c.args.running) (ToPrivate c.args.level)
      c.step.new.self c.in-Ok.ensures.charges.0 (sym c.requires.finds) (sym c.requires.receiver)))
      c.get.ensures),
  got_on_top c.args.code.now c.args.core.now c.get.new.core c.args.at c.get.result c.args.sent.floor c.args.receiver c.args.word c.step.new.self
      c.in-Ok.ensures.charges.0 c.get.ensures,
)
