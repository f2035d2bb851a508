use Rattle.std.proofs.Common.{length, sym, subst}
use Rattle.ns_moves.specs.Control.{Control}
use Rattle.ns_moves.specs.Sends.{ToPrivate}
use Rattle.ns_moves.specs.Running.{code_of}
use Rattle.ns_machine_core.specs.declared.state.Next.TheVariants.{On}
use Rattle.ns_machine_core.specs.laws.Worlds.{in_other}
use Rattle.ns_machine_sends.specs.Going.{ControlGoesOn}
use Rattle.ns_machine_sends.specs.Sending.{Sends}
use Rattle.ns_machine_sends.specs.laws.Stepped.{step_goes, step_sends}
use Rattle.ns_machine_quick.proofs.Opened.{found_later}
use Rattle.ns_machine_quick.proofs.private.begin_around.Goals as goal

pub begin-requires-clause-goes : goal.begin-requires-clause-goes
begin-requires-clause-goes c =
    subst (λ (control : Control). ControlGoesOn c.args.code.now (length c.args.core.now.stack.frames.items) control)
    (found_later c.args.code.now c.args.core.now c.args.at c.args.sent c.args.receiver c.args.body c.args.holder (code_of c.args.running) (ToPrivate c.args.level)
    c.step.new.self c.in-Ok.ensures.charges.0 (sym c.requires.finds) (sym c.requires.receiver))
    (step_goes (record { lawful = c.sends_keep_lawful.ensures.sent; hands = c.what_is_handed_on_fits.ensures; spends = c.actions_spend_exactly.ensures; stays = c.sites_stay.ensures.sent })
    c.a_send_is_its_step_and_its_answer.ensures.running c.args.code.now c.args.core.now c.args.at c.args.sent c.args.receiver (code_of c.args.running) (ToPrivate c.args.level)
    c.step.new.self c.in-Ok.ensures.charges.0 (sym c.requires.receiver) (c.requires.runs, c.requires.level) c.requires.can)

pub returns-in-Ok : goal.returns-in-Ok
returns-in-Ok c =
    step_sends c.a_send_is_its_step_and_its_answer.ensures.running c.args.code.now c.args.core.now c.begin.new.core c.args.at c.args.sent c.args.receiver (code_of c.args.running)
    (ToPrivate c.args.level) c.step.new.self (On c.begin.result) c.in-Ok.ensures.charges.0 c.in-Ok.ensures.charges.1 (sym c.requires.receiver) c.requires.can
    (subst (λ (control : Control). Sends c.args.code.now (in_other c.args.core.now c.step.new.self) c.args.at c.args.sent.floor control c.begin.new.core (On c.begin.result))
    (sym (found_later c.args.code.now c.args.core.now c.args.at c.args.sent c.args.receiver c.args.body c.args.holder (code_of c.args.running) (ToPrivate c.args.level)
    c.step.new.self c.in-Ok.ensures.charges.0 (sym c.requires.finds) (sym c.requires.receiver)))
    c.begin.ensures)
