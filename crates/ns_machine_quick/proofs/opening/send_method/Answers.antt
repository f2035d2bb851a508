use Rattle.std.proofs.Common.{length, refl, sym, subst}
use Rattle.ns_moves.specs.Control.{Control}
use Rattle.ns_moves.specs.Sends.{To}
use Rattle.ns_machine_core.specs.declared.state.Next.TheVariants.{On}
use Rattle.ns_machine_core.specs.laws.Worlds.{in_other}
use Rattle.ns_machine_sends.specs.Going.{ControlGoesOn}
use Rattle.ns_machine_sends.specs.Sending.{Sends}
use Rattle.ns_machine_sends.specs.laws.Stepped.{step_goes, step_sends, no_one}
use Rattle.ns_machine_quick.proofs.Opened.{found_later}
use Rattle.ns_machine_quick.proofs.opening.send_method.Goals as goal

pub begin-requires-clause-goes : goal.begin-requires-clause-goes
begin-requires-clause-goes c =
    subst (λ (control : Control). ControlGoesOn c.args.code.now (length c.args.core.now.stack.frames.items) control)
    (found_later c.args.code.now c.args.core.now c.args.at c.args.sent c.args.receiver c.args.body c.args.holder no_one (To c.args.receiver c.args.kind)
    c.step.new.self c.in-Ok.ensures.charges.0 c.requires.finds refl)
    (step_goes (record { lawful = c.sends_keep_lawful.ensures.sent; hands = c.what_is_handed_on_fits.ensures; spends = c.actions_spend_exactly.ensures; stays = c.sites_stay.ensures.sent })
    c.a_send_is_its_step_and_its_answer.ensures.running c.args.code.now c.args.core.now c.args.at c.args.sent c.args.receiver no_one (To c.args.receiver c.args.kind)
    c.step.new.self c.in-Ok.ensures.charges.0 refl c.requires.can.live c.requires.can)

pub returns-in-Ok : goal.returns-in-Ok
returns-in-Ok c activation =
    step_sends c.a_send_is_its_step_and_its_answer.ensures.running c.args.code.now c.args.core.now c.begin.new.core c.args.at c.args.sent c.args.receiver activation
    (To c.args.receiver c.args.kind) c.step.new.self (On c.begin.result) c.in-Ok.ensures.charges.0 c.in-Ok.ensures.charges.1 refl c.requires.can
    (subst (λ (control : Control). Sends c.args.code.now (in_other c.args.core.now c.step.new.self) c.args.at c.args.sent.floor control c.begin.new.core (On c.begin.result))
    (sym (found_later c.args.code.now c.args.core.now c.args.at c.args.sent c.args.receiver c.args.body c.args.holder activation (To c.args.receiver c.args.kind)
    c.step.new.self c.in-Ok.ensures.charges.0 c.requires.finds refl))
    c.begin.ensures)
