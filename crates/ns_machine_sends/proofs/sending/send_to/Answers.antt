use Rattle.std.proofs.Common.{refl}
use Rattle.ns_moves.specs.Sends.{To}
use Rattle.ns_machine_sends.specs.laws.Stepped.{step_goes, step_sends}
use Rattle.ns_machine_sends.proofs.sending.send_to.Goals as goal

pub look_up-requires-clause-goes : goal.look_up-requires-clause-goes
look_up-requires-clause-goes c activation =
    step_goes (record { lawful = c.sends_keep_lawful.ensures.sent; hands = c.what_is_handed_on_fits.ensures; spends = c.actions_spend_exactly.ensures; stays = c.sites_stay.ensures.sent })
    c.a_send_is_its_step_and_its_answer.ensures.running c.args.code.now c.args.core.now c.args.at c.args.sent c.args.receiver activation (To c.args.receiver c.args.kind)
    c.step.new.self c.in-Ok.ensures.charges.0 refl c.requires.can.live c.requires.can

pub returns-in-Ok : goal.returns-in-Ok
returns-in-Ok c activation =
    step_sends c.a_send_is_its_step_and_its_answer.ensures.running c.args.code.now c.args.core.now c.look_up.new.core c.args.at c.args.sent c.args.receiver activation
    (To c.args.receiver c.args.kind) c.step.new.self c.look_up.result c.in-Ok.ensures.charges.0 c.in-Ok.ensures.charges.1 refl c.requires.can (c.look_up.ensures activation)
