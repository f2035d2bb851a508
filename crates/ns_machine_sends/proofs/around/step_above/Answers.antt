use Rattle.std.proofs.Common.{refl}
use Rattle.ns_moves.specs.Sends.{ToSuper}
use Rattle.ns_moves.specs.Running.{code_of}
use Rattle.ns_machine_sends.specs.laws.Stepped.{step_goes, step_sends}
use Rattle.ns_machine_sends.proofs.Selves.{step_fits}
use Rattle.ns_machine_sends.proofs.around.step_above.Goals as goal

pub look_above-requires-clause-runs : goal.look_above-requires-clause-runs
look_above-requires-clause-runs c =
    step_fits c.args.code.now c.args.core.now.run.world.world c.step.new.self.world (code_of c.args.running) c.in-Ok.ensures.charges.0 c.requires.runs

pub look_above-requires-clause-goes : goal.look_above-requires-clause-goes
look_above-requires-clause-goes c =
    step_goes (record { lawful = c.sends_keep_lawful.ensures.sent; hands = c.what_is_handed_on_fits.ensures; spends = c.actions_spend_exactly.ensures; stays = c.sites_stay.ensures.sent })
    c.a_send_is_its_step_and_its_answer.ensures.running c.args.code.now c.args.core.now c.args.at c.args.sent c.args.running.me (code_of c.args.running) ToSuper
    c.step.new.self c.in-Ok.ensures.charges.0 refl c.requires.runs c.requires.can

pub returns-in-Ok : goal.returns-in-Ok
returns-in-Ok c =
    step_sends c.a_send_is_its_step_and_its_answer.ensures.running c.args.code.now c.args.core.now c.look_above.new.core c.args.at c.args.sent c.args.running.me
    (code_of c.args.running) ToSuper c.step.new.self c.look_above.result c.in-Ok.ensures.charges.0 c.in-Ok.ensures.charges.1 refl c.requires.can c.look_above.ensures
