use Rattle.std.proofs.Common.{sym, ap, ◌∙◌}
use Rattle.ns_world.specs.Heap.{Heap}
use Rattle.ns_world.specs.World.{World}
use Rattle.ns_moves.specs.Sends.{ToPrivate, receiver_of}
use Rattle.ns_moves.specs.Running.{code_of}
use Rattle.ns_machine_core.specs.laws.Charged.{step_is}
use Rattle.ns_machine_sends.specs.laws.Stepped.{step_goes, step_sends}
use Rattle.ns_machine_sends.proofs.Selves.{step_fits}
use Rattle.ns_machine_sends.proofs.around.step_around.Goals as goal

pub look_around-requires-clause-runs : goal.look_around-requires-clause-runs
look_around-requires-clause-runs c =
    step_fits c.args.code.now c.args.core.now.run.world.world c.step.new.self.world (code_of c.args.running) c.in-Ok.ensures.charges.0 c.requires.runs

pub look_around-requires-clause-receiver : goal.look_around-requires-clause-receiver
look_around-requires-clause-receiver c =
    c.requires.receiver
    ∙ ap (λ (h : Heap). receiver_of h (code_of c.args.running) (ToPrivate c.args.level))
    (sym (ap (λ (w : World). w.cells) (step_is c.args.core.now.run.world.world c.step.new.self.world c.in-Ok.ensures.charges.0)))

pub look_around-requires-clause-goes : goal.look_around-requires-clause-goes
look_around-requires-clause-goes c =
    step_goes (record { lawful = c.sends_keep_lawful.ensures.sent; hands = c.what_is_handed_on_fits.ensures; spends = c.actions_spend_exactly.ensures; stays = c.sites_stay.ensures.sent })
    c.a_send_is_its_step_and_its_answer.ensures.running c.args.code.now c.args.core.now c.args.at c.args.sent c.args.receiver (code_of c.args.running) (ToPrivate c.args.level)
    c.step.new.self c.in-Ok.ensures.charges.0 (sym c.requires.receiver) (c.requires.runs, c.requires.level) c.requires.can

pub returns-in-Ok : goal.returns-in-Ok
returns-in-Ok c =
    step_sends c.a_send_is_its_step_and_its_answer.ensures.running c.args.code.now c.args.core.now c.look_around.new.core c.args.at c.args.sent c.args.receiver
    (code_of c.args.running) (ToPrivate c.args.level) c.step.new.self c.look_around.result c.in-Ok.ensures.charges.0 c.in-Ok.ensures.charges.1 (sym c.requires.receiver) c.requires.can c.look_around.ensures
