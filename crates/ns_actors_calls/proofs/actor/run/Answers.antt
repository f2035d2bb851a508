use Rattle.ns_actors_calls.proofs.Running.{run_is}
use Rattle.ns_actors_calls.proofs.actor.run.Goals as goal

pub returns : goal.returns
returns c =
    let old = c.args.machine.now in
    run_is old c.turn-turn.new.self c.args.steps (c.turns_are_a_function.ensures old.code old.grants) c.idle-valid.ensures.valid
    c.turn-turn.ensures.turns c.turn-turn.ensures.rest
