use Rattle.std.proofs.Common.{arith}
use Rattle.ns_replay.proofs.PutBack.{shown_new, stands_new}
use Rattle.ns_replay.proofs.replay.Replay.new.Goals as goal

pub invariant_of-result : goal.invariant_of-result
invariant_of-result c = (
  stands_new c.args.machine c.turn-turn.new.self c.in-Ok.start c.in-Ok-with_capacity.kept (c.states_thaw_back.ensures c.args.machine.code) c.idle-idle.ensures.valid
      c.requires.begins c.in-Ok.ensures c.in-Ok-with_capacity.ensures.empty c.turn-turn.ensures.turns c.turn-turn.ensures.rest,
  omega (arith, c.requires.every),
)

pub returns : goal.returns
returns c =
    shown_new c.args.machine c.turn-turn.new.self c.in-Ok.start (c.states_thaw_back.ensures c.args.machine.code)
    (c.turns_are_a_function.ensures c.args.machine.code c.args.machine.grants) c.idle-idle.ensures.valid c.requires.begins c.in-Ok.ensures c.turn-turn.ensures.turns
    c.turn-turn.ensures.rest
