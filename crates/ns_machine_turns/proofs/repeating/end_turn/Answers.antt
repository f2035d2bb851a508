use Rattle.ns_machine_turns.proofs.OnTurn.{some_depth, some_frames, turn_of}
use Rattle.ns_machine_turns.proofs.Repeated.{HasLeft, loop_can_act, loops_left, turn_acts}
use Rattle.ns_machine_turns.proofs.repeating.end_turn.Goals as goal

pub part_ended-requires : goal.part_ended-requires
part_ended-requires c =
    some_depth c.args.code.now c.args.core.now c.args.at (turn_of c.args.core.now.stack.frames.items c.requires.ends.turn) c.requires.runs.can.grants
    c.requires.runs.can.ready.valid

pub leave-here-requires-clause-laid : goal.leave-here-requires-clause-laid
leave-here-requires-clause-laid c = c.requires.runs.can.ready.stand.laid

pub leave-here-requires-clause-some : goal.leave-here-requires-clause-some
leave-here-requires-clause-some c =
    some_frames c.args.code.now c.args.core.now c.args.at (turn_of c.args.core.now.stack.frames.items c.requires.ends.turn)

pub act_on-requires-clause-can : goal.act_on-requires-clause-can
act_on-requires-clause-can c =
    let gone : HasLeft c.args.core.now c.args.at c.part_ended.new.world c.leave-here.new.self c.leave-here.result = record {
      ended = c.part_ended.ensures.ended;
      rest = c.part_ended.ensures.rest;
      stood = c.leave-here.ensures.stood;
      laid = c.leave-here.ensures.laid;
      values = c.leave-here.ensures.values;
      frames = c.leave-here.ensures.frames;
    } in
    loop_can_act c.args.code.now c.args.core.now c.args.at c.leave-here.result c.part_ended.new.world c.leave-here.new.self
    (turn_of c.args.core.now.stack.frames.items c.requires.ends.turn) gone c.args.plan.now c.args.own c.requires.runs (c.moves_go_along.ensures c.args.code.now)
    (c.moves_charge_one.ensures.moves c.args.code.now) (c.topmost_methods_can_act.ensures c.args.code.now) c.requires.ends.place c.requires.ends.returns
    c.args.left c.requires.some

pub act_on-requires-clause-loops : goal.act_on-requires-clause-loops
act_on-requires-clause-loops c =
    let gone : HasLeft c.args.core.now c.args.at c.part_ended.new.world c.leave-here.new.self c.leave-here.result = record {
      ended = c.part_ended.ensures.ended;
      rest = c.part_ended.ensures.rest;
      stood = c.leave-here.ensures.stood;
      laid = c.leave-here.ensures.laid;
      values = c.leave-here.ensures.values;
      frames = c.leave-here.ensures.frames;
    } in
    loops_left c.args.code.now c.args.core.now c.args.at c.leave-here.result c.part_ended.new.world c.leave-here.new.self
    (turn_of c.args.core.now.stack.frames.items c.requires.ends.turn) gone

pub returns : goal.returns
returns c =
    let gone : HasLeft c.args.core.now c.args.at c.part_ended.new.world c.leave-here.new.self c.leave-here.result = record {
      ended = c.part_ended.ensures.ended;
      rest = c.part_ended.ensures.rest;
      stood = c.leave-here.ensures.stood;
      laid = c.leave-here.ensures.laid;
      values = c.leave-here.ensures.values;
      frames = c.leave-here.ensures.frames;
    } in
    turn_acts c.args.code.now c.args.core.now c.args.at c.leave-here.result c.part_ended.new.world c.leave-here.new.self
    (turn_of c.args.core.now.stack.frames.items c.requires.ends.turn) gone c.args.plan.now c.args.own c.requires.runs (c.moves_go_along.ensures c.args.code.now)
    (c.moves_charge_one.ensures.moves c.args.code.now) (c.topmost_methods_can_act.ensures c.args.code.now) c.requires.ends.place c.requires.ends.returns
    c.args.left c.requires.some c.act_on.new.core c.act_on.result c.act_on.ensures
