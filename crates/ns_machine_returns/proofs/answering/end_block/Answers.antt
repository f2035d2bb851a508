use Rattle.ns_machine_core.specs.declared.state.Next.TheVariants as next
use Rattle.ns_machine_returns.proofs.Unended.{some_below}
use Rattle.ns_machine_returns.proofs.Left.{left_takes}
use Rattle.ns_machine_returns.proofs.Ended.{body_room, still_lawful, still_live, answered, body_ended_so}
use Rattle.ns_machine_returns.proofs.Through.{framed_left, kept_left, ended_twice}
use Rattle.ns_machine_returns.proofs.answering.end_block.Goals as goal

pub hand_on-requires-clause-can : goal.hand_on-requires-clause-can
hand_on-requires-clause-can c =
    left_takes c.args.code.now c.args.core.now c.args.at c.leave-here.result c.part_ended.new.world c.leave-here.new.self c.requires.can.stands
    (body_room c.args.code.now c.args.core.now c.args.at c.args.frame c.args.value c.requires.can c.requires.body)
    (still_lawful c.charging_keeps_lawful.ensures.left c.args.code.now c.args.core.now c.part_ended.new.world c.requires.can.lawful c.part_ended.ensures.ended)
    (record {
      rest = c.part_ended.ensures.rest;
      stood = c.leave-here.ensures.stood;
      laid = c.leave-here.ensures.laid;
      values = c.leave-here.ensures.values;
      frames = c.leave-here.ensures.frames;
    })

pub hand_on-requires-clause-framed : goal.hand_on-requires-clause-framed
hand_on-requires-clause-framed c =
    framed_left c.args.code.now c.args.core.now c.args.at c.leave-here.result c.part_ended.new.world c.leave-here.new.self c.requires.can.framed
    (record {
      rest = c.part_ended.ensures.rest;
      stood = c.leave-here.ensures.stood;
      laid = c.leave-here.ensures.laid;
      values = c.leave-here.ensures.values;
      frames = c.leave-here.ensures.frames;
    })
    c.part_ended.ensures.ended

pub hand_on-requires-clause-live : goal.hand_on-requires-clause-live
hand_on-requires-clause-live c =
    still_live c.args.code.now c.args.core.now c.part_ended.new.world c.args.value c.requires.can.live c.part_ended.ensures.ended

pub hand_on-requires-clause-some : goal.hand_on-requires-clause-some
hand_on-requires-clause-some c = some_below c.args.core.now.stack c.leave-here.new.self c.requires.some c.leave-here.ensures.frames

pub hand_on-requires-clause-kept : goal.hand_on-requires-clause-kept
hand_on-requires-clause-kept c =
    kept_left c.args.code.now c.args.core.now c.part_ended.new.world c.leave-here.new.self c.requires.can.kept c.part_ended.ensures.ended

pub returns-in-On : goal.returns-in-On
returns-in-On c =
    body_ended_so c.args.code.now c.args.core.now c.hand_on.new.core c.args.at c.args.frame c.args.value (next.On c.in-On.to) c.requires.body
    (answered c.args.code.now c.args.core.now c.hand_on.new.core c.args.at c.leave-here.result c.part_ended.new.world c.leave-here.new.self c.args.value
    (next.On c.in-On.to) c.requires.can.kept
    (record {
      rest = c.part_ended.ensures.rest;
      stood = c.leave-here.ensures.stood;
      laid = c.leave-here.ensures.laid;
      values = c.leave-here.ensures.values;
      frames = c.leave-here.ensures.frames;
    })
    c.part_ended.ensures.ended c.in-On.ensures)

pub returns-in-Answered : goal.returns-in-Answered
returns-in-Answered c =
    ended_twice c.args.code.now c.args.core.now c.hand_on.new.core c.args.at c.leave-here.result c.part_ended.new.world c.leave-here.new.self c.args.frame c.args.value
    (next.On c.in-Answered.to) c.requires.body
    (record {
      rest = c.part_ended.ensures.rest;
      stood = c.leave-here.ensures.stood;
      laid = c.leave-here.ensures.laid;
      values = c.leave-here.ensures.values;
      frames = c.leave-here.ensures.frames;
    })
    c.part_ended.ensures.ended c.in-Answered.ensures
