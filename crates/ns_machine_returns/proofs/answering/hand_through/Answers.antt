use Rattle.ns_machine_core.specs.declared.state.Next.TheVariants as next
use Rattle.ns_machine_returns.proofs.Unended.{some_below}
use Rattle.ns_machine_returns.proofs.Left.{left_takes}
use Rattle.ns_machine_returns.proofs.Ended.{still_lawful, still_live, answered}
use Rattle.ns_machine_returns.proofs.Through.{some_depth, room_through, handed_through}
use Rattle.ns_machine_returns.proofs.answering.hand_through.Goals as goal

pub part_ended-requires : goal.part_ended-requires
part_ended-requires c = some_depth c.args.code.now c.args.core.now c.args.at c.requires.passes c.requires.framed

pub hand-requires-clause-can : goal.hand-requires-clause-can
hand-requires-clause-can c =
    left_takes c.args.code.now c.args.core.now c.args.at c.leave-here.result c.part_ended.new.world c.leave-here.new.self c.requires.can.stands
    (room_through c.args.code.now c.args.core.now c.args.at c.requires.passes c.requires.framed)
    (still_lawful c.charging_keeps_lawful.ensures.left c.args.code.now c.args.core.now c.part_ended.new.world c.requires.can.lawful c.part_ended.ensures.ended)
    (record {
      rest = c.part_ended.ensures.rest;
      stood = c.leave-here.ensures.stood;
      laid = c.leave-here.ensures.laid;
      values = c.leave-here.ensures.values;
      frames = c.leave-here.ensures.frames;
    })

pub hand-requires-clause-live : goal.hand-requires-clause-live
hand-requires-clause-live c =
    still_live c.args.code.now c.args.core.now c.part_ended.new.world c.args.value c.requires.live c.part_ended.ensures.ended

pub hand-requires-clause-some : goal.hand-requires-clause-some
hand-requires-clause-some c = some_below c.args.core.now.stack c.leave-here.new.self c.requires.some c.leave-here.ensures.frames

pub returns : goal.returns
returns c =
    handed_through c.args.code.now c.args.core.now c.hand.new.core c.args.at c.args.value (next.On c.hand.result) c.requires.passes
    (answered c.args.code.now c.args.core.now c.hand.new.core c.args.at c.leave-here.result c.part_ended.new.world c.leave-here.new.self c.args.value
    (next.On c.hand.result) c.requires.kept
    (record {
      rest = c.part_ended.ensures.rest;
      stood = c.leave-here.ensures.stood;
      laid = c.leave-here.ensures.laid;
      values = c.leave-here.ensures.values;
      frames = c.leave-here.ensures.frames;
    })
    c.part_ended.ensures.ended c.hand.ensures)
