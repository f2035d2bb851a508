use Rattle.ns_machine_returns.proofs.Left.{left_takes}
use Rattle.ns_machine_returns.proofs.Ended.{still_lawful, still_live, answered}
use Rattle.ns_machine_returns.proofs.ending.answer.Goals as goal

pub hand-requires-clause-can : goal.hand-requires-clause-can
hand-requires-clause-can c =
    left_takes c.args.code.now c.args.core.now c.args.at c.leave-here.result c.part_ended.new.world c.leave-here.new.self c.requires.can.stands c.requires.room
    (still_lawful c.charging_keeps_lawful.ensures.left c.args.code.now c.args.core.now c.part_ended.new.world c.requires.can.lawful c.part_ended.ensures.ended)
    (record {
      rest = c.part_ended.ensures.rest;
      stood = c.leave-here.ensures.stood;
      laid = c.leave-here.ensures.laid;
      values = c.leave-here.ensures.values;
      frames = c.leave-here.ensures.frames;
    })

pub hand-requires-clause-live : goal.hand-requires-clause-live
hand-requires-clause-live c =
    still_live c.args.code.now c.args.core.now c.part_ended.new.world c.args.value c.requires.can.live c.part_ended.ensures.ended

pub returns : goal.returns
returns c =
    answered c.args.code.now c.args.core.now c.hand.new.core c.args.at c.leave-here.result c.part_ended.new.world c.leave-here.new.self c.args.value
    c.hand.result c.requires.can.kept
    (record {
      rest = c.part_ended.ensures.rest;
      stood = c.leave-here.ensures.stood;
      laid = c.leave-here.ensures.laid;
      values = c.leave-here.ensures.values;
      frames = c.leave-here.ensures.frames;
    })
    c.part_ended.ensures.ended c.hand.ensures
