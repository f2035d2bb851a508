use Rattle.ns_machine_returns.proofs.Ended.{part_over}
use Rattle.ns_machine_returns.proofs.ending.end_part.Goals as goal

pub returns : goal.returns
returns c =
    part_over c.args.code.now c.args.core.now c.args.at c.leave.result c.part_ended.new.world c.leave.new.self c.args.frame c.args.value c.requires.can c.requires.part
    (record {
      rest = c.part_ended.ensures.rest;
      stood = c.leave.ensures.stood;
      laid = c.leave.ensures.laid;
      values = c.leave.ensures.values;
      frames = c.leave.ensures.frames;
    })
    c.part_ended.ensures.ended
