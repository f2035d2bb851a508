use Rattle.std.proofs.Common.{◌≡◌, ◌+◌, ◌-◌, length, drop, length-drop, arith}
use Rattle.ns_gen_draft.specs.Standing.{standing}
use Rattle.ns_gen_bodies.proofs.Stepping.{steps_step, steps_number}
use Rattle.ns_gen_bodies.proofs.steps.put_steps.Goals as goal

pub loop-statement-preserved : goal.loop-statement-preserved
loop-statement-preserved c =
    let here = standing c.args.here.now in
    let k = c.loop-statement.statement-index in
    let list = c.args.list.now in
    let count : c.loop-statement.left - 1 ≡ length (drop (k + 1) list) =
    omega (c.loop-statement.invariant.0, length-drop k list, length-drop (k + 1) list, c.loop-statement-test.true, arith) in (
      count,
      steps_step here c.loop-statement.next c.put_block_step.new.next k (c.loop-statement.left - 1) list c.statement-item.result c.loop-statement.writer
          c.put_block_step.new.writer _ c.loop-statement-test.true c.statement-item.is count c.loop-statement.invariant.1
          c.in_ok-put_block_step.ensures.put c.in_ok-put_block_step.ensures.next,
      steps_number here c.loop-statement.next c.put_block_step.new.next k _ list c.statement-item.result c.loop-statement-test.true
          c.statement-item.is c.loop-statement.invariant.2 c.in_ok-put_block_step.ensures.next,
    )
