use Rattle.std.proofs.Common.{◌∙◌}
use Rattle.ns_machine_freeze.proofs.Below.{all_start, all_go_on}
use Rattle.ns_machine_freeze.proofs.frames.frames.Goals as goal

pub frames-init : goal.frames-init
frames-init c =
    c.in_ok-frames.ensures.items
    ∙ all_start c.args.code.now c.args.core.now c.args.at c.args.waits c.requires c.count-count.result c.count-count.ensures

pub frames-preserved : goal.frames-preserved
frames-preserved c =
    c.in_ok-push.ensures.items
    ∙ all_go_on c.args.code.now c.args.core.now c.args.at c.args.waits c.requires c.frames.frames.items c.in_ok-frame_at.field-0 c.count-count.result
    c.frames.done c.frames-test.true c.frames.invariant c.in_ok-frame_at.ensures
