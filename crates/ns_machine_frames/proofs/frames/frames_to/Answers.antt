use Rattle.ns_machine_frames.proofs.Homes.{is_further, is_found}
use Rattle.ns_machine_frames.proofs.frames.frames_to.Goals as goal

pub returns-then-is_home : goal.returns-then-is_home
returns-then-is_home c =
    is_found c.args.home c.frames.number c.args.items.now _ c.is_home.result c.frames-test.true c.is_home.ensures c.if-is_home.true c.frames.invariant

pub frames-preserved : goal.frames-preserved
frames-preserved c =
    is_further c.args.home c.frames.number c.args.items.now _ c.is_home.result c.frames-test.true c.is_home.ensures c.if-is_home.false c.frames.invariant
