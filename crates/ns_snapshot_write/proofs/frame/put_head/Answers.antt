use Rattle.std.proofs.Common.{[], ◌∷◌}
use Rattle.ns_image.specs.Bytes as b
use Rattle.ns_snapshot.specs.Bytes as s
use Rattle.ns_snapshot_write.proofs.Joined.{both_put}
use Rattle.ns_snapshot_write.proofs.frame.put_head.Goals as goal

pub returns : goal.returns
returns c =
    let x = c.args.frame.now in
    both_put c.put_home.result c.args.out.now.items c.put_running.new.out.items c.put_home.new.out.items
    (s.frame_kind x.kind ∷ b.word x.instr ∷ s.value x.receiver ∷ [])
    (b.word x.holder ∷ s.double x.home ∷ s.value x.env ∷ [])
    c.in_ok-put_running.ensures c.put_home.ensures
