use Rattle.std.proofs.Common.{[], ◌∷◌}
use Rattle.ns_image.specs.Bytes as b
use Rattle.ns_snapshot.specs.Bytes as s
use Rattle.ns_snapshot_write.proofs.Joined.{both_put}
use Rattle.ns_snapshot_write.proofs.frame.FrozenFramePart.put.Goals as goal

pub returns : goal.returns
returns c =
    let x = c.args.self.now in
    both_put c.put_lists.result c.args.out.now.items c.put_head.new.out.items c.put_lists.new.out.items
    (s.frame_kind x.kind ∷ b.word x.instr ∷ s.value x.receiver ∷ b.word x.holder ∷ s.double x.home ∷ s.value x.env ∷ [])
    (s.values x.locals ∷ s.values x.operands ∷ s.site x.site ∷ [])
    c.in_ok-put_head.ensures c.put_lists.ensures
