use Rattle.std.proofs.Common.{[], ◌∷◌}
use Rattle.ns_image.specs.Bytes as b
use Rattle.ns_snapshot.specs.Bytes as s
use Rattle.ns_snapshot_write.proofs.Joined.{both_put}
use Rattle.ns_snapshot_write.proofs.frame.KStatePart.put.Goals as goal

pub returns : goal.returns
returns c =
    let x = c.args.self.now in
    both_put c.put_turns.result c.args.out.now.items c.put_message.new.out.items c.put_turns.new.out.items
    (s.value x.receiver ∷ s.value x.first ∷ s.value x.second ∷ [])
    (b.long x.size ∷ b.long x.count ∷ s.option s.value x.last ∷ [])
    c.in_ok-put_message.ensures c.put_turns.ensures
