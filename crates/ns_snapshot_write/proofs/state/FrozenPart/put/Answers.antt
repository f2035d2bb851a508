use Rattle.std.proofs.Common.{[], ◌∷◌, flat_map}
use Rattle.ns_image.specs.Bytes as b
use Rattle.ns_snapshot.specs.Bytes as s
use Rattle.ns_snapshot_write.proofs.Joined.{both_put}
use Rattle.ns_snapshot_write.proofs.state.FrozenPart.put.Goals as goal

pub returns : goal.returns
returns c =
    let x = c.args.self.now in
    both_put c.put_rest.result c.args.out.now.items c.put_head.new.out.items c.put_rest.new.out.items
    (s.limits x.limits ∷ s.counters x.used ∷ s.grants x.grants ∷ flat_map s.plain x.board.places ∷ b.text x.output ∷ s.double x.homes ∷ b.byte x.phase ∷ [])
    (s.option s.pending x.pending ∷ s.option s.ending x.ending ∷ b.counted s.cell x.cells ∷ b.counted s.frame x.frames ∷ [])
    c.in_ok-put_head.ensures c.put_rest.ensures
