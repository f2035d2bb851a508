use Rattle.std.proofs.Common.{[], ◌∷◌, flat_map}
use Rattle.ns_image.specs.Bytes as b
use Rattle.ns_snapshot.specs.Bytes as s
use Rattle.ns_snapshot_write.proofs.Joined.{both_put}
use Rattle.ns_snapshot_write.proofs.state.put_head.Goals as goal

pub returns : goal.returns
returns c =
    let x = c.args.frozen.now in
    both_put c.put_outside.result c.args.out.now.items c.put_bounds.new.out.items c.put_outside.new.out.items
    (s.limits x.limits ∷ s.counters x.used ∷ s.grants x.grants ∷ [])
    (flat_map s.plain x.board.places ∷ b.text x.output ∷ s.double x.homes ∷ b.byte x.phase ∷ [])
    c.in_ok-put_bounds.ensures c.put_outside.ensures
