use Rattle.ns_image.specs.Bytes as b
use Rattle.ns_snapshot.specs.Bytes as s
use Rattle.ns_snapshot_write.proofs.Joined.{three_put}
use Rattle.ns_snapshot_write.proofs.frame.put_turns.Goals as goal

pub returns : goal.returns
returns c =
    let x = c.args.state.now in
    three_put c.put.result c.args.out.now.items c.put_size.new.out.items c.put_count.new.out.items c.put.new.out.items
    (b.long x.size)
    (b.long x.count)
    (s.option s.value x.last)
    c.in_ok-put_size.ensures c.in_ok-put_count.ensures c.put.ensures
