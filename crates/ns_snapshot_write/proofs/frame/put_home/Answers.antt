use Rattle.ns_image.specs.Bytes as b
use Rattle.ns_snapshot.specs.Bytes as s
use Rattle.ns_snapshot_write.proofs.Joined.{three_put}
use Rattle.ns_snapshot_write.proofs.frame.put_home.Goals as goal

pub returns : goal.returns
returns c =
    let x = c.args.frame.now in
    three_put c.put.result c.args.out.now.items c.put_word.new.out.items c.put_double.new.out.items c.put.new.out.items
    (b.word x.holder)
    (s.double x.home)
    (s.value x.env)
    c.in_ok-put_word.ensures c.in_ok-put_double.ensures c.put.ensures
