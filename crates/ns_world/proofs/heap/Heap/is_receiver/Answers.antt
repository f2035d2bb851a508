use Rattle.ns_world.proofs.Kept.{seen_laid_out}
use Rattle.ns_world.proofs.Receivers.{receiver_told}
use Rattle.ns_world.proofs.heap.Heap.is_receiver.Goals as goal

pub returns : goal.returns
returns c =
    let laid = seen_laid_out c.args.self.now c.self.inside.words.items _ _ _ _ c.self.view_is c.self.invariant in
    let told = receiver_told c.args.self.now.cells c.self.inside.words.items c.args.at laid in
    cc (c.is_receiver_head.ensures, c.word_or_nil.ensures, c.deref.ensures.value, told)
