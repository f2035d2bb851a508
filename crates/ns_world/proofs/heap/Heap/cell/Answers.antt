use Rattle.ns_world.proofs.Shapes.{shape_told}
use Rattle.ns_world.proofs.Kept.{seen_laid_out}
use Rattle.ns_world.proofs.heap.Heap.cell.Goals as goal

pub returns : goal.returns
returns c =
    let laid = seen_laid_out c.args.self.now c.self.inside.words.items _ _ _ _ c.self.view_is c.self.invariant in
    let told = shape_told c.args.self.now.cells c.self.inside.words.items c.args.at laid c.requires in
    cc (c.shape_in.ensures, c.word_or_nil.ensures, c.word_or_nil-next.ensures, c.word_or_nil-second.ensures, c.deref.ensures.value, c.deref-2.ensures.value, c.deref-3.ensures.value, told)
