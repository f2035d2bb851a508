use Rattle.std.proofs.Common.{arith, ap, ◌∙◌}
use Rattle.ns_world.specs.Heap.{cell_number}
use Rattle.ns_world.proofs.HeadTests.{reads_head}
use Rattle.ns_world.proofs.Kept.{seen_laid_out}
use Rattle.ns_world.proofs.Parents.{parent_told}
use Rattle.ns_world.proofs.heap.Heap.parent.Goals as goal

pub index-requires : goal.index-requires
index-requires c =
    let laid = seen_laid_out c.args.self.now c.self.inside.words.items _ _ _ _ c.self.view_is c.self.invariant in
    let r = reads_head c.args.self.now.cells c.self.inside.words.items c.args.at laid c.requires in
    omega (arith, r.inside, c.self.inside.words.ok.0)

pub returns : goal.returns
returns c parent locals is =
    let laid = seen_laid_out c.args.self.now c.self.inside.words.items _ _ _ _ c.self.view_is c.self.invariant in
    c.number_in.ensures
    ∙ ap cell_number (parent_told c.args.self.now.cells c.self.inside.words.items c.args.at laid c.requires c.index.result.now (cc (c.index.ensures)) parent locals is)
