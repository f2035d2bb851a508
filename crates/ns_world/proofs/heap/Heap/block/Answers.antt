use Rattle.std.proofs.Common.{arith, subst, sym}
use Rattle.ns_world.specs.declared.cell.NewCell.{NewCell}
use Rattle.ns_world.specs.Blocks.{IsBlockOf}
use Rattle.ns_world.proofs.HeadTests.{reads_head}
use Rattle.ns_world.proofs.Kept.{seen_laid_out}
use Rattle.ns_world.proofs.ReadBlocks.{block_inside, block_told}
use Rattle.ns_world.proofs.heap.Heap.block.Goals as goal

pub index-requires : goal.index-requires
index-requires c =
    let laid = seen_laid_out c.args.self.now c.self.inside.words.items _ _ _ _ c.self.view_is c.self.invariant in
    let r = reads_head c.args.self.now.cells c.self.inside.words.items c.args.at laid c.requires in
    omega (arith, r.inside, c.self.inside.words.ok.0)

pub index-requires-in-Block : goal.index-requires-in-Block
index-requires-in-Block c =
    let laid = seen_laid_out c.args.self.now c.self.inside.words.items _ _ _ _ c.self.view_is c.self.invariant in
    let inside = block_inside c.args.self.now.cells c.self.inside.words.items c.args.at laid c.requires c.index.result.now c.in-Block.body c.in-Block.home
    (cc (c.index.ensures)) (cc (c.in-Block.is)) in
    omega (arith, inside, c.self.inside.words.ok.0)

pub index-requires-in-Block-2 : goal.index-requires-in-Block-2
index-requires-in-Block-2 c =
    let laid = seen_laid_out c.args.self.now c.self.inside.words.items _ _ _ _ c.self.view_is c.self.invariant in
    let inside = block_inside c.args.self.now.cells c.self.inside.words.items c.args.at laid c.requires c.index.result.now c.in-Block.body c.in-Block.home
    (cc (c.index.ensures)) (cc (c.in-Block.is)) in
    omega (arith, inside, c.self.inside.words.ok.0)

pub returns-in-Block : goal.returns-in-Block
returns-in-Block c =
    let laid = seen_laid_out c.args.self.now c.self.inside.words.items _ _ _ _ c.self.view_is c.self.invariant in
    let told = block_told c.args.self.now.cells c.self.inside.words.items c.args.at laid c.requires c.index.result.now c.in-Block.body c.in-Block.home
    (cc (c.index.ensures)) (cc (c.in-Block.is)) c.index-in-Block.result.now c.index-in-Block-2.result.now (cc (c.index-in-Block.ensures))
    (cc (c.index-in-Block-2.ensures)) in
    subst (λ (cell : NewCell). IsBlockOf cell c.block_in.result) (sym told) c.block_in.ensures
