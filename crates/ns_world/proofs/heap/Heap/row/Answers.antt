use Rattle.std.proofs.Common.{◌∙◌, arith}
use Rattle.ns_world.specs.Heap.{row_at}
use Rattle.ns_world.proofs.Bytes.{reads_row}
use Rattle.ns_world.proofs.Kept.{seen_laid_out}
use Rattle.ns_world.proofs.heap.Heap.row.Goals as goal

pub index-requires : goal.index-requires
index-requires c =
    let laid = seen_laid_out c.args.self.now c.self.inside.words.items _ _ _ _ c.self.view_is c.self.invariant in
    let r = reads_row c.args.self.now.cells c.self.inside.words.items c.args.at c.args.row laid c.requires in
    omega (arith, r.inside, c.self.inside.words.ok.0)

pub returns : goal.returns
returns c =
    let laid = seen_laid_out c.args.self.now c.self.inside.words.items _ _ _ _ c.self.view_is c.self.invariant in
    let r = reads_row c.args.self.now.cells c.self.inside.words.items c.args.at c.args.row laid c.requires in
    c.row_in.ensures (row_at c.args.self.now.cells c.args.at c.args.row) (c.index.ensures ∙ r.word c.index.result.now)
