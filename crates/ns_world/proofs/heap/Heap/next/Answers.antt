use Rattle.std.proofs.Common.{ap, ◌∙◌, arith}
use Rattle.ns_world.specs.Words.{words_behind}
use Rattle.ns_world.proofs.Next.{reads_next}
use Rattle.ns_world.proofs.Kept.{seen_laid_out}
use Rattle.ns_world.proofs.heap.Heap.next.Goals as goal

pub index-requires : goal.index-requires
index-requires c =
    let laid = seen_laid_out c.args.self.now c.self.inside.words.items _ _ _ _ c.self.view_is c.self.invariant in
    let r = reads_next c.args.self.now.cells c.self.inside.words.items c.args.at laid c.requires in
    omega (arith, r.inside, c.self.inside.words.ok.0)

pub overflow_add-next-2 : goal.overflow_add-next-2
overflow_add-next-2 c =
    let laid = seen_laid_out c.args.self.now c.self.inside.words.items _ _ _ _ c.self.view_is c.self.invariant in
    let r = reads_next c.args.self.now.cells c.self.inside.words.items c.args.at laid c.requires in
    let head = c.words_behind.ensures ∙ ap words_behind c.index.ensures in
    omega (arith, head, r.next c.index.result.now, r.within, c.self.invariant.small, c.from.ensures)

pub overflow_cast-result : goal.overflow_cast-result
overflow_cast-result c =
    let laid = seen_laid_out c.args.self.now c.self.inside.words.items _ _ _ _ c.self.view_is c.self.invariant in
    let r = reads_next c.args.self.now.cells c.self.inside.words.items c.args.at laid c.requires in
    let head = c.words_behind.ensures ∙ ap words_behind c.index.ensures in
    omega (arith, head, r.next c.index.result.now, r.within, c.self.invariant.small, c.from.ensures)

pub returns : goal.returns
returns c =
    let laid = seen_laid_out c.args.self.now c.self.inside.words.items _ _ _ _ c.self.view_is c.self.invariant in
    let r = reads_next c.args.self.now.cells c.self.inside.words.items c.args.at laid c.requires in
    let head = c.words_behind.ensures ∙ ap words_behind c.index.ensures in
    omega (arith, head, r.next c.index.result.now, c.from.ensures)
