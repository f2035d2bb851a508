use Rattle.std.proofs.Common.{arith}
use Rattle.ns_world.specs.declared.word.Word.TheVariants.{Nil as NilWord}
use Rattle.ns_world.proofs.Access.{reads_word}
use Rattle.ns_world.proofs.Kept.{seen_laid_out}
use Rattle.ns_world.proofs.heap.Heap.read.Goals as goal

pub value_at-requires : goal.value_at-requires
value_at-requires c =
    let laid = seen_laid_out c.args.self.now c.self.inside.words.items _ _ _ _ c.self.view_is c.self.invariant in
    let r = reads_word c.args.self.now.cells c.self.inside.words.items c.args.at c.args.word laid c.requires in
    omega (arith, r.inside, c.self.inside.words.ok.0)

pub returns : goal.returns
returns c =
    let laid = seen_laid_out c.args.self.now c.self.inside.words.items _ _ _ _ c.self.view_is c.self.invariant in
    let r = reads_word c.args.self.now.cells c.self.inside.words.items c.args.at c.args.word laid c.requires in
    cc (c.value_at.ensures, r.value NilWord)
