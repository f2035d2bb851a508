use Rattle.std.proofs.Common.{◌+◌, ap, ◌∙◌, sym, refl, arith, get_or}
use Rattle.ns_world.specs.declared.word.Word.TheVariants.{Nil}
use Rattle.ns_world.specs.Words.{words_behind}
use Rattle.ns_world.specs.Seek.{first_such, is_sought}
use Rattle.ns_world.proofs.Kept.{seen_laid_out, seen_firsts}
use Rattle.ns_world.proofs.Seeking.{walk_starts, walk_told, walk_passes}
use Rattle.ns_world.proofs.heap.Heap.first.Goals as goal

pub walk-init : goal.walk-init
walk-init c = walk_starts c.args.sought c.args.self.now.cells c.self.inside.words.items (seen_laid_out c.args.self.now c.self.inside.words.items _ _ _ _ c.self.view_is c.self.invariant)

pub returns-then-is_sought_at : goal.returns-then-is_sought_at
returns-then-is_sought_at c =
    let t = walk_told c.args.sought c.self.inside.words.items (first_such (is_sought c.args.sought) c.args.self.now.cells) c.walk.at (words_behind c.word_or_nil-head.result) c.word_or_nil-head.result c.word_or_nil.result c.is_sought_at.result (omega (arith, c.walk-test.true, c.self.invariant.within)) c.walk.invariant (c.word_or_nil-head.ensures ∙ ap (λ ws. get_or ws c.walk.at Nil) c.deref.ensures.value) (c.word_or_nil.ensures ∙ ap (λ ws. get_or ws (c.walk.at + 1) Nil) c.deref-in-walk.ensures.value) c.is_sought_at.ensures refl in
    t.here c.if-is_sought_at.true

pub overflow_add-at-in-walk : goal.overflow_add-at-in-walk
overflow_add-at-in-walk c =
    let t = walk_told c.args.sought c.self.inside.words.items (first_such (is_sought c.args.sought) c.args.self.now.cells) c.walk.at c.words_behind.result c.word_or_nil-head.result c.word_or_nil.result c.is_sought_at.result (omega (arith, c.walk-test.true, c.self.invariant.within)) c.walk.invariant (c.word_or_nil-head.ensures ∙ ap (λ ws. get_or ws c.walk.at Nil) c.deref.ensures.value) (c.word_or_nil.ensures ∙ ap (λ ws. get_or ws (c.walk.at + 1) Nil) c.deref-in-walk.ensures.value) c.is_sought_at.ensures c.words_behind.ensures in
    omega (arith, t.inside, c.self.invariant.small)

pub overflow_add-at-in-walk-2 : goal.overflow_add-at-in-walk-2
overflow_add-at-in-walk-2 c =
    let t = walk_told c.args.sought c.self.inside.words.items (first_such (is_sought c.args.sought) c.args.self.now.cells) c.walk.at c.words_behind.result c.word_or_nil-head.result c.word_or_nil.result c.is_sought_at.result (omega (arith, c.walk-test.true, c.self.invariant.within)) c.walk.invariant (c.word_or_nil-head.ensures ∙ ap (λ ws. get_or ws c.walk.at Nil) c.deref.ensures.value) (c.word_or_nil.ensures ∙ ap (λ ws. get_or ws (c.walk.at + 1) Nil) c.deref-in-walk.ensures.value) c.is_sought_at.ensures c.words_behind.ensures in
    omega (arith, t.inside, c.self.invariant.small)

pub walk-preserved : goal.walk-preserved
walk-preserved c =
    let t = walk_told c.args.sought c.self.inside.words.items (first_such (is_sought c.args.sought) c.args.self.now.cells) c.walk.at c.words_behind.result c.word_or_nil-head.result c.word_or_nil.result c.is_sought_at.result (omega (arith, c.walk-test.true, c.self.invariant.within)) c.walk.invariant (c.word_or_nil-head.ensures ∙ ap (λ ws. get_or ws c.walk.at Nil) c.deref.ensures.value) (c.word_or_nil.ensures ∙ ap (λ ws. get_or ws (c.walk.at + 1) Nil) c.deref-in-walk.ensures.value) c.is_sought_at.ensures c.words_behind.ensures in
    t.next c.if-is_sought_at.false

pub returns : goal.returns
returns c =
    sym (walk_passes c.args.sought c.self.inside.words.items (first_such (is_sought c.args.sought) c.args.self.now.cells) c.walk.at c.self.inside.firsts_end c.walk-test.false (seen_firsts c.args.self.now c.self.inside.words.items _ _ _ _ c.self.view_is c.self.invariant c.args.sought) c.walk.invariant)
