use Rattle.std.proofs.Common.{◌+◌, ◌-◌, [], ◌∷◌, ◌++◌, drop, ap, ◌∙◌, arith}
use Rattle.ns_world.specs.declared.word.Word.TheVariants.{Bytes}
use Rattle.ns_world.specs.Words.{packed}
use Rattle.ns_world.proofs.Packing.{packed_step}
use Rattle.ns_world.proofs.lay.pack.Goals as goal

pub words-preserved : goal.words-preserved
words-preserved c =
    let bytes = c.words.left.now ++ c.words.others.now in
    let next = packed (c.args.count - (c.words.counter + 1)) (drop 8 bytes) in
    let rest = ap (λ bs. c.push_reserved.new.self.items ++ packed (c.args.count - (c.words.counter + 1)) bs) c.cut_word.ensures.rest in
    let word = ap (λ b. c.words.words.items ++ Bytes b ∷ []) c.cut_word.ensures.word in
    let items = ap (λ ws. ws ++ next) (c.push_reserved.ensures.items ∙ word) in (
      rest ∙ (items ∙ (packed_step c.words.words.items c.args.count c.words.counter bytes c.words-test.true ∙ c.words.invariant.0)),
      omega (arith, c.push_reserved.ensures.len, c.words.invariant.1),
      c.push_reserved.ensures.capacity ∙ c.words.invariant.2,
    )
