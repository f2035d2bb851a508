use Rattle.std.proofs.Common.{map, replicate}
use Rattle.ns_world.specs.declared.word.Word.TheVariants.{Nil}
use Rattle.ns_world.specs.Words.{word_of}
use Rattle.ns_world.proofs.Whole.{environment_words, three_parts}
use Rattle.ns_world.proofs.lay.lay_locals.Goals as goal

pub returns-clause-items : goal.returns-clause-items
returns-clause-items c =
    cc (
      c.repeat.ensures.items,
      c.from.ensures,
      c.put_values.ensures.items,
      c.push_reserved.ensures.items,
      c.word_beside.ensures,
      three_parts c.args.words.now.items (map word_of c.args.first.now) (replicate c.args.others Nil) c.word_beside.result,
      environment_words c.args.parent c.args.first.now c.args.others,
    )
