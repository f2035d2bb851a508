use Rattle.ns_frozen.proofs.Heads.{all_there, from_within, word_put}
use Rattle.ns_frozen.proofs.stored.CellsMaker.word.Goals as goal

pub invariant_of-self : goal.invariant_of-self
invariant_of-self c = (
  all_there c.self.inside.pools c.word.new.self c.word.ensures.keeps c.self.inside.heads.items c.self.invariant.0,
  from_within c.self.inside.pools c.word.new.self c.self.inside.from c.word.ensures.keeps c.self.invariant.1,
)

pub returns : goal.returns
returns c =
    word_put c.self.inside.pools c.word.new.self c.self.inside.heads.items c.self.inside.from c.args.self.now c.args.word c.word.ensures.keeps
    c.self.invariant.0 c.self.invariant.1 c.in_ok-word.ensures.words c.self.view_is
