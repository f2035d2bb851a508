use Rattle.std.proofs.Common.{All, drop, subst, sym, arith}
use Rattle.ns_frozen.specs.Heads.{IsThere, data_of}
use Rattle.ns_frozen.proofs.Heads.{all_there, from_within, one_more_there, cell_put}
use Rattle.ns_frozen.proofs.stored.CellsMaker.put.Goals as goal

pub invariant_of-self : goal.invariant_of-self
invariant_of-self c = (
  all_there c.self.inside.pools c.head.new.self c.head.ensures.keeps c.self.inside.heads.items c.self.invariant.0,
  from_within c.self.inside.pools c.head.new.self c.self.inside.from c.head.ensures.keeps c.self.invariant.1,
)

pub invariant_of-self-in_err-push : goal.invariant_of-self-in_err-push
invariant_of-self-in_err-push c = (
  subst (All (IsThere c.head.new.self)) (sym c.in_err-push.ensures.items)
      (all_there c.self.inside.pools c.head.new.self c.head.ensures.keeps c.self.inside.heads.items c.self.invariant.0),
  from_within c.self.inside.pools c.head.new.self c.self.inside.from c.head.ensures.keeps c.self.invariant.1,
)

pub invariant_of-self-2 : goal.invariant_of-self-2
invariant_of-self-2 c = (
  subst (All (IsThere c.head.new.self)) (sym c.in_ok-push.ensures.items)
      (one_more_there c.self.inside.pools c.head.new.self c.head.ensures.keeps c.self.inside.heads.items c.self.invariant.0
      (data_of c.args.cell (drop c.self.inside.from c.self.inside.pools.values.items)) c.in_ok-head.head c.in_ok-head.ensures.head),
  omega (arith, c.words-self-inside.ensures),
)

pub returns : goal.returns
returns c =
    cell_put c.self.inside.pools c.head.new.self c.self.inside.heads.items c.push.new.self.items c.self.inside.from c.words-self-inside.result c.args.self.now
    c.args.cell c.in_ok-head.head c.head.ensures.keeps c.self.invariant.0 c.in_ok-head.ensures.head c.in_ok-push.ensures.items c.words-self-inside.ensures
    c.self.view_is
