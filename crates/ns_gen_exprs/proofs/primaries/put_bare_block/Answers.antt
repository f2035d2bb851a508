use Rattle.std.specs.Prelude.{[]}
use Rattle.ns_tree.specs.Plain as p
use Rattle.ns_tree.specs.PlainOf.{statements_of}
use Rattle.ns_gen_draft.specs.laws.BlockCounts.{block_counted}
use Rattle.ns_gen_exprs.proofs.primaries.put_bare_block.Goals as goal

pub returns-clause-next : goal.returns-clause-next
returns-clause-next c =
    rw (block_counted (p.block_with [] p.no_bars (statements_of c.args.body.now)) c.args.here.now.scope.now) c.count_bare_block.ensures
