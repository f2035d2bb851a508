use Rattle.std.proofs.Common.{rules, refl, ap, length, sym, arith}
use Rattle.ns_world.specs.Heap.{chain_of}
use Rattle.ns_find.specs.declared.members.Wanted.TheVariants.{Visible}
use Rattle.ns_find.proofs.Parts.{along_past}
use Rattle.ns_find.proofs.passing.next_stop.Goals as goal

pub up-preserved : goal.up-preserved
up-preserved c =
    let cells = c.args.world.now.world.cells in (
      c.superclass-at.ensures.start,
      omega (arith, ap length c.superclass-at.ensures.chain, c.up.invariant.1),
      λ code side sel kind none.
          along_past cells code sel kind Visible side c.up.at (chain_of cells c.up.at) (chain_of cells c.superclass-at.result) _ refl c.superclass-at.ensures.chain
          (c.up.invariant.2 code side sel kind none) (sym (none c.up.at (search rules))),
    )
