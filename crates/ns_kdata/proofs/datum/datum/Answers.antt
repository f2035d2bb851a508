use Rattle.std.proofs.Common.{subst, sym}
use Rattle.ns_kdata.specs.Arguments.{CellIsThere}
use Rattle.ns_kdata.specs.laws.Outcomes.{argument_there}
use Rattle.ns_kdata.proofs.datum.datum.Goals as goal

pub row_outcome-requires-clause-first : goal.row_outcome-requires-clause-first
row_outcome-requires-clause-first c =
    subst (CellIsThere c.args.world.now.world.cells) (sym c.argument.ensures) (argument_there c.args.world.now.world.cells c.args.code.now c.args.args.now 0 c.requires.args)
