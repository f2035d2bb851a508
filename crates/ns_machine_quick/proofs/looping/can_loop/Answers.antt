use Rattle.std.proofs.Common.{subst, sym}
use Rattle.ns_kdata.specs.Arguments.{CellIsThere}
use Rattle.ns_machine_quick.proofs.Begun.{argument_there}
use Rattle.ns_machine_quick.proofs.looping.can_loop.Goals as goal

pub has_arguments-requires-clause-first : goal.has_arguments-requires-clause-first
has_arguments-requires-clause-first c =
    subst (CellIsThere c.args.core.now.run.world.world.cells) (sym c.argument-first.ensures)
    (argument_there c.args.core.now.run.world.world.cells c.args.code.now (c.live_values_are_there.ensures c.args.core.now.run.world.world.cells c.args.code.now)
    c.from-arguments.result.now 0 (rw c.from-arguments.ensures c.requires.selector.live))

pub has_arguments-requires-clause-second : goal.has_arguments-requires-clause-second
has_arguments-requires-clause-second c =
    subst (CellIsThere c.args.core.now.run.world.world.cells) (sym c.argument-second.ensures)
    (argument_there c.args.core.now.run.world.world.cells c.args.code.now (c.live_values_are_there.ensures c.args.core.now.run.world.world.cells c.args.code.now)
    c.from-arguments.result.now 1 (rw c.from-arguments.ensures c.requires.selector.live))
