use Rattle.std.proofs.Common.{take, Ok}
use Rattle.ns_moves.specs.Start.{tops_of}
use Rattle.ns_machine_start.specs.Making.{CellsAreMade}
use Rattle.ns_machine_start.proofs.cells.make_tops.Given as goal

abbrev pub invariant-classes : goal.invariant-classes
invariant-classes l = CellsAreMade (tops_of 0 (take l.decl l.classes)) l.initial.world (Ok tt) l.world
