use Rattle.ns_world_setting.specs.Looking.{HasCell}
use Rattle.ns_world_setting.proofs.looking.is_cell.Given as goal

abbrev pub invariant-cells : goal.invariant-cells
invariant-cells l = HasCell l.world.world.cells l.at
