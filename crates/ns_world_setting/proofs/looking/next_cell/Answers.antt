use Rattle.std.proofs.Common.{arith}
use Rattle.ns_world_setting.proofs.Walking.{walk_to}
use Rattle.ns_world_setting.proofs.looking.next_cell.Goals as goal

pub returns : goal.returns
returns c =
    walk_to c.args.world.now.world.cells c.args.at c.cell-shape.result _ c.number_of.result c.requires c.cell-shape.ensures (omega (arith, c.from.ensures, c.size_of_shape.ensures.size)) c.number_of.ensures
