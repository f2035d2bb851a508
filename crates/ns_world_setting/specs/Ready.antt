-- What the calls of the kernel's rows ask of a world.
use Rattle.std.specs.Prelude.{◌≤◌}
use Rattle.ns_world.specs.World.{WorldView}
use Rattle.ns_world.specs.Lawful.{IsLawful}
use Rattle.ns_world_setting.specs.Program.{program_code}

-- A world is lawful for the program, and has room for all its cells and all its output.
pub record WorldIsReady (view : WorldView) : Type 0 where
  pub lawful : IsLawful view.world program_code
  pub cells : view.world.limits.cells ≤ view.cell_room
  pub out : view.world.limits.out ≤ view.out_room
