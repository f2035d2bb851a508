-- What a row of the kernel asks of a run, which holds in each state that a run reaches.
use Rattle.std.specs.Prelude.{◌≤◌, List, All}
use Rattle.ns_code.specs.declared.program.CodeProgram.{CodeProgram}
use Rattle.ns_world.specs.declared.value.Value.{Value}
use Rattle.ns_world.specs.World.{WorldView}
use Rattle.ns_world.specs.Lawful.{IsLawful, IsLiveValue}

-- Memory was reserved for all cells and all output that the limits allow.
pub record HasWorldRoom (view : WorldView) : Type 0 where
  pub cells : view.world.limits.cells ≤ view.cell_room
  pub out : view.world.limits.out ≤ view.out_room

-- A lawful world with room, and a receiver and arguments that are live in it.
pub record CanBeAsked (code : CodeProgram) (view : WorldView) (receiver : Value) (arguments : List Value) : Type 0 where
  pub lawful : IsLawful view.world code
  pub room : HasWorldRoom view
  pub live : IsLiveValue view.world.cells code receiver
  pub all_live : All (IsLiveValue view.world.cells code) arguments
