-- A run of a machine to its end.
use Rattle.std.specs.Prelude.{◌≡◌, ℕ, Some}
use Rattle.ns_code.specs.declared.program.CodeProgram.{CodeProgram}
use Rattle.ns_facets.specs.declared.row.Grants.{Grants}
use Rattle.ns_world.specs.declared.ending.Ending.{Ending}
use Rattle.ns_moves.specs.State.{State, ending_of}
use Rattle.ns_moves.specs.Move.{moves}
use Rattle.ns_machine_core.specs.declared.state.Core.{Core}
use Rattle.ns_machine_core.specs.declared.state.Next.{Next}
use Rattle.ns_machine_core.specs.declared.state.Next.TheVariants as next
use Rattle.ns_machine_core.specs.Shown.{shown}
use Rattle.ns_machine_core.specs.Ready.{MachineIsReady}
use Rattle.ns_machine_core.specs.Standing.{KeepsRooms}

-- So many moves have led to that end.
pub record Ran (code : CodeProgram) (old : State) (ending : Ending) (new : State) : Type 0 where
  pub count : ℕ
  pub is : moves code count old ≡ new
  pub ends : ending_of new ≡ Some ending

-- A machine that was ready has run to that end.
pub record RunsOut (code : CodeProgram) (old : Core) (from : Next) (new : Core) (ending : Ending) : Type 0 where
  pub ran : Ran code (shown code old from) ending (shown code new next.Ended)
  pub ready : (grants : Grants) → MachineIsReady code grants old from → MachineIsReady code grants new next.Ended
  pub stays : KeepsRooms old new
