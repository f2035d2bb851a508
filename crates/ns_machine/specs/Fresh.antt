-- A machine's memory before its start.
use Rattle.std.specs.Prelude.{◌≡◌, All}
use Rattle.ns_base.specs.declared.limits.Limits.{Limits}
use Rattle.ns_code.specs.declared.program.CodeProgram.{CodeProgram}
use Rattle.ns_world.specs.declared.ending.Ending.TheVariants.{Limit}
use Rattle.ns_world.specs.declared.ending.LimitKind.TheVariants.{Cells}
use Rattle.ns_find.specs.Memo.{IsEmpty}
use Rattle.ns_moves.specs.Start.{nothing_done}
use Rattle.ns_machine_core.specs.declared.state.Core.{Core}
use Rattle.ns_machine_core.specs.declared.state.Phase.TheVariants.{Start}
use Rattle.ns_machine_core.specs.Shown.{progress_in}
use Rattle.ns_machine_core.specs.Standing.{HasRooms}
use Rattle.ns_machine.specs.Places.{HasPlaces}

-- Nothing was done and no lookup is kept, but memory was taken for all that a run can need. A start ends the run only by the
-- limit on cells.
pub record IsFresh (code : CodeProgram) (limits : Limits) (core : Core) : Type 0 where
  pub progress : progress_in core ≡ nothing_done limits
  pub phase : core.phase ≡ Start
  pub ending : core.ending ≡ Limit Cells
  pub rooms : HasRooms code core
  pub memo : All IsEmpty core.run.memo
  pub places : HasPlaces code core.run.world.world.limits.depth core.places
