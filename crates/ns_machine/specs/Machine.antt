-- What a machine shows, and what holds of it at every moment.
use Rattle.std.specs.Prelude.{◌≡◌, ℕ, Result, Ok, Err}
use Rattle.ns_code.specs.declared.program.CodeProgram.{CodeProgram}
use Rattle.ns_world.specs.declared.cell.CellLimit.{CellLimit}
use Rattle.ns_facets.specs.declared.row.Grants.{Grants}
use Rattle.ns_moves.specs.State.{State, Unbegun}
use Rattle.ns_moves.specs.Valid.{Valid}
use Rattle.ns_machine_plan.specs.declared.plan.Plan.{Plan}
use Rattle.ns_machine_plan.specs.Plan.{IsPlanOf}
use Rattle.ns_machine_core.specs.declared.state.Core.{Core}
use Rattle.ns_machine_core.specs.declared.state.Next.TheVariants as next
use Rattle.ns_machine_core.specs.declared.own.OwnSends.{OwnSends}
use Rattle.ns_machine_core.specs.Own.{AreOwn}
use Rattle.ns_machine_core.specs.Shown.{progress_in, shown}
use Rattle.ns_machine_core.specs.Standing.{HasRooms, StandAt, KeepsRightIn}
use Rattle.ns_machine.specs.declared.stage.Stage.{Stage}
use Rattle.ns_machine.specs.Places.{HasPlaces}
use Rattle.ns_machine.specs.declared.stage.Stage.TheVariants as stage

-- a machine: its code, the facets that its run is granted, and where the run stands
pub record MachineView : Type 0 where
  pub code : CodeProgram
  pub grants : Grants
  pub state : State

-- where it stands
abbrev pub stage_shown : CodeProgram → Core → Stage → State
stage_shown code core (stage.Unbegun arguments) = Unbegun arguments (progress_in core)
stage_shown code core (stage.Begun next) = shown code core next

-- where it stands after its start, which ends it at the limit on cells
abbrev pub stage_after : Result ℕ CellLimit → Stage
stage_after (Ok arguments) = stage.Unbegun arguments
stage_after (Err limit) = stage.Begun next.Ended

-- Where a run was begun, its frames stand where it goes next.
abbrev pub StandIn : CodeProgram → Core → Stage → Type 0
StandIn code core (stage.Unbegun arguments) = Unit {0}
StandIn code core (stage.Begun next) = StandAt code core next

-- The state that it shows is one that a run of the code reaches, memory was taken for all that a run can need, the
-- frames stand in theirs, the lookups that it keeps are right, and what was prepared of the code is the code's.
pub record IsMachine (code : CodeProgram) (grants : Grants) (plan : Plan) (core : Core) (own : OwnSends) (stage : Stage) : Type 0 where
  pub valid : Valid code grants (stage_shown code core stage)
  pub rooms : HasRooms code core
  pub stand : StandIn code core stage
  pub kept : KeepsRightIn code core core
  pub prepared : IsPlanOf code plan
  pub places : HasPlaces code core.run.world.world.limits.depth core.places
  pub sends : AreOwn code core.places own
