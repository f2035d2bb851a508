-- A machine that runs by a plan, and the step before which it stands.
use Rattle.std.specs.Prelude.{◌≡◌, ℕ, ◌+◌, ◌≤◌, List, ◌∷◌, ◌++◌, length}
use Rattle.ns_base.specs.declared.place.Place.{Place as SourcePlace}
use Rattle.ns_code.specs.declared.program.CodeProgram.{CodeProgram}
use Rattle.ns_facets.specs.declared.row.Grants.{Grants}
use Rattle.ns_moves.specs.Steps.{steps_from}
use Rattle.ns_machine_frames.specs.declared.registers.Registers.{Registers}
use Rattle.ns_machine_plan.specs.declared.plan.Plan.{Plan}
use Rattle.ns_machine_plan.specs.declared.step.Step.{Step}
use Rattle.ns_machine_plan.specs.Plan.{IsPlanOf, HasStep, IsStepAt}
use Rattle.ns_machine_plan.specs.Steps.{places_of, no_place, step_shown}
use Rattle.ns_machine_core.specs.declared.state.Core.{Core}
use Rattle.ns_machine_core.specs.declared.state.Next.{Next}
use Rattle.ns_machine_core.specs.Moving.{IsNextStep}
use Rattle.ns_machine_core.specs.Ready.{MachineIsReady}

-- The plan is one of the code, and the places of the machine begin with those of the code, each with a number.
pub record IsPrepared (code : CodeProgram) (plan : Plan) (places : List SourcePlace) : Type 0 where
  pub of_code : IsPlanOf code plan
  pub more : List SourcePlace
  pub begins : places ≡ places_of code ++ more
  pub few : length (places_of code ++ more) ≤ no_place

-- The machine is ready, with some grants.
pub record IsPreparedToRun (code : CodeProgram) (core : Core) (next : Next) : Type 0 where
  pub grants : Grants
  pub ready : MachineIsReady code grants core next

-- The step of a plan is the next one of the run, in that body, which is the topmost frame's.
pub record IsAhead (code : CodeProgram) (core : Core) (at : Registers) (body : ℕ) (step : Step) : Type 0 where
  pub next : IsNextStep code core at (step_shown core.places step)
  pub there : HasStep code body at.next
  pub is : IsStepAt code body at.next step
  pub left : steps_from code body at.next ≡ step_shown core.places step ∷ steps_from code body (at.next + 1)
