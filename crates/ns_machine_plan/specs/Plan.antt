-- When a plan is that of a code, and which steps there are.
use Rattle.std.specs.Prelude.{◌≡◌, ℕ, ◌+◌, ◌<◌, ◌≤◌, List, ◌∷◌, ◌++◌, length, slice_get, Some, All}
use Rattle.std.specs.List.{slice_index_or}
use Rattle.ns_base.specs.declared.place.Place.{Place as SourcePlace}
use Rattle.ns_code.specs.declared.program.CodeProgram.{CodeProgram}
use Rattle.ns_code.specs.declared.body.BodyCode.{BodyCode}
use Rattle.ns_code.specs.Fits.{Fits}
use Rattle.ns_code.specs.Selectors.{IsTableOf}
use Rattle.ns_moves.specs.Steps.{steps_of, steps_from}
use Rattle.ns_machine_plan.specs.declared.kept_step.KeptSteps.{KeptSteps}
use Rattle.ns_machine_plan.specs.declared.plan.Plan.{Plan}
use Rattle.ns_machine_plan.specs.declared.step.Step.{Step}
use Rattle.ns_machine_plan.specs.declared.step.Step.TheVariants.{PushNil}
use Rattle.ns_machine_plan.specs.Packed.{EntryIsThere, steps_in}
use Rattle.ns_machine_plan.specs.Steps.{all_steps, places_of, no_place, place_of, step_shown, HasItsMember}
use Rattle.ns_machine_plan.specs.Rows.{all_rows}
use Rattle.ns_moves.specs.Bodies.{greatest_of}

-- A plan has the steps, the bodies and the selectors of a code that is sound, how many places it has, and the size of its greatest
-- frame.
pub record IsPlanOf (code : CodeProgram) (plan : Plan) : Type 0 where
  pub steps : plan.steps ≡ all_steps code 0 code.bodies
  pub bodies : plan.bodies ≡ all_rows 0 code.bodies
  pub place_count : plan.place_count ≡ length (places_of code)
  pub few : length (places_of code) ≤ no_place
  pub selectors : IsTableOf code plan.selectors
  pub greatest : plan.greatest ≡ greatest_of code.bodies
  pub fits : Fits code

-- A body has a step of that number.
pub record HasStep (code : CodeProgram) (body next : ℕ) : Type 0 where
  pub body_there : body < length code.bodies
  pub next_there : next < length (steps_of code body)

-- A step is the one of that number of a body: what is left from there on begins with it, by its instruction and its place, which
-- stays its place where more places come behind those of the code; and a send has its member.
pub record IsStepAt (code : CodeProgram) (body next : ℕ) (step : Step) : Type 0 where
  pub shown : steps_from code body next ≡ step_shown (places_of code) step ∷ steps_from code body (next + 1)
  pub longer : (more : List SourcePlace) → length (places_of code ++ more) ≤ no_place →
      place_of (places_of code ++ more) step ≡ place_of (places_of code) step
  pub member : (b : BodyCode) → slice_get code.bodies body ≡ Some b → HasItsMember code b step

-- Kept steps begin with those of a body: each that it has is there, by its number.
pub record AreStepsOf (code : CodeProgram) (body : ℕ) (kept : KeptSteps) : Type 0 where
  pub there : All (EntryIsThere kept.tables.now) kept.packed.now
  pub within : (next : ℕ) → HasStep code body next → next < length kept.packed.now
  pub is : (next : ℕ) → HasStep code body next → IsStepAt code body next (slice_index_or (steps_in kept) next PushNil)
