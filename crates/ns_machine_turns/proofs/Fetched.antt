-- The step of a plan before which a run stands.
use Rattle.std.proofs.Common.{◌≡◌, ◌≤◌, ℕ, zero, suc, ◌+◌, ◌-◌, List, [], ◌∷◌, All, length, take, drop, refl, ap, sym, ◌∙◌, subst, arith, Option, Some, None, slice_get}
use Rattle.std.specs.Option.{option_map_or}
use Rattle.std.proofs.lemmas.Option.{get_or_from_slice_get, slice_get_within}
use Rattle.std.specs.Prelude.{reverse}
use Rattle.ns_base.specs.declared.place.Place.{Place as SourcePlace}
use Rattle.ns_code.specs.declared.program.CodeProgram.{CodeProgram}
use Rattle.ns_code.specs.declared.body.BodyCode.{BodyCode}
use Rattle.ns_code.specs.declared.instruction.Instr.TheVariants.{ReturnSelf}
use Rattle.ns_code.specs.Fits.{BodyFits, Fits as FitsFields}
use Rattle.ns_world.specs.declared.value.Value.{Value}
use Rattle.ns_facets.specs.declared.row.Grants.{Grants}
use Rattle.ns_moves.specs.State.{Going}
use Rattle.ns_moves.specs.Steps as moves
use Rattle.ns_moves.specs.Steps.{placed, steps_of, steps_from}
use Rattle.ns_moves.specs.laws.Steps.{placed_length}
use Rattle.ns_moves.specs.Valid.{Valid}
use Rattle.ns_machine_frames.specs.declared.frame.Frame.{Frame}
use Rattle.ns_machine_frames.specs.declared.frame.Frame.TheVariants.{Running, Looping}
use Rattle.ns_machine_frames.specs.declared.frame.RunningFrame.{RunningFrame}
use Rattle.ns_machine_frames.specs.declared.registers.Registers.{Registers}
use Rattle.ns_machine_frames.specs.Standing.{Stood, Runs, standing, at_next, below}
use Rattle.ns_machine_frames.specs.Stack.{in_use, stood}
use Rattle.ns_machine_frames.specs.View.{leaving_shown, activation_shown, frames_shown}
use Rattle.ns_machine_plan.specs.declared.plan.Plan.{Plan}
use Rattle.ns_machine_plan.specs.declared.step.Step.{Step}
use Rattle.ns_machine_plan.specs.Plan.{HasStep, IsStepAt}
use Rattle.ns_machine_plan.specs.Steps.{places_of, instr_of, place_of, step_shown}
use Rattle.ns_machine_plan.specs.Stated.{RunningHasStep}
use Rattle.ns_machine_core.specs.declared.state.Core.{Core}
use Rattle.ns_machine_core.specs.declared.state.Next.TheVariants.{On}
use Rattle.ns_machine_core.specs.Shown.{phase_shown, progress_in, shown}
use Rattle.ns_machine_core.specs.Moving.{HasNextStep, ValidHasNextStep}
use Rattle.ns_machine_core.specs.Straight.{TopRunsBody}
use Rattle.ns_machine_turns.specs.Prepared.{IsPrepared, IsAhead}

-- ---- steps

first_left : {A : Type 0} (n : ℕ) (xs ys : List A) (x : A) → drop n xs ≡ x ∷ ys → slice_get xs n ≡ Some x
first_left zero [] ys x e = absurd (cc)
first_left zero (y ∷ xs) ys x e = let same : y ≡ x = cc in ap Some same
first_left (suc n) [] ys x e = absurd (cc)
first_left (suc n) (y ∷ xs) ys x e = first_left n xs ys x e

-- a step has its place among more places too
pub shown_here : (code : CodeProgram) (plan : Plan) (places : List SourcePlace) (body next : ℕ) (step : Step) → IsPrepared code plan places
    → IsStepAt code body next step → steps_from code body next ≡ step_shown places step ∷ steps_from code body (next + 1)
shown_here code plan places body next step prepared is = is.shown ∙ ap on same
  where
    on : Option SourcePlace → List moves.PlacedInstr
    on place = (instr_of step, place) ∷ steps_from code body (next + 1)

    same : place_of (places_of code) step ≡ place_of places step
    same = sym (is.longer prepared.more prepared.few) ∙ ap (λ (all : List SourcePlace). place_of all step) (sym prepared.begins)

-- ---- the topmost frame

-- its locals, its operands, and the frames below it
abbrev pub locals_at : Core → Registers → RunningFrame → List Value
locals_at core at running = take (running.operands - running.base) (drop running.base (in_use core.stack at))

abbrev pub operands_at : Core → Registers → RunningFrame → List Value
operands_at core at running = reverse (drop running.operands (in_use core.stack at))

abbrev pub others_at : Core → Registers → RunningFrame → List Stood
others_at core at running = standing (below core.stack.frames.items) (take running.floor (in_use core.stack at))

pub stands : (core : Core) (at : Registers) (running : RunningFrame) →
    core.stack.frames.items ≡ Running running ∷ below core.stack.frames.items
    → stood core.stack at ≡ Runs (record running { next = at.next }) (locals_at core at running) (operands_at core at running) ∷ others_at core at running
stands core at running top = ap (λ (frames : List Frame). standing (at_next at.next frames) (in_use core.stack at)) top

module _ (code : CodeProgram) (grants : Grants) (core : Core) (at : Registers) (running : RunningFrame) (valid : Valid code grants (shown code core (On at)))
    (top : core.stack.frames.items ≡ Running running ∷ below core.stack.frames.items) where
  pub valid_here : Valid code grants (Going (phase_shown core.phase)
      (frames_shown code core.places (Runs (record running { next = at.next }) (locals_at core at running) (operands_at core at running) ∷ others_at core at running))
      (progress_in core))
  valid_here =
      subst (λ (s : List Stood). Valid code grants (Going (phase_shown core.phase) (frames_shown code core.places s) (progress_in core)))
      (stands core at running top) valid

  pub step_there : RunningHasStep code → HasStep code running.activation.body at.next
  step_there has =
      has (progress_in core) (leaving_shown running.leaving running.activation) (activation_shown core.places running.activation)
      (locals_at core at running) (operands_at core at running) at.next (steps_from code running.activation.body at.next) refl valid_here.2.0

-- ---- how many steps a body has

all_at : {A : Type 0} (P : A → Type 0) (xs : List A) (k : ℕ) (x : A) → All P xs → slice_get xs k ≡ Some x → P x
all_at P xs k x all e = subst P (get_or_from_slice_get xs k x x e) (all k x (slice_get_within xs k x e))

-- those of code that fits its fields are few
pub few_steps : (code : CodeProgram) (body : ℕ) → FitsFields code → length (steps_of code body) ≤ 65536
few_steps code body fits = by_body (slice_get code.bodies body) refl
  where
    by_body : (o : Option BodyCode) → slice_get code.bodies body ≡ o
        → length (option_map_or (λ (b : BodyCode). placed b.places 0 b.instrs) o ((ReturnSelf, None) ∷ [])) ≤ 65536
    by_body (Some b) e =
        let few = (all_at (λ (one : BodyCode). BodyFits code one) code.bodies body b fits.bodies e).instr_count in
        let same = placed_length b.places 0 b.instrs in
        omega (arith, few, same)
    by_body None e = omega arith

-- ---- a body that runs on top

-- the topmost frame, which is one of that body
pub record HasTop (body : ℕ) (frames : List Frame) : Type 0 where
  pub running : RunningFrame
  pub top : frames ≡ Running running ∷ below frames
  pub is : running.activation.body ≡ body

pub top_of : (body : ℕ) (frames : List Frame) → TopRunsBody body frames → HasTop body frames
top_of body [] runs = absurd runs
top_of body (Running frame ∷ frames) runs = record { running = frame; top = refl; is = runs }
top_of body (Looping frame ∷ frames) runs = absurd runs

module _ (code : CodeProgram) (grants : Grants) (core : Core) (at : Registers) (body : ℕ) (valid : Valid code grants (shown code core (On at)))
    (runs : TopRunsBody body core.stack.frames.items) where
  pub body_has_step : RunningHasStep code → HasStep code body at.next
  body_has_step has =
      let it = top_of body core.stack.frames.items runs in
      subst (λ (b : ℕ). HasStep code b at.next) it.is (step_there code grants core at it.running valid it.top has)

  pub body_has_next : ValidHasNextStep code grants → HasNextStep code core at body
  body_has_next has =
      let it = top_of body core.stack.frames.items runs in
      subst (λ (b : ℕ). HasNextStep code core at b) it.is (has core at it.running valid it.top)

pub is_ahead : (code : CodeProgram) (plan : Plan) (core : Core) (at : Registers) (body : ℕ) (step : Step) → IsPrepared code plan core.places
    → HasNextStep code core at body → HasStep code body at.next → IsStepAt code body at.next step → IsAhead code core at body step
is_ahead code plan core at body step prepared has there is = record {
  next = has.is (step_shown core.places step)
      (first_left at.next (steps_of code body) (steps_from code body (at.next + 1)) (step_shown core.places step)
      (shown_here code plan core.places body at.next step prepared is));
  there = there;
  is = is;
  left = shown_here code plan core.places body at.next step prepared is;
}

-- The registers behind a step, taken back, are those before it.
pub stepped_back : (at : Registers) → record at { next = at.next + 1 - 1 } ≡ at
stepped_back at = let same : at.next + 1 - 1 ≡ at.next = omega arith in ap (λ (n : ℕ). record at { next = n }) same
