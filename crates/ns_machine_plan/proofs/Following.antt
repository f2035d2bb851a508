-- Where steps of sound code lead, and what they name.
use Rattle.std.proofs.Common.{◌≡◌, ℕ, ◌+◌, ◌-◌, ◌≤◌, ◌<◌, List, length, get_or, refl, sym, ap, subst, ◌∙◌, arith, Option, Some, None}
use Rattle.std.specs.Prelude.{slice_get, IsSome}
use Rattle.std.specs.Option.{ForSome}
use Rattle.std.proofs.lemmas.List.{length-drop}
use Rattle.std.proofs.lemmas.Option.{same_Some, slice_get_within}
use Rattle.ns_code.specs.declared.program.CodeProgram.{CodeProgram}
use Rattle.ns_code.specs.declared.body.BodyCode.{BodyCode}
use Rattle.ns_code.specs.declared.instruction.Instr.{Instr}
use Rattle.ns_code.specs.declared.instruction.Instr.TheVariants as i
use Rattle.ns_verify.specs.Verify.{IsSound}
use Rattle.ns_verify.specs.Places.{HasNoCause, HeightsAgree}
use Rattle.ns_verify.specs.Uses.{IsUsable}
use Rattle.ns_moves.specs.Steps as moves
use Rattle.ns_moves.specs.Steps.{steps_of}
use Rattle.ns_moves.specs.ValidFrames.{Nothing, Stands, next_number}
use Rattle.ns_machine_plan.specs.declared.step.Step.{Step}
use Rattle.ns_machine_plan.specs.Steps.{instr_of}
use Rattle.ns_machine_plan.specs.Plan.{HasStep, IsStepAt}
use Rattle.ns_machine_plan.specs.Stated.{BodiesHaveSteps, StepsGoOn, JumpsLand, StepsAreUsable, RunningHasStep}
use Rattle.ns_machine_plan.proofs.Rows.{HasBody, body_there}
use Rattle.ns_machine_plan.specs.laws.Steps.{steps_count}
use Rattle.ns_machine_plan.proofs.Lookup.{HasInstr, instr_there, left_from}

-- the instruction of a step is that of its number
instr_is : (code : CodeProgram) (body next : ℕ) (step : Step) (at : HasInstr code body next) → IsStepAt code body next step →
    instr_of step ≡ at.instr
instr_is code body next step at is =
    ap (λ (steps : List moves.PlacedInstr). (get_or steps 0 (i.Pop, None)).0) (sym is.shown ∙ left_from code body next at.body at.instr at.is at.has)

step_at : (code : CodeProgram) (body next : ℕ) (b : BodyCode) → slice_get code.bodies body ≡ Some b → next < length b.instrs →
    HasStep code body next
step_at code body next b is lt =
    record { body_there = slice_get_within code.bodies body b is; next_there = subst (λ n. next < n) (sym (steps_count code body b is)) lt }

abbrev Sound : Type 0
Sound = (code : CodeProgram) → IsSound code → HasNoCause code

abbrev Agree : Type 0
Agree =
    (code : CodeProgram) (number at : ℕ) (body : BodyCode) (instr : Instr) → IsSound code → slice_get code.bodies number ≡ Some body → slice_get body.instrs at ≡ Some instr → HeightsAgree body at instr

abbrev Usable : Type 0
Usable =
    (code : CodeProgram) (number at : ℕ) (body : BodyCode) (instr : Instr) → IsSound code → slice_get code.bodies number ≡ Some body → slice_get body.instrs at ≡ Some instr → IsUsable code number body at instr

pub bodies_begin : Sound → (code : CodeProgram) → BodiesHaveSteps code
bodies_begin none code body sound lt =
    let there : HasBody code.bodies body = body_there code.bodies body lt in
    let some : 1 ≤ length there.body.instrs = (none code sound).some_instr body there.body there.is in
    step_at code body 0 there.body there.is (omega (arith, some))

agreed : Agree → (code : CodeProgram) (body next : ℕ) (step : Step) (at : HasInstr code body next) → IsSound code →
    IsStepAt code body next step → HeightsAgree at.body next (instr_of step)
agreed agree code body next step at sound is =
    agree code body next at.body (instr_of step) sound at.is (at.has ∙ ap Some (sym (instr_is code body next step at is)))

pub steps_go_on : Agree → (code : CodeProgram) → StepsGoOn code
steps_go_on agree code body next step sound there is goes =
    let at : HasInstr code body next = instr_there code body next there in
    step_at code body (next + 1) at.body at.is ((agreed agree code body next step at sound is).next_there goes)

pub jumps_land : Agree → (code : CodeProgram) → JumpsLand code
jumps_land agree code body next to step sound there is jumps =
    let at : HasInstr code body next = instr_there code body next there in
    step_at code body to at.body at.is ((agreed agree code body next step at sound is).target_there to jumps)

pub steps_are_usable : Usable → (code : CodeProgram) → StepsAreUsable code
steps_are_usable usable code body next step b sound there is b_is =
    let at : HasInstr code body next = instr_there code body next there in
    let same : at.body ≡ b = same_Some at.body b (sym at.is ∙ b_is) in
    usable code body next b (instr_of step) sound b_is (subst (λ x. slice_get x.instrs next ≡ Some (instr_of step)) same (at.has ∙ ap Some (sym (instr_is code body next step at is))))

pub running_has_step : (code : CodeProgram) → RunningHasStep code
running_has_step code progress leaving activation locals stack next rest left valid =
    found (slice_get code.bodies activation.body) refl valid.fits.there valid.stands
  where
    found : (o : Option BodyCode) → slice_get code.bodies activation.body ≡ o → IsSome o → ForSome o (λ (b : BodyCode). Stands b Nothing (next_number code activation.body rest) (length stack)) → HasStep code activation.body next
    found None is there stands = absurd (cc (there))
    found (Some b) is there stands =
        let count : length (steps_of code activation.body) ≡ length b.instrs = steps_count code activation.body b is in
        let long : length rest ≡ length (steps_of code activation.body) - next = ap length left ∙ length-drop next (steps_of code activation.body) in
        let before : length (steps_of code activation.body) - length rest < length b.instrs = (stands b refl).0 in
        step_at code activation.body next b is (omega (arith, count, long, before))
