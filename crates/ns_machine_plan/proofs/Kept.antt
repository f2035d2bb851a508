-- The steps of a body as they are kept.
use Rattle.std.proofs.Common.{◌≡◌, ℕ, ◌+◌, List, [], ◌∷◌, length, refl, sym, ap, subst, arith, All}
use Rattle.std.specs.List.{slice_index_or}
use Rattle.std.proofs.lemmas.List.{length-map}
use Rattle.ns_code.specs.declared.program.CodeProgram.{CodeProgram}
use Rattle.ns_code.specs.declared.body.BodyCode.{BodyCode}
use Rattle.ns_machine_plan.specs.declared.kept_step.KeptSteps.{KeptSteps}
use Rattle.ns_machine_plan.specs.declared.plan.Plan.{Plan}
use Rattle.ns_machine_plan.specs.declared.step.Step.{Step}
use Rattle.ns_machine_plan.specs.declared.step.Step.TheVariants.{PushNil}
use Rattle.ns_machine_plan.specs.Packed.{EntryIsThere, steps_in, unpacked}
use Rattle.ns_machine_plan.specs.Plan.{IsPlanOf, IsStepAt, AreStepsOf}
use Rattle.ns_machine_plan.specs.Steps.{all_steps}
use Rattle.ns_machine_plan.proofs.Lookup.{step_inside, step_told}

-- Each body has its list.
pub lists_of_bodies : (code : CodeProgram) (first : ℕ) (bodies : List BodyCode) → length (all_steps code first bodies) ≡ length bodies
lists_of_bodies code first [] = refl
lists_of_bodies code first (body ∷ bodies) = let rest = lists_of_bodies code (first + length body.places) bodies in omega (arith, rest)

-- That of its number has its steps.
pub steps_kept : (code : CodeProgram) (plan : Plan) (body : ℕ) (kept : KeptSteps) → IsPlanOf code plan →
    All (EntryIsThere kept.tables.now) kept.packed.now → steps_in kept ≡ slice_index_or plan.steps body [] → AreStepsOf code body kept
steps_kept code plan body kept is there steps = record {
  there = there;
  within = λ next has.
      let inside = step_inside code body next plan.steps is.steps has in
      let same = length-map kept.packed.now (unpacked kept.tables.now) in
      let told = ap length steps in
      omega (arith, inside, same, told);
  is = λ next has.
      subst (IsStepAt code body next) (sym (ap (λ (all : List Step). slice_index_or all next PushNil) steps))
      (step_told code body next plan.steps PushNil is.steps is.fits is.few has);
}
