use Rattle.std.proofs.Common.{◌∙◌, arith, ap, refl, subst, length}
use Rattle.std.proofs.lemmas.List.{drop_all}
use Rattle.ns_code.specs.declared.program.CodeProgram.{CodeProgram}
use Rattle.ns_machine_plan.specs.declared.plan.Plan.{Plan}
use Rattle.ns_machine_plan.specs.Plan.{IsPlanOf}
use Rattle.ns_machine_plan.specs.Steps.{all_places}
use Rattle.ns_machine_plan.proofs.Made.{IsSoFar, round, so_far_ends, body_fits, body_numbers}
use Rattle.ns_machine_plan.proofs.Sending.{sends_are_named}
use Rattle.ns_machine_plan.proofs.plan.Plan.new.Goals as goal

pub add-requires-clause-body : goal.add-requires-clause-body
add-requires-clause-body c = body_fits c.code-code.result.now c.body-item.result c.bodies.body-index c.as_slice-body-items.result.now _ c.as_slice-body-items.ensures (omega arith) c.body-item.is c.code-code.ensures.fits

pub add-requires-clause-names : goal.add-requires-clause-names
add-requires-clause-names c =
    sends_are_named c.sound_instructions_are_usable.ensures c.code-code.result.now c.bodies.body-index c.body-item.result c.as_slice-body-items.result.now
    c.code-code.ensures.sound c.as_slice-body-items.ensures (omega arith) c.body-item.is

pub add-requires-clause-places : goal.add-requires-clause-places
add-requires-clause-places c =
    let few = ap (λ bodies. length (all_places bodies)) c.as_slice.ensures in
    body_numbers c.code-code.result.now c.bodies.draft c.body-item.result c.bodies.body-index c.as_slice-body-items.result.now _ c.as_slice-body-items.ensures (omega arith) c.body-item.is
    (omega (arith, few, c.in_ok-place_count.ensures)) c.bodies.invariant

pub bodies-preserved : goal.bodies-preserved
bodies-preserved c =
    round c.code-code.result.now c.bodies.draft c.add.new.self c.body-item.result c.bodies.body-index c.as_slice-body-items.result.now _ c.as_slice-body-items.ensures (omega arith) c.body-item.is c.bodies.invariant c.in_ok-add.ensures

pub returns : goal.returns
returns c =
    let code = c.code-code.result.now in
    let draft = c.bodies.draft in
    let plan : Plan = record {
      steps = draft.steps;
      bodies = c.from_vec.result;
      place_count = c.in_ok-place_count.place_count;
      selectors = c.in_ok-selectors.selectors;
      greatest = draft.greatest;
    } in
    let none_left = drop_all c.bodies.body-index code.bodies (omega (arith, ap length c.as_slice-body-items.ensures)) in
    subst (λ (verified : CodeProgram). IsPlanOf verified plan) c.code-code.ensures.code
    (so_far_ends code draft plan refl c.from_vec.ensures (c.in_ok-place_count.ensures ∙ ap (λ bodies. length (all_places bodies)) c.as_slice.ensures) (omega arith) refl c.in_ok-selectors.ensures c.code-code.ensures.fits (subst (IsSoFar code draft) none_left c.bodies.invariant))
