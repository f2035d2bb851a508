use Rattle.std.proofs.Common.{◌≡◌, ◌∙◌, ℕ, Some, slice_get, refl, ap, sym, subst, arith}
use Rattle.ns_world.specs.laws.Chains.{both_of}
use Rattle.ns_machine_core.specs.laws.Straight.{top_is}
use Rattle.ns_machine_core.specs.Moving.{IsNextStep}
use Rattle.ns_machine_plan.specs.declared.step.Step.{Step}
use Rattle.ns_machine_plan.specs.declared.step.Step.TheVariants.{Return}
use Rattle.ns_machine_plan.specs.Packed.{step_in, unpacked}
use Rattle.ns_machine_plan.specs.Steps.{place_of, step_shown}
use Rattle.ns_machine_turns.specs.Repeating.{is_return, is_turn}
use Rattle.ns_machine_turns.proofs.Fetched.{few_steps}
use Rattle.ns_machine_turns.proofs.OnTurn.{returning}
use Rattle.ns_machine_turns.proofs.quickly.go_quickly.Goals as goal

pub overflow_add-behind : goal.overflow_add-behind
overflow_add-behind c =
    let there = c.fetch_from-step.ensures.ahead.there.next_there in
    let few = few_steps c.args.code.now c.args.top.body c.requires.prepared.of_code.fits in
    omega (arith, there, few)

pub perform-requires-clause-can : goal.perform-requires-clause-can
perform-requires-clause-can c =
    c.moves_keep_machines_ready.ensures.can c.args.code.now c.requires.can.grants c.args.core.now c.args.at
    (step_shown c.args.core.now.places (step_in c.fetch_from-step.result)) c.requires.can.ready c.fetch_from-step.ensures.ahead.next

pub perform-requires-clause-member : goal.perform-requires-clause-member
perform-requires-clause-member c frame others b e there =
    c.fetch_from-step.ensures.ahead.is.member b
    (subst (λ (body : ℕ). slice_get c.args.code.now.bodies body ≡ Some b)
    (top_is c.args.top.body c.args.core.now.stack.frames.items others frame c.requires.top.runs e) there)

pub returns-then-ends_turn : goal.returns-then-ends_turn
returns-then-ends_turn c =
    let two = both_of (is_return c.fetch_from-step.result.packed.now) (is_turn c.args.core.now.stack.frames.items) (sym c.ends_turn.ensures ∙ c.if-ends_turn.true) in (
      record {
        place = place_of c.args.core.now.places Return;
        returns = subst (λ (step : Step). IsNextStep c.args.code.now c.args.core.now c.args.at (step_shown c.args.core.now.places step))
            (ap (unpacked c.fetch_from-step.result.tables.now) (returning c.fetch_from-step.result.packed.now two.0)) c.fetch_from-step.ensures.ahead.next;
        turn = two.1;
      },
      refl,
    )
