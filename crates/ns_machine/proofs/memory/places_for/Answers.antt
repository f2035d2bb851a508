use Rattle.std.proofs.Common.{◌+◌, ◌≤◌, ◌++◌, ap, replicate, ◌∙◌, arith}
use Rattle.ns_machine_plan.specs.Steps.{all_places}
use Rattle.ns_machine.specs.Places.{spare_place}
use Rattle.ns_machine.proofs.Placed.{placed}
use Rattle.ns_machine.proofs.memory.places_for.Goals as goal

pub returns : goal.returns
returns c =
    let few : c.place_count-of_code.result + (c.args.depth + 1) ≤ 4294967295 = omega (arith, c.if-more-of_code.false, c.requires.depth) in
    placed c.args.code.now c.args.depth c.place_count-of_code.result c.from_vec.result
    (c.place_count-of_code.ensures c.args.code.now c.requires.plan) few
    (c.from_vec.ensures ∙ (c.in_ok-places_with.ensures ∙ ap (λ bodies. all_places bodies ++ replicate (c.args.depth + 1) spare_place) c.as_slice.ensures))
