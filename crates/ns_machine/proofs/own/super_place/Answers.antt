use Rattle.std.proofs.Common.{◌≡◌, arith, sym, ◌∙◌, ap, length}
use Rattle.ns_moves.specs.Steps.{super_place, steps_of, steps_from}
use Rattle.ns_machine.proofs.Opening.{none_behind, none_there}
use Rattle.ns_machine.proofs.own.super_place.Goals as goal

pub returns : goal.returns
returns c =
    let end : length (steps_of c.args.code.now c.args.body) ≡ c.steps.next = omega (arith, c.steps.auto.next-end, c.steps-test.false, c.requires.count) in
    none_there c.args.code.now c.args.places.now c.requires.places
    ∙ (sym (none_behind c.args.code.now c.args.body)
    ∙ (ap (λ n. super_place (steps_from c.args.code.now c.args.body n)) end ∙ c.steps.invariant))
