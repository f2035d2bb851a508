use Rattle.std.proofs.Common.{◌≡◌}
use Rattle.ns_moves.specs.Steps.{super_place, steps_of, steps_from}
use Rattle.ns_machine.proofs.own.super_place.Given as goal

abbrev pub invariant-steps : goal.invariant-steps
invariant-steps l = super_place (steps_from l.code l.body l.next) ≡ super_place (steps_of l.code l.body)
