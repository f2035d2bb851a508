use Rattle.std.proofs.Common.{◌≡◌}
use Rattle.ns_machine_plan.specs.Outers.{out_from}
use Rattle.ns_machine_plan.proofs.outers.out_from.Given as goal

abbrev pub invariant-levels : goal.invariant-levels
invariant-levels l = l.found ≡ out_from l.code l.fn.from l._passed
