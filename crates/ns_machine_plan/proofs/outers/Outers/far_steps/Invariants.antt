use Rattle.std.proofs.Common.{◌≡◌, ◌*◌, Some}
use Rattle.ns_machine_plan.specs.Outers.{out_from}
use Rattle.ns_machine_plan.proofs.outers.Outers.far_steps.Given as goal

abbrev pub invariant-steps : goal.invariant-steps
invariant-steps l = l.found ≡ out_from l.code (Some l.decl) (l._passed * 16)
