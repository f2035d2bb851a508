use Rattle.std.proofs.Common.{drop}
use Rattle.ns_machine_plan.proofs.Made.{IsSoFar}
use Rattle.ns_machine_plan.proofs.plan.Plan.new.Given as goal

abbrev pub invariant-bodies : goal.invariant-bodies
invariant-bodies l = IsSoFar l.code l.draft (drop l.body-index l.code.bodies)
