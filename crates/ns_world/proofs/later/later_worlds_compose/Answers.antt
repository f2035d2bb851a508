use Rattle.ns_world.specs.laws.Leading.{later_same, later_on, run_on}
use Rattle.ns_world.proofs.later.later_worlds_compose.Goals as goal

pub returns-clause-same : goal.returns-clause-same
returns-clause-same c = later_same

pub returns-clause-on : goal.returns-clause-on
returns-clause-on c = later_on

pub returns-clause-runs : goal.returns-clause-runs
returns-clause-runs c = run_on
