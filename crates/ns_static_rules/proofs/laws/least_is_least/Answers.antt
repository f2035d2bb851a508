use Rattle.ns_static_rules.specs.laws.Order as law
use Rattle.ns_static_rules.proofs.laws.least_is_least.Goals as goal

pub returns : goal.returns
returns c = law.least_is_least
