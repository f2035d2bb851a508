use Rattle.ns_verify.proofs.Homes.{inner_home, outermost_home}
use Rattle.ns_verify.proofs.laws.homes_are_outermost.Goals as goal

pub returns-clause-inside : goal.returns-clause-inside
returns-clause-inside c = inner_home

pub returns-clause-outermost : goal.returns-clause-outermost
returns-clause-outermost c = outermost_home
