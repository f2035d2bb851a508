use Rattle.ns_world.specs.laws.Charging.{empty_is_lawful, resume_keeps}
use Rattle.ns_world.proofs.lawful.emptying_and_counting_keep_lawful.Goals as goal

pub returns-clause-empty : goal.returns-clause-empty
returns-clause-empty c = empty_is_lawful

pub returns-clause-counted : goal.returns-clause-counted
returns-clause-counted c = resume_keeps
