use Rattle.ns_machine_plan.proofs.Among.{members_are_entries}
use Rattle.ns_machine_plan.proofs.Finding.{members_are_found}
use Rattle.ns_machine_plan.proofs.laws.members_are_found.Goals as goal

pub returns-clause-found : goal.returns-clause-found
returns-clause-found c = members_are_found c.enclosing_objects_are_there.ensures.declared

pub returns-clause-entries : goal.returns-clause-entries
returns-clause-entries c = members_are_entries c.enclosing_objects_are_there.ensures.declared
