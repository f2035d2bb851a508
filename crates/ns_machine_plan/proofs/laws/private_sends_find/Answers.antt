use Rattle.ns_machine_plan.proofs.Admitted.{sends_have_members, sends_find}
use Rattle.ns_machine_plan.proofs.laws.private_sends_find.Goals as goal

pub returns-clause-member : goal.returns-clause-member
returns-clause-member c = sends_have_members

pub returns-clause-finds : goal.returns-clause-finds
returns-clause-finds c code = sends_find code (c.members_are_found.ensures.found code)
