use Rattle.ns_audit.proofs.Making.{performed_told, sends_carry, sends_made}
use Rattle.ns_audit.proofs.laws.sends_are_made.Goals as goal

pub returns-clause-made : goal.returns-clause-made
returns-clause-made c = sends_made

pub returns-clause-carry : goal.returns-clause-carry
returns-clause-carry c = sends_carry

pub returns-clause-performed : goal.returns-clause-performed
returns-clause-performed c = performed_told
