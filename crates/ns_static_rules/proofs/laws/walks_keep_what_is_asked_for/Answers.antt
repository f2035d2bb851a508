use Rattle.std.proofs.Common.{None}
use Rattle.ns_static_rules.proofs.Keeping as law
use Rattle.ns_static_rules.proofs.laws.walks_keep_what_is_asked_for.Goals as goal

pub returns-clause-least : goal.returns-clause-least
returns-clause-least c = λ faults. law.least_of_all None faults

pub returns-clause-count : goal.returns-clause-count
returns-clause-count c = λ faults. law.count_of_all faults

pub returns-clause-each : goal.returns-clause-each
returns-clause-each c = λ left faults h. law.list_of_all left faults h
