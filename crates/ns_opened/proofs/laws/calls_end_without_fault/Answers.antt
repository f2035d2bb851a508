use Rattle.ns_opened.proofs.Faultless.{openings, questions, turns}
use Rattle.ns_opened.proofs.laws.calls_end_without_fault.Goals as goal

pub returns-clause-opening : goal.returns-clause-opening
returns-clause-opening c = openings

pub returns-clause-asking : goal.returns-clause-asking
returns-clause-asking c = questions

pub returns-clause-turn : goal.returns-clause-turn
returns-clause-turn c = turns
