use Rattle.ns_machine_core.proofs.Turned.{begins, free_on, charged_on, ends, rests}
use Rattle.ns_machine_core.proofs.laws.turns_go_by_moves.Goals as goal

pub returns-clause-begin : goal.returns-clause-begin
returns-clause-begin c = begins

pub returns-clause-free : goal.returns-clause-free
returns-clause-free c = free_on

pub returns-clause-charged : goal.returns-clause-charged
returns-clause-charged c = charged_on

pub returns-clause-last : goal.returns-clause-last
returns-clause-last c = ends

pub returns-clause-rest : goal.returns-clause-rest
returns-clause-rest c = rests
