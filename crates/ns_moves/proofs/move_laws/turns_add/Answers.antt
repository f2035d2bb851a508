use Rattle.ns_moves.proofs.Turns.{turns_add, turns_one}
use Rattle.ns_moves.proofs.move_laws.turns_add.Goals as goal

pub returns-clause-add : goal.returns-clause-add
returns-clause-add c = turns_add

pub returns-clause-one : goal.returns-clause-one
returns-clause-one c = turns_one
