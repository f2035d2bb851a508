use Rattle.ns_moves.proofs.Told.{takes_as_told, charges_as_told}
use Rattle.ns_moves.proofs.move_laws.moves_charge_as_told.Goals as goal

pub returns-clause-steps : goal.returns-clause-steps
returns-clause-steps c = takes_as_told

pub returns-clause-test : goal.returns-clause-test
returns-clause-test c = charges_as_told
