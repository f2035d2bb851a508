use Rattle.ns_moves.proofs.OpeningSends.{started_valid, second_valid}
use Rattle.ns_moves.proofs.valid_world.opening_sends_are_valid.Goals as goal

pub returns-clause-first : goal.returns-clause-first
returns-clause-first c = started_valid

pub returns-clause-second : goal.returns-clause-second
returns-clause-second c = second_valid
