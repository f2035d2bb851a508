use Rattle.ns_moves.proofs.Begins.{host_valid}
use Rattle.ns_moves.proofs.valid_world.sends_of_a_host_are_valid.Goals as goal

pub returns : goal.returns
returns c = host_valid
