use Rattle.ns_actors.proofs.Reaching.{send_begins}
use Rattle.ns_actors.proofs.laws.sends_begin_in_reach.Goals as goal

pub returns : goal.returns
returns c = send_begins c.sends_of_a_host_are_valid.ensures
