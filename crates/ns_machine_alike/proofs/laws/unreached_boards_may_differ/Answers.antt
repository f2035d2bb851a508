use Rattle.ns_machine_alike.proofs.Premises.{boards_differ}
use Rattle.ns_machine_alike.proofs.laws.unreached_boards_may_differ.Goals as goal

pub returns : goal.returns
returns c = boards_differ
