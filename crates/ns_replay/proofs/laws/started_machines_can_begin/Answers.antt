use Rattle.ns_replay.proofs.Beginning.{started_begins}
use Rattle.ns_replay.proofs.laws.started_machines_can_begin.Goals as goal

pub returns : goal.returns
returns c code grants = started_begins code grants
