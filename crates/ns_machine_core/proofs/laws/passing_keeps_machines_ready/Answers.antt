use Rattle.ns_machine_core.proofs.Kept.{passing_keeps_ready, done_passes}
use Rattle.ns_machine_core.proofs.laws.passing_keeps_machines_ready.Goals as goal

pub returns-clause-moves : goal.returns-clause-moves
returns-clause-moves c = passing_keeps_ready c.moves_keep_valid.ensures c.moves_go_onward.ensures c.lookups_stay.ensures.memos

pub returns-clause-done : goal.returns-clause-done
returns-clause-done c = done_passes
