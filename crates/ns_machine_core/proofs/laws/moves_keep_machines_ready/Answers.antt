use Rattle.ns_machine_core.proofs.Kept.{keeps_ready, can_be_done, done_moves}
use Rattle.ns_machine_core.proofs.laws.moves_keep_machines_ready.Goals as goal

pub returns-clause-moves : goal.returns-clause-moves
returns-clause-moves c = keeps_ready c.moves_keep_valid.ensures c.moves_go_onward.ensures c.lookups_stay.ensures.memos

pub returns-clause-can : goal.returns-clause-can
returns-clause-can c = can_be_done (λ code. record { heights = c.heights_agree.ensures.heights; agree = c.heights_agree.ensures.agree code })

pub returns-clause-done : goal.returns-clause-done
returns-clause-done c = done_moves
