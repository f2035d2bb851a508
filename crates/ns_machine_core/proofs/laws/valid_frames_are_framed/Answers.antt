use Rattle.ns_machine_core.proofs.Framed.{valid_framed, waiting_room}
use Rattle.ns_machine_core.proofs.laws.valid_frames_are_framed.Goals as goal

pub returns-clause-framed : goal.returns-clause-framed
returns-clause-framed c code grants =
    valid_framed code (record { heights = c.heights_agree.ensures.heights; agree = c.heights_agree.ensures.agree code }) grants

pub returns-clause-waiting : goal.returns-clause-waiting
returns-clause-waiting c code grants =
    waiting_room code (record { heights = c.heights_agree.ensures.heights; agree = c.heights_agree.ensures.agree code }) grants
