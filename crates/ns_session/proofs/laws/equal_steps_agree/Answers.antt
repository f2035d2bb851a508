use Rattle.ns_session.proofs.Playing.{agree}
use Rattle.ns_session.proofs.laws.equal_steps_agree.Goals as goal

pub returns : goal.returns
returns c application may granted =
    agree application (c.turns_add.ensures.add application.code) (c.turns_add.ensures.one application.code) (c.applications_start_alone.ensures application may) granted
