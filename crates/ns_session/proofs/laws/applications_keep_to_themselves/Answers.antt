use Rattle.ns_session.proofs.Alone.{leads}
use Rattle.ns_session.proofs.laws.applications_keep_to_themselves.Goals as goal

pub returns : goal.returns
returns c application =
    leads application (c.moves_add.ensures.moves application.code) (c.ended_runs_stay.ensures application.code) (c.moves_go_onward.ensures application.code)
