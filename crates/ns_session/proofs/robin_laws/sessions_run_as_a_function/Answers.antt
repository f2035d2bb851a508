use Rattle.ns_session.specs.Play.{opened}
use Rattle.ns_session.proofs.RobinRounding.{opened_reached}
use Rattle.ns_session.proofs.robin_laws.sessions_run_as_a_function.Goals as goal

pub returns : goal.returns
returns c quantum applications new some may made =
    c.round_robins_are_a_function.ensures quantum (opened applications) new some
    (opened_reached c.applications_stay_in_reach.ensures.start applications may) made
