use Rattle.ns_session.proofs.Alone.{source_leads}
use Rattle.ns_session.proofs.laws.applications_mean_their_sources.Goals as goal

pub returns : goal.returns
returns c meant = source_leads meant (c.turns_are_on_the_way.ensures meant)
