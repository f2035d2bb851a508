use Rattle.ns_moves.specs.laws.LeadingOn.{action_leads}
use Rattle.ns_moves.proofs.laws.actions_lead_on.Goals as goal

pub returns : goal.returns
returns c = action_leads
