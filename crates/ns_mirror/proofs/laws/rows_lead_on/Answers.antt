use Rattle.ns_mirror.specs.laws.Leading.{rows_lead_on}
use Rattle.ns_mirror.proofs.laws.rows_lead_on.Goals as goal

pub returns : goal.returns
returns c = rows_lead_on
