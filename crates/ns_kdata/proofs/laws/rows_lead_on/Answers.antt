use Rattle.ns_kdata.specs.laws.Leading.{rows_lead_on}
use Rattle.ns_kdata.proofs.laws.rows_lead_on.Goals as goal

pub returns : goal.returns
returns c = rows_lead_on
