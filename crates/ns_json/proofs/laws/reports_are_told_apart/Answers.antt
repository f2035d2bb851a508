use Rattle.ns_json.proofs.ReadAll.{reports_apart}
use Rattle.ns_json.proofs.laws.reports_are_told_apart.Goals as goal

pub returns : goal.returns
returns c = reports_apart
