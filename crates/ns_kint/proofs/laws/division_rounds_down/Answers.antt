use Rattle.ns_kint.proofs.Rounding.{alone}
use Rattle.ns_kint.proofs.laws.division_rounds_down.Goals as goal

pub returns-clause-alone : goal.returns-clause-alone
returns-clause-alone c = alone
