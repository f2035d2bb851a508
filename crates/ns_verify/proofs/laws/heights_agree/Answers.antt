use Rattle.ns_verify.proofs.Agreeing.{heights_list}
use Rattle.ns_verify.proofs.Law as law
use Rattle.ns_verify.proofs.laws.heights_agree.Goals as goal

pub returns-clause-heights : goal.returns-clause-heights
returns-clause-heights c = heights_list

pub returns-clause-agree : goal.returns-clause-agree
returns-clause-agree c = law.heights_agree
