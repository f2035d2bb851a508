use Rattle.ns_moves.proofs.SitesStay.{sent_at, plain_at, evaluated_at}
use Rattle.ns_moves.proofs.PartsStay.{super_part_at}
use Rattle.ns_moves.proofs.laws.sites_stay.Goals as goal

pub returns-clause-sent : goal.returns-clause-sent
returns-clause-sent c = sent_at

pub returns-clause-plain : goal.returns-clause-plain
returns-clause-plain c = plain_at

pub returns-clause-evaluated : goal.returns-clause-evaluated
returns-clause-evaluated c = evaluated_at

pub returns-clause-part : goal.returns-clause-part
returns-clause-part c = super_part_at
