use Rattle.ns_moves.specs.laws.LawfulBlocks.{evaluated_lawful}
use Rattle.ns_moves.specs.laws.LawfulSends.{sent_lawful, plain_lawful, performed_lawful}
use Rattle.ns_moves.proofs.laws.sends_keep_lawful.Goals as goal

pub returns-clause-sent : goal.returns-clause-sent
returns-clause-sent c = sent_lawful

pub returns-clause-plain : goal.returns-clause-plain
returns-clause-plain c = plain_lawful

pub returns-clause-performed : goal.returns-clause-performed
returns-clause-performed c = performed_lawful

pub returns-clause-evaluated : goal.returns-clause-evaluated
returns-clause-evaluated c = evaluated_lawful
