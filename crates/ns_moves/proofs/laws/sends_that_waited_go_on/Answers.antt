use Rattle.ns_moves.specs.laws.SentFrom.{from_lawful, from_fits, from_at, from_later, from_spends}
use Rattle.ns_moves.proofs.laws.sends_that_waited_go_on.Goals as goal

pub returns-clause-lawful : goal.returns-clause-lawful
returns-clause-lawful c = from_lawful

pub returns-clause-fits : goal.returns-clause-fits
returns-clause-fits c = from_fits

pub returns-clause-at : goal.returns-clause-at
returns-clause-at c = from_at

pub returns-clause-later : goal.returns-clause-later
returns-clause-later c = from_later

pub returns-clause-spends : goal.returns-clause-spends
returns-clause-spends c = from_spends
