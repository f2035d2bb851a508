use Rattle.ns_moves.proofs.FoundThere.{entry_open, slot_open, words_open}
use Rattle.ns_moves.proofs.finding.entries_are_inside.Goals as goal

pub returns-clause-entries : goal.returns-clause-entries
returns-clause-entries c = entry_open

pub returns-clause-slots : goal.returns-clause-slots
returns-clause-slots c = slot_open

pub returns-clause-same : goal.returns-clause-same
returns-clause-same c = λ world at holder has. words_open world.cells at has.1
