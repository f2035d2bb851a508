use Rattle.ns_moves.proofs.Counting.{new_counted, started_counted, moves_counted}
use Rattle.ns_moves.proofs.move_laws.moves_keep_count.Goals as goal

pub returns-clause-new : goal.returns-clause-new
returns-clause-new c = new_counted

pub returns-clause-start : goal.returns-clause-start
returns-clause-start c = started_counted

pub returns-clause-moves : goal.returns-clause-moves
returns-clause-moves c = moves_counted
