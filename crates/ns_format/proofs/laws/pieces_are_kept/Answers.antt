use Rattle.ns_format.proofs.Kept.{laid_all, pieces_kept}
use Rattle.ns_format.proofs.laws.pieces_are_kept.Goals as goal

pub returns-clause-same : goal.returns-clause-same
returns-clause-same c = pieces_kept

pub returns-clause-all : goal.returns-clause-all
returns-clause-all c = laid_all
