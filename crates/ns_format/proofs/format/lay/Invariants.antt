use Rattle.std.proofs.Common.{◌≡◌, ◌++◌, length}
use Rattle.ns_format.specs.Format.{laid_from, laid}
use Rattle.ns_format.proofs.format.lay.Given as goal

abbrev pub invariant-pieces : goal.invariant-pieces
invariant-pieces l = l.out.items ++ laid_from l.leads.items l.side l.left ≡ laid l.pieces

abbrev pub decreases-pieces : goal.decreases-pieces
decreases-pieces l = length l.left
