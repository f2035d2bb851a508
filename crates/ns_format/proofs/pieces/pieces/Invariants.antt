use Rattle.std.proofs.Common.{◌≡◌, ◌-◌, ◌≤◌, ◌++◌, length, drop}
use Rattle.ns_format.specs.Pieces.{pieces_from, pieces}
use Rattle.ns_format.proofs.pieces.pieces.Given as goal

abbrev pub invariant-pieces : goal.invariant-pieces
invariant-pieces l = record {
  cut : l.pieces.items ++ pieces_from 0 l.before (drop l.at l.source) ≡ pieces l.source;
  within : l.at ≤ length l.source;
}

abbrev pub decreases-pieces : goal.decreases-pieces
decreases-pieces l = length l.source - l.at
