use Rattle.std.proofs.Common.{◌≡◌, ◌-◌, ◌≤◌, length, drop}
use Rattle.ns_lex.specs.Scan.{before, scan_from, scan, InOrder}
use Rattle.ns_lex.proofs.scan.lex.Given as goal

abbrev pub invariant-pieces : goal.invariant-pieces
invariant-pieces l = record {
  scanned : before l.tokens.items (scan_from 0 l.at (drop l.at l.source)) ≡ scan l.source;
  within : l.at ≤ length l.source;
  in_order : InOrder 0 l.at l.tokens.items;
  count : length l.tokens.items ≤ l.at;
}

abbrev pub decreases-pieces : goal.decreases-pieces
decreases-pieces l = length l.source - l.at
