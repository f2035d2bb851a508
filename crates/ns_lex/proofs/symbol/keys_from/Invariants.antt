use Rattle.std.proofs.Common.{◌≡◌, ◌≤◌, drop, false}
use Rattle.ns_lex.specs.Symbol as spec
use Rattle.ns_lex.proofs.symbol.keys_from.Given as goal

abbrev pub invariant-loop-b : goal.invariant-loop-b
invariant-loop-b l = (spec.keys_from l.end l.inside l.at (drop l.b-index l.text) ≡ spec.keys_from 0 false 0 l.text) × (l.at ≡ l.b-index) × (l.end ≤ l.at)
