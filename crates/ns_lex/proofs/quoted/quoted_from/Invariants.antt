use Rattle.std.proofs.Common.{◌≡◌, ◌+◌, ◌≤◌, drop, false, true, []}
use Rattle.ns_lex.specs.Quoted as spec
use Rattle.ns_lex.proofs.quoted.quoted_from.Given as goal

abbrev pub invariant-loop-b : goal.invariant-loop-b
invariant-loop-b l = (spec.quoted_from l.after_quote l.held.items l.at (drop l.b-index l.text) ≡ spec.quoted_from false [] 1 l.text) × (l.at ≡ l.b-index + 1) × (l.after_quote ≡ true → 2 ≤ l.at)
