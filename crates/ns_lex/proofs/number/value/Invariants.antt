use Rattle.std.proofs.Common.{◌≡◌, ◌≤◌, drop, fold}
use Rattle.ns_lex.specs.Number.{value, with_digit, greatest}
use Rattle.ns_lex.proofs.number.value.Given as goal

abbrev pub invariant-loop-b : goal.invariant-loop-b
invariant-loop-b l = (fold with_digit l.value (drop l.b-index l.digits) ≡ value l.digits) × (l.value ≤ greatest)
