use Rattle.std.proofs.Common.{◌≡◌, ◌+◌, ◌≤◌, ◌++◌, length, drop}
use Rattle.std.specs.Fmt.{decimal}
use Rattle.ns_kdata.proofs.decimal.write_digits.Given as goal

abbrev pub invariant-digits : goal.invariant-digits
invariant-digits l = record {
  inside : l.at ≤ 20;
  size : length l.bytes ≡ 20;
  place : l.at + length (decimal l.number) ≡ 20 + length (decimal l.left);
  text : decimal l.left ++ drop l.at l.bytes ≡ decimal l.number;
}

abbrev pub decreases-digits : goal.decreases-digits
decreases-digits l = l.left
