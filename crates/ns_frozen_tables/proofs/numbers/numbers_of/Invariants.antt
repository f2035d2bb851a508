use Rattle.std.proofs.Common.{◌≡◌, ◌++◌, drop}
use Rattle.ns_frozen_tables.specs.Numbers.{numbers_from}
use Rattle.ns_frozen_tables.proofs.numbers.numbers_of.Given as goal

abbrev pub invariant-cells : goal.invariant-cells
invariant-cells l = l.numbers.items ++ numbers_from l.number (drop l.place l.cells) ≡ numbers_from 0 l.cells
