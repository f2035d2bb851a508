use Rattle.std.proofs.Common.{◌≡◌, take}
use Rattle.ns_frozen.proofs.plain.plain_values.Given as goal

abbrev pub invariant-values : goal.invariant-values
invariant-values l = l.plain.items ≡ take l.value-index l.values
