use Rattle.std.proofs.Common.{◌≡◌, ◌+◌, ◌≤◌, length, drop}
use Rattle.ns_mirror.specs.Selectors.{public_selectors}
use Rattle.ns_mirror.proofs.selectors.public_count.Given as goal

abbrev pub invariant-methods : goal.invariant-methods
invariant-methods l = record {
  rest : l.count + length (public_selectors (drop l.method-index l.methods)) ≡ length (public_selectors l.methods);
  small : l.count ≤ l.method-index;
}
