use Rattle.std.proofs.Common.{◌≡◌, map, take}
use Rattle.ns_code.specs.Selector.{text_arity}
use Rattle.ns_code.proofs.selectors.arities_of.Given as goal

abbrev pub invariant-names : goal.invariant-names
invariant-names l = l.arities.items ≡ map text_arity (take l.name-index l.names)
