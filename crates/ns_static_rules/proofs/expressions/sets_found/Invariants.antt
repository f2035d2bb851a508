use Rattle.std.proofs.Common.{◌≡◌, drop}
use Rattle.std.specs.Prelude.{flat_map}
use Rattle.ns_static_rules.specs.Rules.{set_found}
use Rattle.ns_static_rules.specs.Walk.{with_found}
use Rattle.ns_static_rules.proofs.expressions.sets_found.Given as goal

abbrev pub invariant-loop-name : goal.invariant-loop-name
invariant-loop-name l = with_found l.checker (flat_map (set_found l.scope) (drop l.name-index l.sets)) ≡ with_found l.fn.checker (flat_map (set_found l.scope) l.sets)
