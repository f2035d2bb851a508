use Rattle.std.proofs.Common.{◌≡◌, map}
use Rattle.ns_parse_tokens.proofs.pattern.keyword.Given as goal

abbrev pub invariant-pairs : goal.invariant-pairs
invariant-pairs l = (l.parts.items ≡ map (λ x. x.0) l.yielded) × (l.params.items ≡ map (λ x. x.1) l.yielded)
