use Rattle.std.proofs.Common.{length}
use Rattle.ns_parse_tokens.specs.Name.{is_name}
use Rattle.ns_parse_tokens.specs.Pattern.{key_param}
use Rattle.ns_parse_tokens.specs.declared.name.Sort.TheVariants.{Key}
use Rattle.ns_parse_tokens.specs.laws.Loops.{Goes}
use Rattle.ns_parse_tokens.proofs.pattern.key_params.Given as goal

abbrev pub invariant-pairs : goal.invariant-pairs
invariant-pairs l = Goes (is_name Key) key_param l.pairs.items l.tokens l.fn.tokens

abbrev pub decreases-pairs : goal.decreases-pairs
decreases-pairs l = length l.tokens.kinds
