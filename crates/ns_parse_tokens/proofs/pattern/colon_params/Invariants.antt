use Rattle.std.proofs.Common.{length}
use Rattle.ns_parse_tokens.specs.Mark.{is_mark}
use Rattle.ns_parse_tokens.specs.Pattern.{param}
use Rattle.ns_parse_tokens.specs.declared.mark.Mark.TheVariants.{Colon}
use Rattle.ns_parse_tokens.specs.laws.Loops.{Goes}
use Rattle.ns_parse_tokens.proofs.pattern.colon_params.Given as goal

abbrev pub invariant-names : goal.invariant-names
invariant-names l = Goes (is_mark Colon) param l.names.items l.tokens l.fn.tokens

abbrev pub decreases-names : goal.decreases-names
decreases-names l = length l.tokens.kinds
