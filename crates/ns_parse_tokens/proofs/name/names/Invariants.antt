use Rattle.std.proofs.Common.{length}
use Rattle.ns_parse_tokens.specs.Name.{is_name, name}
use Rattle.ns_parse_tokens.specs.laws.Loops.{Goes}
use Rattle.ns_parse_tokens.proofs.name.names.Given as goal

abbrev pub invariant-names : goal.invariant-names
invariant-names l = Goes (is_name l.sort) (name l.sort) l.names.items l.tokens l.fn.tokens

abbrev pub decreases-names : goal.decreases-names
decreases-names l = length l.tokens.kinds
