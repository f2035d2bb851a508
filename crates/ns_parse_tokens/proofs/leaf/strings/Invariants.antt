use Rattle.std.proofs.Common.{length}
use Rattle.ns_parse_tokens.specs.Leaf.{is_string, string}
use Rattle.ns_parse_tokens.specs.laws.Loops.{Goes}
use Rattle.ns_parse_tokens.proofs.leaf.strings.Given as goal

abbrev pub invariant-texts : goal.invariant-texts
invariant-texts l = Goes is_string string l.texts.items l.tokens l.fn.tokens

abbrev pub decreases-texts : goal.decreases-texts
decreases-texts l = length l.tokens.kinds
