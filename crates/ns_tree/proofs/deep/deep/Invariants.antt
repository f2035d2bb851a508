use Rattle.std.proofs.Common.{◌≡◌, ◌≤◌, drop}
use Rattle.ns_tree.specs.Deep.{deep, deep_from, most_brackets}
use Rattle.ns_tree.specs.Tokens.{kinds}
use Rattle.ns_tree.proofs.deep.deep.Given as goal

abbrev pub invariant-loop-at : goal.invariant-loop-at
invariant-loop-at l = (l.before ≤ most_brackets) × (deep_from l.before l.at (kinds (drop l.at l.tokens)) ≡ deep (kinds l.tokens))
