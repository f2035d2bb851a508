use Rattle.std.proofs.Common.{◌≡◌, ◌++◌, drop}
use Rattle.ns_tree.specs.PlainOf.{keys_of}
use Rattle.ns_resolved.specs.Expressions.{joined}
use Rattle.ns_gen_draft.proofs.keys.joined.Given as goal

abbrev pub invariant-loop-key : goal.invariant-loop-key
invariant-loop-key l = l.bytes.items ++ joined (keys_of (drop l.key-index l.keys)) ≡ joined (keys_of l.keys)
