use Rattle.std.proofs.Common.{◌≡◌, ◌++◌, drop}
use Rattle.ns_scope.specs.Names.{selector_of}
use Rattle.ns_scope.proofs.names.selector.Given as goal

abbrev pub invariant-loop-part : goal.invariant-loop-part
invariant-loop-part l = l.bytes.items ++ selector_of (drop l.part-index l.parts) ≡ selector_of l.parts
