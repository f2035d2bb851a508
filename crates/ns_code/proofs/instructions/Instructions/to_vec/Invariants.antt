use Rattle.std.proofs.Common.{◌≡◌, ◌++◌, drop}
use Rattle.ns_code.specs.Instructions.{united}
use Rattle.ns_code.proofs.instructions.Instructions.to_vec.Given as goal

abbrev pub invariant-operations : goal.invariant-operations
invariant-operations l = l.instrs.items ++ united (drop l.operation-index l.operation-items) l.words l.integers ≡ l.self
