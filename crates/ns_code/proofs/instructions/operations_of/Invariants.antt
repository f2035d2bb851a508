use Rattle.std.proofs.Common.{◌≡◌, map, take}
use Rattle.ns_code.specs.Instructions as spec
use Rattle.ns_code.proofs.instructions.operations_of.Given as goal

abbrev pub invariant-instrs : goal.invariant-instrs
invariant-instrs l = l.operations.items ≡ map spec.operation_of (take l.instr-index l.instrs)
