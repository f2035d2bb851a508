use Rattle.std.proofs.Common.{◌≡◌, ◌++◌, drop}
use Rattle.ns_code.specs.Instructions.{integers_of}
use Rattle.ns_code.proofs.instructions.integers_of.Given as goal

abbrev pub invariant-instrs : goal.invariant-instrs
invariant-instrs l = l.integers.items ++ integers_of (drop l.instr-index l.instrs) ≡ integers_of l.instrs
