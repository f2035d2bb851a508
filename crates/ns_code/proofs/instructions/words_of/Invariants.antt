use Rattle.std.proofs.Common.{◌≡◌, ◌++◌, drop}
use Rattle.ns_code.specs.Instructions.{words_of}
use Rattle.ns_code.proofs.instructions.words_of.Given as goal

abbrev pub invariant-instrs : goal.invariant-instrs
invariant-instrs l = l.words.items ++ words_of (drop l.instr-index l.instrs) ≡ words_of l.instrs
