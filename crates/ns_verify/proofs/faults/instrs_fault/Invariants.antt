use Rattle.std.proofs.Common.{◌≡◌, drop, length}
use Rattle.ns_verify.specs.Heights.{begin}
use Rattle.ns_verify.specs.Verify.{instrs_fault}
use Rattle.ns_verify.proofs.faults.instrs_fault.Given as goal

abbrev pub invariant-instrs : goal.invariant-instrs
invariant-instrs l =
    (l.at ≡ l.instr-index)
    × (instrs_fault l.code l.number l.body l.home l.pass l.at (drop l.instr-index l.body.instrs)
    ≡ instrs_fault l.code l.number l.body l.home (begin (length l.body.instrs)) 0 l.body.instrs)
