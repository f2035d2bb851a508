use Rattle.std.proofs.Common.{◌≡◌, drop}
use Rattle.ns_verify.specs.Verify.{classes_fault}
use Rattle.ns_verify.proofs.faults.classes_fault.Given as goal

abbrev pub invariant-classes : goal.invariant-classes
invariant-classes l =
    (l.number ≡ l.class-index)
    × (classes_fault l.code l.number (drop l.class-index l.code.classes) ≡ classes_fault l.code 0 l.code.classes)
