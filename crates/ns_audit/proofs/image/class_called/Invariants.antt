use Rattle.std.proofs.Common.{◌≡◌, drop}
use Rattle.ns_audit.specs.Image.{called_from}
use Rattle.ns_audit.proofs.image.class_called.Given as goal

abbrev pub invariant-classes : goal.invariant-classes
invariant-classes l =
    (l.number ≡ l.class-index)
    × (called_from l.code l.name l.number (drop l.class-index l.code.classes) ≡ called_from l.code l.name 0 l.code.classes)
