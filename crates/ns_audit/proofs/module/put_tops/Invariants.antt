use Rattle.std.proofs.Common.{◌≡◌, ◌≤◌, [], drop, take, length}
use Rattle.ns_audit.specs.Module.{tops_from}
use Rattle.ns_audit.proofs.module.put_tops.Given as goal

abbrev pub invariant-classes : goal.invariant-classes
invariant-classes l =
    (l.number ≡ l.class-index)
    × (length l.classes ≤ length l.room)
    × (tops_from (take l.class-index l.room) (drop l.class-index l.classes) ≡ tops_from [] l.classes)
