use Rattle.std.proofs.Common.{◌≡◌, ◌+◌, ◌≤◌, length, drop}
use Rattle.ns_moves.specs.Start.{tops_of}
use Rattle.ns_machine_thaw.proofs.arguments.tops.Given as goal

abbrev pub invariant-classes : goal.invariant-classes
invariant-classes l =
    (l.count + length (tops_of l.class-index (drop l.class-index l.classes)) ≡ length (tops_of 0 l.classes)) × (l.count ≤ l.class-index)
