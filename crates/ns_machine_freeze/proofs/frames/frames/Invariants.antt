use Rattle.std.proofs.Common.{◌≡◌, ◌-◌, drop, reverse}
use Rattle.ns_machine_freeze.specs.Down.{down}
use Rattle.ns_machine_freeze.proofs.frames.frames.Given as goal

abbrev pub invariant-frames : goal.invariant-frames
invariant-frames l = l.frames.items ≡ reverse (drop (l.count - l.done) (down l.code l.core l.at l.waits))
