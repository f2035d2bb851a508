use Rattle.std.proofs.Common.{◌≡◌, drop, reverse}
use Rattle.ns_machine_frames.specs.Leaving.{frames_to}
use Rattle.ns_machine_frames.proofs.Searching.{behind}
use Rattle.ns_machine_frames.proofs.frames.frames_to.Given as goal

abbrev pub invariant-frames : goal.invariant-frames
invariant-frames l = frames_to l.home (reverse l.items) ≡ behind l.number (frames_to l.home (drop l.number (reverse l.items)))
