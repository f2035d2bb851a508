use Rattle.std.proofs.Common.{◌≡◌, drop, length, ◌+◌}
use Rattle.ns_machine_frames.specs.Stack.{stood, IsLaid}
use Rattle.ns_machine_frames.proofs.stack.Stack.unwind.Given as goal

abbrev pub invariant-frames : goal.invariant-frames
invariant-frames l =
    (stood l.self l.here ≡ drop l.counter (stood l.initial.self l.initial.here)) × IsLaid l.self l.here
    × (length l.self.frames.items + l.counter ≡ length l.initial.self.frames.items) × (l.self.values ≡ l.initial.self.values)
    × (l.self.frames ≡ record l.initial.self.frames { items = drop l.counter l.initial.self.frames.items })
