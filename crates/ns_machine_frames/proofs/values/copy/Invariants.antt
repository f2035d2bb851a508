use Rattle.std.proofs.Common.{◌≡◌, ◌+◌, ◌++◌, take, length}
use Rattle.ns_machine_frames.proofs.values.copy.Given as goal

abbrev pub invariant-copying : goal.invariant-copying
invariant-copying l =
    (take (l.from + l.done) l.items ≡ take l.from l.initial.items ++ take l.done l.values) × (length l.items ≡ length l.initial.items)
