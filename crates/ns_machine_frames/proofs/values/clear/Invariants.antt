use Rattle.std.proofs.Common.{◌≡◌, ◌+◌, ◌++◌, take, length, replicate}
use Rattle.ns_world.specs.declared.value.Value.TheVariants.{Nil}
use Rattle.ns_machine_frames.proofs.values.clear.Given as goal

abbrev pub invariant-clearing : goal.invariant-clearing
invariant-clearing l =
    (take (l.from + l.done) l.items ≡ take l.from l.initial.items ++ replicate l.done Nil) × (length l.items ≡ length l.initial.items)
