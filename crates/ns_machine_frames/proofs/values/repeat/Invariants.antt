use Rattle.std.proofs.Common.{◌≡◌, ◌+◌, ◌++◌, replicate, vec_len}
use Rattle.std.specs.Vec.{vec_capacity}
use Rattle.ns_world.specs.declared.value.Value.TheVariants.{Nil}
use Rattle.ns_machine_frames.proofs.values.repeat.Given as goal

abbrev pub invariant-filling : goal.invariant-filling
invariant-filling l =
    (l.items.items ≡ l.initial.items.items ++ replicate l.counter Nil)
    × (vec_len l.items ≡ vec_len l.initial.items + l.counter)
    × (vec_capacity l.items ≡ vec_capacity l.initial.items)
