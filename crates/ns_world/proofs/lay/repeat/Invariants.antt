use Rattle.std.proofs.Common.{◌≡◌, ◌+◌, ◌++◌, replicate, vec_len}
use Rattle.std.specs.Vec.{vec_capacity}
use Rattle.ns_world.proofs.lay.repeat.Given as goal

abbrev pub invariant-filling : goal.invariant-filling
invariant-filling l =
    (l.words.items ≡ l.initial.words.items ++ replicate l.counter l.word)
    × (vec_len l.words ≡ vec_len l.initial.words + l.counter)
    × (vec_capacity l.words ≡ vec_capacity l.initial.words)
