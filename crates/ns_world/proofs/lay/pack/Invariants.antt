use Rattle.std.proofs.Common.{◌≡◌, ◌+◌, ◌-◌, ◌++◌, vec_len}
use Rattle.std.specs.Vec.{vec_capacity}
use Rattle.ns_world.specs.Words.{packed}
use Rattle.ns_world.proofs.lay.pack.Given as goal

abbrev pub invariant-words : goal.invariant-words
invariant-words l =
    (l.words.items ++ packed (l.count - l.counter) (l.left ++ l.others) ≡ l.initial.words.items ++ packed l.count (l.first ++ l.second))
    × (vec_len l.words ≡ vec_len l.initial.words + l.counter)
    × (vec_capacity l.words ≡ vec_capacity l.initial.words)
