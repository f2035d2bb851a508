use Rattle.std.proofs.Common.{◌≡◌, ◌+◌, ◌++◌, map, take, vec_len}
use Rattle.std.specs.Vec.{vec_capacity}
use Rattle.ns_world.specs.Words.{word_of}
use Rattle.ns_world.proofs.lay.put_values.Given as goal

abbrev pub invariant-values : goal.invariant-values
invariant-values l =
    (l.words.items ≡ l.initial.words.items ++ map word_of (take l.value-index l.values))
    × (vec_len l.words ≡ vec_len l.initial.words + l.value-index)
    × (vec_capacity l.words ≡ vec_capacity l.initial.words)
