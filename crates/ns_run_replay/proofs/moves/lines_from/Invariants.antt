use Rattle.std.proofs.Common.{◌≡◌, ◌++◌, drop, map, string_bytes}
use Rattle.ns_replay.specs.At.{position_in}
use Rattle.ns_run_replay.specs.Moves.{lines_from}
use Rattle.ns_run_replay.proofs.moves.lines_from.Given as goal
use Rattle.ns_run_words.specs.Words.{move_of}

-- The run is the same, and the lines so far and those of the moves that are left are those of all.
abbrev pub invariant-moves : goal.invariant-moves
invariant-moves l =
    (l.replay.code ≡ l.fn.replay.code) × (l.replay.start ≡ l.fn.replay.start)
    × (l.lines.items ++ lines_from l.fn.replay.code l.fn.replay.start (position_in l.replay.state) (map move_of (map string_bytes (drop l.word-index l.moves)))
    ≡ lines_from l.fn.replay.code l.fn.replay.start (position_in l.fn.replay.state) (map move_of (map string_bytes l.moves)))
