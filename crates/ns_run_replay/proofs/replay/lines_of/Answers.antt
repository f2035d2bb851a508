use Rattle.std.proofs.Common.{◌≡◌, IfOk, List, map, string_bytes, subst, ℕ}
use Rattle.ns_run_replay.proofs.Starting.{from_start}
use Rattle.ns_run_replay.proofs.replay.lines_of.Goals as goal
use Rattle.ns_run_words.specs.Words.{move_of}

pub returns : goal.returns
returns c =
    subst (λ (all : List ℕ). IfOk c.lines_from-lines.result (λ told. told.items ≡ all))
    (from_start c.args.code c.args.limits (map move_of (map string_bytes c.args.moves.now)) c.in_ok-replay.replay c.in_ok-replay.ensures c.position-position.ensures.least.most)
    c.lines_from-lines.ensures
