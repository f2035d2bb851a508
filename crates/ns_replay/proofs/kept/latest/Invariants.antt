use Rattle.std.proofs.Common.{IfSome}
use Rattle.ns_replay.specs.Replay.{IsBefore}
use Rattle.ns_replay.proofs.kept.latest.Given as goal

abbrev pub invariant-keys : goal.invariant-keys
invariant-keys l = IfSome l.found (λ key. IsBefore l.kept l.step key)
