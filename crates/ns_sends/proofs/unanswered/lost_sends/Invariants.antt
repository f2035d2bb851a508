use Rattle.std.proofs.Common.{◌≡◌, ◌++◌, [], drop}
use Rattle.std.specs.Prelude.{flat_map}
use Rattle.ns_sends.specs.Unanswered.{lost_in, lost_sends}
use Rattle.ns_sends.proofs.unanswered.lost_sends.Given as goal

abbrev pub invariant-bodies : goal.invariant-bodies
invariant-bodies l = l.lost.items ++ flat_map (lost_in l.answered) (drop l.body-index l.bodies) ≡ lost_sends l.answered
