use Rattle.std.proofs.Common.{◌≡◌, ◌++◌, [], drop}
use Rattle.std.specs.Prelude.{flat_map}
use Rattle.ns_sends.specs.Unanswered.{lost_by}
use Rattle.ns_sends.proofs.unanswered.put_places.Given as goal

abbrev pub invariant-places : goal.invariant-places
invariant-places l = l.lost.items ++ flat_map (lost_by l.answered l.instrs) (drop l.placed-index l.places) ≡ l.fn.lost.items ++ flat_map (lost_by l.answered l.instrs) l.places
