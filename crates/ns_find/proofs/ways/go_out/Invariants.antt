use Rattle.std.proofs.Common.{◌≡◌, All}
use Rattle.ns_find.specs.Memo.{PlaceIsRight}
use Rattle.ns_find.specs.Outward.{outward}
use Rattle.ns_find.proofs.ways.go_out.Given as goal

abbrev pub invariant-out : goal.invariant-out
invariant-out l = (l.to ≡ outward l.world.world.cells l.from l.level) × All (PlaceIsRight l.world.world.cells l.code) l.memo
