use Rattle.std.proofs.Common.{◌≡◌, length}
use Rattle.ns_frozen_tables.specs.Shapes.{AreShapes}
use Rattle.ns_frozen_tables.proofs.shapes.shapes_of.Given as goal

abbrev pub invariant-bodies : goal.invariant-bodies
invariant-bodies l = (l.number ≡ l.body-index) × (length l.shapes.items ≡ l.body-index) × AreShapes l.code l.shapes.items
