use Rattle.std.proofs.Common.{length, ap, arith}
use Rattle.ns_frozen_tables.proofs.Alike.{shapes_next}
use Rattle.ns_frozen_tables.specs.laws.Lists.{one_longer}
use Rattle.ns_frozen_tables.proofs.shapes.shapes_of.Goals as goal

pub bodies-preserved : goal.bodies-preserved
bodies-preserved c = (
  omega (arith, c.bodies.invariant.0),
  omega (arith, ap length c.in_ok-push.ensures.items, one_longer c.bodies.shapes.items c.shape_of-shape.result, c.bodies.invariant.1),
  shapes_next c.args.code.now c.bodies.shapes.items c.as_slice-in-bodies.result.now c.push.new.self.items c.as_slice-body-items.result.now
      c.bodies.number c.bodies.body-index c.body-item.result c.shape_of-shape.result c.bodies.invariant.2 c.bodies.invariant.1 c.bodies.invariant.0
      c.as_slice-in-bodies.ensures.value c.as_slice-body-items.ensures c.bodies-test.true c.body-item.is c.shape_of-shape.ensures
      c.in_ok-push.ensures.items,
)
