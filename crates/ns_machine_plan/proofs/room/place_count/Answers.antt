use Rattle.std.proofs.Common.{arith}
use Rattle.ns_machine_plan.proofs.Made.{places_on}
use Rattle.ns_machine_plan.proofs.room.place_count.Goals as goal

pub bodies-preserved : goal.bodies-preserved
bodies-preserved c =
    places_on c.args.bodies.now c.bodies.body-index c.bodies.count c.in_ok-count.count c.body-item.result _ (omega arith) c.body-item.is (omega (arith, c.in_ok-count.ensures, c.len.ensures)) c.bodies.invariant
