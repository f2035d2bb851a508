use Rattle.std.proofs.Common.{arith}
use Rattle.ns_mirror.proofs.Names.{slot_step, slot_size}
use Rattle.ns_mirror.proofs.slots.put_slots.Goals as goal

pub slots-preserved : goal.slots-preserved
slots-preserved c =
    let l = c.slots in
    record {
      place = omega (arith, l.invariant.place);
      rest = slot_step c.args.world.now l.world c.write.new.self c.args.to c.args.at l.place l.slot-index c.args.slots.now _ c.slots-test.true l.invariant.rest c.write.ensures;
      size = slot_size l.world c.write.new.self c.args.to l.place _ _ c.write.ensures l.invariant.size;
    }
