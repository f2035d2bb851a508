use Rattle.std.proofs.Common.{refl, arith}
use Rattle.ns_find.proofs.Parts.{slots_here, slots_past}
use Rattle.ns_find.proofs.members.slots.Goals as goal

pub returns-in-Some : goal.returns-in-Some
returns-in-Some c =
    slots_here c.args.world.now.world.cells c.args.code.now c.args.asked.sel.0 c.args.asked.kind c.args.asked.wanted c.args.holder c.slots.entry c.slots.one-index c.args.slots.now _ _ c.in-Some.found (omega arith) c.slots.invariant.1 c.in-Some.ensures

pub slots-preserved : goal.slots-preserved
slots-preserved c =
    (omega arith, slots_past c.args.world.now.world.cells c.args.code.now c.args.asked.sel.0 c.args.asked.kind c.args.asked.wanted c.args.holder c.slots.entry c.slots.one-index c.args.slots.now _ _ (omega arith) c.slots.invariant.1 c.in-None.ensures)

pub slot-requires-clause-front : goal.slot-requires-clause-front
slot-requires-clause-front c = c.front-front.ensures c.args.code.now refl
