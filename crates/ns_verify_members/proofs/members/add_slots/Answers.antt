use Rattle.std.proofs.Common.{◌++◌, refl, arith}
use Rattle.ns_verify_members.specs.Numbers.{all_slot_numbers}
use Rattle.ns_verify_members.proofs.Added.{slots_step}
use Rattle.ns_verify_members.proofs.members.add_slots.Goals as goal

pub slots-preserved : goal.slots-preserved
slots-preserved c =
    slots_step c.args.code.now.names c.args.slots.now c.slots.found.items c.add_slot.new.found.items
    (c.args.found.now.items ++ all_slot_numbers c.args.code.now.names c.args.slots.now) c.slots.slot-index _
    (omega arith) _ refl c.slots.invariant c.in_ok-add_slot.ensures
