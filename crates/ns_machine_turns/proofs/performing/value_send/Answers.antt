use Rattle.std.proofs.Common.{Some, None}
use Rattle.ns_machine_plan.specs.declared.step.SpelledRow.TheVariants.{Integer, Boolean, Array}
use Rattle.ns_machine_turns.proofs.performing.value_send.Goals as goal

pub returns-in-Send : goal.returns-in-Send
returns-in-Send c = rw c.in-Send.is (c.send.ensures None)

pub returns-in-SendInteger : goal.returns-in-SendInteger
returns-in-SendInteger c = rw c.in-SendInteger.is (c.send-in-SendInteger.ensures (Some (Integer c.in-SendInteger.row)))

pub returns-in-SendBoolean : goal.returns-in-SendBoolean
returns-in-SendBoolean c = rw c.in-SendBoolean.is (c.send-in-SendBoolean.ensures (Some (Boolean c.in-SendBoolean.method)))

pub returns-in-SendArray : goal.returns-in-SendArray
returns-in-SendArray c = rw c.in-SendArray.is (c.send-in-SendArray.ensures (Some (Array c.in-SendArray.row)))
