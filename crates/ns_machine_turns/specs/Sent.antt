-- The row that a packed step has for its selector.
use Rattle.std.specs.Prelude.{Option, Some, None}
use Rattle.ns_machine_plan.specs.declared.packed.Packed.{Packed}
use Rattle.ns_machine_plan.specs.declared.packed.Packed.TheVariants as packed
use Rattle.ns_machine_plan.specs.declared.step.SpelledRow.{SpelledRow}
use Rattle.ns_machine_plan.specs.declared.step.SpelledRow.TheVariants.{Integer, Boolean, Array}

-- the row of Integer, the method of Boolean or the row of Array that the step of a send has
abbrev pub row_spelled : Packed → Option SpelledRow
row_spelled (packed.SendInteger row send) = Some (Integer row)
row_spelled (packed.SendBoolean method send) = Some (Boolean method)
row_spelled (packed.SendArray row send) = Some (Array row)
row_spelled other = None
