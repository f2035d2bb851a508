-- The method of Boolean that the selector of a send spells, before it is known whether its receiver is a Boolean.
use Rattle.std.specs.Prelude.{ℕ, List, Option, Some, None, slice_get}
use Rattle.std.specs.Option.{option_map_or}
use Rattle.ns_base.specs.declared.selector.Sel.{Sel}
use Rattle.ns_code.specs.declared.program.CodeProgram.{CodeProgram}
use Rattle.ns_world.specs.declared.kernel_class.KernelRow.TheVariants as class
use Rattle.ns_world.specs.Heap.{Heap}
use Rattle.ns_find.specs.declared.found.Sending.{Sending}
use Rattle.ns_world.specs.declared.kernel_parts.KMethod.{KMethod}
use Rattle.ns_world.specs.declared.kernel_row.Row.{Row}
use Rattle.ns_world.specs.KernelTable.{row_called}
use Rattle.ns_world.specs.declared.kernel_row.Row.TheVariants.{Method}
use Rattle.ns_machine_plan.specs.Integers.{row_found, FindsThatRow}

-- the method that a row of the kernel is
abbrev pub method_of : Row → Option KMethod
method_of (Method method) = Some method
method_of other = None

-- the method of Boolean that a text spells
abbrev pub method_of_text : List ℕ → Option KMethod
method_of_text text = row_found method_of (row_called class.Boolean text)

-- that of the name which a selector is
abbrev pub method_of_send : CodeProgram → Sel → Option KMethod
method_of_send code sel = option_map_or method_of_text (slice_get code.names sel.0) None

-- A Boolean finds the method of that selector.
abbrev pub FindsBoolean : Heap → CodeProgram → Sel → Sending → KMethod → Type 0
FindsBoolean heap code sel kind method = FindsThatRow heap code class.Boolean sel kind (Method method)
