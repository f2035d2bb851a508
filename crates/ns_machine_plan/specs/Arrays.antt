-- The row of Array that the selector of a send spells, before it is known whether its receiver is an Array.
use Rattle.std.specs.Prelude.{ℕ, List, Option, Some, None, slice_get}
use Rattle.std.specs.Option.{option_map_or}
use Rattle.ns_base.specs.declared.selector.Sel.{Sel}
use Rattle.ns_code.specs.declared.program.CodeProgram.{CodeProgram}
use Rattle.ns_world.specs.declared.kernel_class.KernelRow.TheVariants as class
use Rattle.ns_world.specs.Heap.{Heap}
use Rattle.ns_find.specs.declared.found.Sending.{Sending}
use Rattle.ns_world.specs.declared.kernel_parts.DataRow.{DataRow}
use Rattle.ns_world.specs.declared.kernel_row.Row.{Row}
use Rattle.ns_world.specs.KernelTable.{row_called}
use Rattle.ns_world.specs.declared.kernel_row.Row.TheVariants.{Data}
use Rattle.ns_machine_plan.specs.Integers.{row_found, FindsThatRow}

-- the row of data that a row is
abbrev pub data_of : Row → Option DataRow
data_of (Data row) = Some row
data_of other = None

-- the row of data of Array that a text spells
abbrev pub row_of_text : List ℕ → Option DataRow
row_of_text text = row_found data_of (row_called class.Array text)

-- that of the name which a selector is
abbrev pub row_of_send : CodeProgram → Sel → Option DataRow
row_of_send code sel = option_map_or row_of_text (slice_get code.names sel.0) None

-- An Array finds the row of Array of that selector.
abbrev pub FindsArray : Heap → CodeProgram → Sel → Sending → DataRow → Type 0
FindsArray heap code sel kind row = FindsThatRow heap code class.Array sel kind (Data row)
