-- The row of Integer, of Boolean or of Array that a step has, by the selector that it sends.
use Rattle.std.specs.Prelude.{◌≡◌, ℕ, List, Option, Some, None, map, slice_get}
use Rattle.std.specs.Option.{option_map_or}
use Rattle.ns_base.specs.declared.selector.Sel.{Sel}
use Rattle.ns_code.specs.declared.program.CodeProgram.{CodeProgram}
use Rattle.ns_world.specs.declared.kernel_parts.DataRow.{DataRow}
use Rattle.ns_world.specs.declared.kernel_parts.KMethod.{KMethod}
use Rattle.ns_world.specs.declared.kernel_parts.IntRow.{IntRow}
use Rattle.ns_machine_plan.specs.declared.step.SpelledRow.{SpelledRow}
use Rattle.ns_machine_plan.specs.declared.step.SpelledRow.TheVariants.{Integer, Boolean, Array}
use Rattle.ns_machine_plan.specs.declared.spelled.SpelledRows.{SpelledRows}
use Rattle.ns_machine_plan.specs.Arrays.{row_of_text as array_row_of_text}
use Rattle.ns_machine_plan.specs.Booleans.{method_of_text}
use Rattle.ns_machine_plan.specs.Integers.{row_of_text}

-- the row of Integer, or else the method of Boolean, or else the row of Array
abbrev pub first_row : Option IntRow → Option KMethod → Option DataRow → Option SpelledRow
first_row (Some row) method array = Some (Integer row)
first_row None (Some method) array = Some (Boolean method)
first_row None None (Some row) = Some (Array row)
first_row None None None = None

-- the row that a text spells
abbrev pub spelled_by_text : List ℕ → Option SpelledRow
spelled_by_text text = first_row (row_of_text text) (method_of_text text) (array_row_of_text text)

-- that of the name which a selector is
abbrev pub spelled_by : CodeProgram → Sel → Option SpelledRow
spelled_by code sel = option_map_or spelled_by_text (slice_get code.names sel.0) None

-- The rows are those that the names of a code spell.
abbrev pub AreRowsOf : CodeProgram → SpelledRows → Type 0
AreRowsOf code rows = rows.rows ≡ map spelled_by_text code.names
