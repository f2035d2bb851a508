-- The row of Integer that the selector of a send spells, before it is known whether its receiver is an Integer.
use Rattle.std.specs.Prelude.{◌≡◌, ℕ, List, Option, Some, None, slice_get}
use Rattle.std.specs.Option.{option_map_or}
use Rattle.ns_base.specs.declared.selector.Sel.{Sel}
use Rattle.ns_code.specs.declared.program.CodeProgram.{CodeProgram}
use Rattle.ns_world.specs.declared.kernel_class.KernelRow.{KernelRow}
use Rattle.ns_world.specs.declared.kernel_class.KernelRow.TheVariants as class
use Rattle.ns_world.specs.declared.kernel.Start.TheVariants as start
use Rattle.ns_world.specs.Heap.{Heap}
use Rattle.ns_find.specs.declared.found.Found.TheVariants.{Kernel}
use Rattle.ns_find.specs.declared.found.Sending.{Sending}
use Rattle.ns_find.specs.Find.{found_from}
use Rattle.ns_world.specs.declared.kernel_parts.IntRow.{IntRow}
use Rattle.ns_world.specs.declared.kernel_row.Row.{Row}
use Rattle.ns_world.specs.declared.kernel_row.Row.TheVariants.{Integer}
use Rattle.ns_world.specs.KernelTable.{row_at, row_called}

-- what is asked for of the row of the kernel that has a number
abbrev pub row_found : {A : Type 0} → (Row → Option A) → Option ℕ → Option A
row_found of (Some number) = of (row_at number)
row_found of None = None

-- the row of Integer that a row of the kernel is
abbrev pub integer_of : Row → Option IntRow
integer_of (Integer row) = Some row
integer_of other = None

-- the row of Integer that a text spells
abbrev pub row_of_text : List ℕ → Option IntRow
row_of_text text = row_found integer_of (row_called class.Integer text)

-- that of the name which a selector is
abbrev pub row_of_send : CodeProgram → Sel → Option IntRow
row_of_send code sel = option_map_or row_of_text (slice_get code.names sel.0) None

-- A value of a class of the kernel finds that row by a selector.
pub record FindsThatRow (heap : Heap) (code : CodeProgram) (class : KernelRow) (sel : Sel) (kind : Sending) (row : Row) : Type 0 where
  pub number : ℕ
  pub found : found_from heap code (start.Kernel class) sel.0 kind ≡ Kernel number
  pub row_is : row_at number ≡ row

-- An Integer finds the row of Integer of that selector.
abbrev pub FindsInteger : Heap → CodeProgram → Sel → Sending → IntRow → Type 0
FindsInteger heap code sel kind row = FindsThatRow heap code class.Integer sel kind (Integer row)
