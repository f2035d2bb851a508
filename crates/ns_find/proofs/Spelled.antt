-- What a class of the kernel finds by the text of a selector.
use Rattle.std.proofs.Common.{◌≡◌, ℕ, ◌++◌, refl, ap, sym, Option, Some, true}
use Rattle.std.specs.Prelude.{unwrap_or}
use Rattle.ns_code.specs.declared.program.CodeProgram.{CodeProgram}
use Rattle.ns_code.specs.Selector.{selector_text}
use Rattle.ns_world.specs.declared.kernel_class.KernelRow.{KernelRow}
use Rattle.ns_world.specs.declared.kernel_class.KernelRow.TheVariants.{Object, Array, Boolean, Integer}
use Rattle.ns_world.specs.KernelTable.{rows_of, row_called}
use Rattle.ns_world.specs.Heap.{Heap}
use Rattle.ns_find.specs.declared.found.Found.{Found}
use Rattle.ns_find.specs.declared.found.Found.TheVariants.{Kernel, Absent}
use Rattle.ns_find.specs.declared.found.Sending.{Sending}
use Rattle.ns_find.specs.Rows.{kernel_rows}
use Rattle.ns_find.specs.Stated.{ArraysFind, BooleansFind, IntegersFind}
use Rattle.ns_find.specs.Members.{search}
use Rattle.ns_find.proofs.Parts.{search_here}
use Rattle.ns_find.proofs.RowSearch.{all_plain, search_called}

-- the row of a class whose rows are all plain, and before those of all values
row_found : (heap : Heap) (code : CodeProgram) (sel : ℕ) (kind : Sending) (class : KernelRow) (number : ℕ) →
    all_plain (rows_of class) ≡ true
    → row_called class (selector_text code sel) ≡ Some number
    → unwrap_or (search code sel kind (kernel_rows heap code class ++ kernel_rows heap code Object)) Absent ≡ Kernel number
row_found heap code sel kind class number plain called =
    ap (λ (o : Option Found). unwrap_or o Absent) (sym
    (search_here code sel kind (kernel_rows heap code class) (kernel_rows heap code Object) (Kernel number)
    (search_called heap code sel kind (rows_of class) number plain called)))

pub integers_find : (heap : Heap) (code : CodeProgram) (sel : ℕ) (kind : Sending) → IntegersFind heap code sel kind
integers_find heap code sel kind number called = row_found heap code sel kind Integer number refl called

pub booleans_find : (heap : Heap) (code : CodeProgram) (sel : ℕ) (kind : Sending) → BooleansFind heap code sel kind
booleans_find heap code sel kind number called = row_found heap code sel kind Boolean number refl called

pub arrays_find : (heap : Heap) (code : CodeProgram) (sel : ℕ) (kind : Sending) → ArraysFind heap code sel kind
arrays_find heap code sel kind number called = row_found heap code sel kind Array number refl called
