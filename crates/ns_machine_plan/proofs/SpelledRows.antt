-- The rows of Integer, of Boolean and of Array that selectors spell.
use Rattle.std.proofs.Common.{◌≡◌, ℕ, ◌-◌, List, [], length, get_or, refl, ap, ◌∙◌, Option, Some, None, cond}
use Rattle.std.specs.Prelude.{slice_get}
use Rattle.std.specs.Option.{option_map_or}
use Rattle.std.proofs.lemmas.Bool.{lt-ltb}
use Rattle.std.proofs.lemmas.Option.{none-some, same_Some, slice_get_within, get_or_from_slice_get}
use Rattle.ns_base.specs.declared.selector.Sel.{Sel}
use Rattle.ns_code.specs.declared.program.CodeProgram.{CodeProgram}
use Rattle.ns_code.specs.Selector.{selector_text, own_text_at}
use Rattle.ns_world.specs.declared.kernel_class.KernelRow.{KernelRow}
use Rattle.ns_world.specs.declared.kernel_class.KernelRow.TheVariants as class
use Rattle.ns_world.specs.declared.kernel.Start.TheVariants as start
use Rattle.ns_world.specs.Heap.{Heap}
use Rattle.ns_find.specs.declared.found.Found.TheVariants.{Kernel}
use Rattle.ns_find.specs.declared.found.Sending.{Sending}
use Rattle.ns_find.specs.Find.{found_from}
use Rattle.ns_find.specs.Stated.{ArraysFind, BooleansFind, IntegersFind}
use Rattle.ns_world.specs.declared.kernel_parts.DataRow.{DataRow}
use Rattle.ns_world.specs.declared.kernel_parts.KMethod.{KMethod}
use Rattle.ns_world.specs.declared.kernel_parts.IntRow.{IntRow}
use Rattle.ns_world.specs.declared.kernel_row.Row.{Row}
use Rattle.ns_world.specs.declared.kernel_row.Row.TheVariants.{Data, Integer, Top, Facet, Mirror, Method as MethodRow, Apply, Value, ValueWithArguments, NumArgs}
use Rattle.ns_world.specs.KernelTable.{row_at, row_called}
use Rattle.ns_machine_plan.specs.Arrays.{data_of, FindsArray}
use Rattle.ns_machine_plan.specs.Arrays.{row_of_send as array_row_of_send}
use Rattle.ns_machine_plan.specs.Booleans.{method_of, method_of_send, FindsBoolean}
use Rattle.ns_machine_plan.specs.Integers.{integer_of, row_found, row_of_send, FindsThatRow, FindsInteger}

integer_is : (r : Row) (row : IntRow) → integer_of r ≡ Some row → r ≡ Integer row
integer_is (Integer one) row is = ap Integer (same_Some one row is)
integer_is (Data other) row is = absurd (none-some row is)
integer_is Top row is = absurd (none-some row is)
integer_is (Facet other) row is = absurd (none-some row is)
integer_is (Mirror other) row is = absurd (none-some row is)
integer_is (MethodRow other) row is = absurd (none-some row is)
integer_is Apply row is = absurd (none-some row is)
integer_is Value row is = absurd (none-some row is)
integer_is ValueWithArguments row is = absurd (none-some row is)
integer_is NumArgs row is = absurd (none-some row is)

method_is : (r : Row) (method : KMethod) → method_of r ≡ Some method → r ≡ MethodRow method
method_is (MethodRow one) method is = ap MethodRow (same_Some one method is)
method_is (Integer other) method is = absurd (none-some method is)
method_is (Data other) method is = absurd (none-some method is)
method_is Top method is = absurd (none-some method is)
method_is (Facet other) method is = absurd (none-some method is)
method_is (Mirror other) method is = absurd (none-some method is)
method_is Apply method is = absurd (none-some method is)
method_is Value method is = absurd (none-some method is)
method_is ValueWithArguments method is = absurd (none-some method is)
method_is NumArgs method is = absurd (none-some method is)

data_is : (r : Row) (row : DataRow) → data_of r ≡ Some row → r ≡ Data row
data_is (Data one) row is = ap Data (same_Some one row is)
data_is (Integer other) row is = absurd (none-some row is)
data_is Top row is = absurd (none-some row is)
data_is (Facet other) row is = absurd (none-some row is)
data_is (Mirror other) row is = absurd (none-some row is)
data_is (MethodRow other) row is = absurd (none-some row is)
data_is Apply row is = absurd (none-some row is)
data_is Value row is = absurd (none-some row is)
data_is ValueWithArguments row is = absurd (none-some row is)
data_is NumArgs row is = absurd (none-some row is)

-- the row of a name is found by its text
name_is : (code : CodeProgram) (number : ℕ) (text : List ℕ) → slice_get code.names number ≡ Some text → selector_text code number ≡ text
name_is code number text is =
    ap (λ b. cond b (get_or code.names number []) (own_text_at (number - length code.names)))
    (lt-ltb number (length code.names) (slice_get_within code.names number text is))
    ∙ get_or_from_slice_get code.names number text [] is

-- what a class finds by the texts of its rows is what is asked for of the row that a selector spells
module _ {A : Type 0} (of : Row → Option A) (to : A → Row) (is_of : (r : Row) (one : A) → of r ≡ Some one → r ≡ to one) (heap : Heap) (code : CodeProgram)
    (kernel : KernelRow) (sel : Sel) (kind : Sending)
    (find : (number : ℕ) → row_called kernel (selector_text code sel.0) ≡ Some number
    → found_from heap code (start.Kernel kernel) sel.0 kind ≡ Kernel number) (one : A) where
  by_number : (number : Option ℕ) → row_called kernel (selector_text code sel.0) ≡ number → row_found of number ≡ Some one
      → FindsThatRow heap code kernel sel kind (to one)
  by_number None spelled is = absurd (none-some one is)
  by_number (Some number) spelled is = record { number = number; found = find number spelled; row_is = is_of (row_at number) one is }

  by_name : (name : Option (List ℕ)) → slice_get code.names sel.0 ≡ name
      → option_map_or (λ text. row_found of (row_called kernel text)) name None ≡ Some one → FindsThatRow heap code kernel sel kind (to one)
  by_name None there is = absurd (none-some one is)
  by_name (Some text) there is =
      by_number (row_called kernel (selector_text code sel.0)) refl
      (ap (λ (t : List ℕ). row_found of (row_called kernel t)) (name_is code sel.0 text there) ∙ is)

pub integers_find : (heap : Heap) (code : CodeProgram) (sel : Sel) (kind : Sending) (row : IntRow) → IntegersFind heap code sel.0 kind
    → row_of_send code sel ≡ Some row → FindsInteger heap code sel kind row
integers_find heap code sel kind row find is =
    by_name integer_of Integer integer_is heap code class.Integer sel kind find row (slice_get code.names sel.0) refl is

pub booleans_find : (heap : Heap) (code : CodeProgram) (sel : Sel) (kind : Sending) (method : KMethod) → BooleansFind heap code sel.0 kind
    → method_of_send code sel ≡ Some method → FindsBoolean heap code sel kind method
booleans_find heap code sel kind method find is =
    by_name method_of MethodRow method_is heap code class.Boolean sel kind find method (slice_get code.names sel.0) refl is

pub arrays_find : (heap : Heap) (code : CodeProgram) (sel : Sel) (kind : Sending) (row : DataRow) → ArraysFind heap code sel.0 kind
    → array_row_of_send code sel ≡ Some row → FindsArray heap code sel kind row
arrays_find heap code sel kind row find is =
    by_name data_of Data data_is heap code class.Array sel kind find row (slice_get code.names sel.0) refl is
