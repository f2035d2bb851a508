-- Small examples of the table.
use Rattle.std.proofs.Common.{◌≡◌, refl, length, Some, None}
use Rattle.std.specs.Prelude.{codes}
use Rattle.ns_world.specs.declared.kernel_class.KernelRow.TheVariants as class
use Rattle.ns_world.specs.declared.kernel_parts.MirrorRow.TheVariants.{Perform}
use Rattle.ns_world.specs.declared.kernel_row.Row.TheVariants.{Top, Apply, Value, Mirror}
use Rattle.ns_world.specs.KernelTable.{all_lines, row_at, first_of, row_called}

all_rows_are_81 : length all_lines ≡ 81
all_rows_are_81 = refl

sums_are_row_20 : row_called class.Integer (codes "+") ≡ Some 20
sums_are_row_20 = refl

value_is_the_first_of_block : row_called class.Block (codes "value") ≡ Some (first_of class.Block)
value_is_the_first_of_block = refl

values_with_an_argument_are_the_next : row_called class.Block (codes "value:") ≡ Some 53
values_with_an_argument_are_the_next = refl

booleans_do_not_add : row_called class.Boolean (codes "+") ≡ None
booleans_do_not_add = refl

no_text_calls_manifest : row_called class.Manifest (codes "") ≡ None
no_text_calls_manifest = refl

manifest_has_one : row_at (first_of class.Manifest) ≡ Top
manifest_has_one = refl

blocks_have_values : row_at 53 ≡ Value
blocks_have_values = refl

mirrors_perform : row_at 78 ≡ Mirror Perform
mirrors_perform = refl

no_row_is_beyond : row_at 81 ≡ Apply
no_row_is_beyond = refl
