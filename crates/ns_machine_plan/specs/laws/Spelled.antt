-- What the row of a step says of its selector.
use Rattle.std.proofs.Common.{◌≡◌, ℕ, List, Option, Some, None}
use Rattle.std.specs.Prelude.{slice_get}
use Rattle.std.specs.Option.{option_map_or}
use Rattle.ns_base.specs.declared.selector.Sel.{Sel}
use Rattle.ns_code.specs.declared.program.CodeProgram.{CodeProgram}
use Rattle.ns_world.specs.declared.kernel_parts.DataRow.{DataRow}
use Rattle.ns_world.specs.declared.kernel_parts.KMethod.{KMethod}
use Rattle.ns_world.specs.declared.kernel_parts.IntRow.{IntRow}
use Rattle.ns_machine_plan.specs.declared.step.SpelledRow.TheVariants.{Integer, Boolean, Array}
use Rattle.ns_machine_plan.specs.Arrays.{row_of_text as array_row_of_text, row_of_send as array_row_of_send}
use Rattle.ns_machine_plan.specs.Booleans.{method_of_text, method_of_send}
use Rattle.ns_machine_plan.specs.Integers.{row_of_text, row_of_send}
use Rattle.ns_machine_plan.specs.Spelled.{first_row, spelled_by_text, spelled_by}

integer_first : (one : Option IntRow) (other : Option KMethod) (third : Option DataRow) (row : IntRow) → first_row one other third ≡ Some (Integer row) →
    one ≡ Some row
integer_first (Some here) other third row is = cc
integer_first None (Some method) third row is = absurd (cc)
integer_first None None (Some array) row is = absurd (cc)
integer_first None None None row is = absurd (cc)

boolean_first : (one : Option IntRow) (other : Option KMethod) (third : Option DataRow) (method : KMethod) → first_row one other third ≡ Some (Boolean method) →
    other ≡ Some method
boolean_first (Some here) other third method is = absurd (cc)
boolean_first None (Some here) third method is = cc
boolean_first None None (Some array) method is = absurd (cc)
boolean_first None None None method is = absurd (cc)

array_first : (one : Option IntRow) (other : Option KMethod) (third : Option DataRow) (row : DataRow) → first_row one other third ≡ Some (Array row) →
    third ≡ Some row
array_first (Some here) other third row is = absurd (cc)
array_first None (Some method) third row is = absurd (cc)
array_first None None (Some here) row is = cc
array_first None None None row is = absurd (cc)

-- It is the row of Integer of the selector.
pub integer_spelled : (code : CodeProgram) (sel : Sel) (row : IntRow) → spelled_by code sel ≡ Some (Integer row) →
    row_of_send code sel ≡ Some row
integer_spelled code sel row is = by_name (slice_get code.names sel.0) is
  where
    by_name : (name : Option (List ℕ)) → option_map_or spelled_by_text name None ≡ Some (Integer row) → option_map_or row_of_text name None ≡ Some row
    by_name None is = absurd (cc)
    by_name (Some text) is = integer_first (row_of_text text) (method_of_text text) (array_row_of_text text) row is

-- Or it is the method of Boolean of the selector.
pub boolean_spelled : (code : CodeProgram) (sel : Sel) (method : KMethod) → spelled_by code sel ≡ Some (Boolean method) →
    method_of_send code sel ≡ Some method
boolean_spelled code sel method is = by_name (slice_get code.names sel.0) is
  where
    by_name : (name : Option (List ℕ)) → option_map_or spelled_by_text name None ≡ Some (Boolean method) → option_map_or method_of_text name None ≡ Some method
    by_name None is = absurd (cc)
    by_name (Some text) is = boolean_first (row_of_text text) (method_of_text text) (array_row_of_text text) method is

-- Or it is the row of Array of the selector.
pub array_spelled : (code : CodeProgram) (sel : Sel) (row : DataRow) → spelled_by code sel ≡ Some (Array row) →
    array_row_of_send code sel ≡ Some row
array_spelled code sel row is = by_name (slice_get code.names sel.0) is
  where
    by_name : (name : Option (List ℕ)) → option_map_or spelled_by_text name None ≡ Some (Array row) → option_map_or array_row_of_text name None ≡ Some row
    by_name None is = absurd (cc)
    by_name (Some text) is = array_first (row_of_text text) (method_of_text text) (array_row_of_text text) row is
