-- Rows that give a value at once.
use Rattle.std.specs.Prelude.{◌≡◌}
use Rattle.ns_code.specs.declared.program.CodeProgram.{CodeProgram}
use Rattle.ns_world.specs.declared.value.Value.{Value}
use Rattle.ns_world.specs.Heap.{Heap}
use Rattle.ns_world.specs.World.{World}
use Rattle.ns_world.specs.declared.kernel_parts.DataRow.{DataRow}
use Rattle.ns_kdata.specs.Outcome.{Answers}
use Rattle.ns_kdata.specs.Datum.{row_outcome}

-- The row gives the value and changes nothing, in each world with these cells and whatever its second argument is.
abbrev pub GivesAtOnce : Heap → CodeProgram → DataRow → Value → Value → Value → Type 0
GivesAtOnce heap code row receiver first value =
    (world : World) (second : Value) → world.cells ≡ heap → row_outcome world code row receiver first second ≡ Answers value world
