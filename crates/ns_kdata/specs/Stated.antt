-- What the laws say of the rows of data.
use Rattle.std.specs.Prelude.{◌≡◌, Some, IsTrue}
use Rattle.ns_code.specs.declared.program.CodeProgram.{CodeProgram}
use Rattle.ns_world.specs.declared.value.Value.{Value}
use Rattle.ns_world.specs.Cell.{Cell, shape_of}
use Rattle.ns_world.specs.Heap.{has_superclass}
use Rattle.ns_world.specs.World.{World, made}
use Rattle.ns_world.specs.Lawful.{IsLawful, IsLiveValue}
use Rattle.ns_world.specs.Keeping.{MayBeMade}
use Rattle.ns_world.specs.declared.kernel_parts.DataRow.{DataRow}
use Rattle.ns_kdata.specs.Datum.{row_outcome}
use Rattle.ns_kdata.specs.Living.{AnswersLive}
use Rattle.ns_kdata.specs.Lawful.{MayHold, LeavesLawful}

-- A row in a lawful world answers a live value, where the value that `at:put:` stores is live.
abbrev pub DataIsLive : Type 0
DataIsLive =
    (world : World) (code : CodeProgram) (row : DataRow) (receiver first second : Value) → IsLawful world code
    → IsLiveValue world.cells code second → AnswersLive code (row_outcome world code row receiver first second)

-- So it leaves a lawful world.
abbrev pub RowsKeepLawful : Type 0
RowsKeepLawful =
    (world : World) (code : CodeProgram) (row : DataRow) (receiver first second : Value) → IsLawful world code
    → IsLiveValue world.cells code second → LeavesLawful code (row_outcome world code row receiver first second)

-- A lawful world in which a cell is made together with what it holds is lawful, where the cell may be made and may hold it.
abbrev pub FilledCellsKeepLawful : Type 0
FilledCellsKeepLawful =
    (world after : World) (code : CodeProgram) (cell : Cell) → IsLawful world code
    → IsTrue (has_superclass world.cells cell) → MayBeMade world.cells code (shape_of cell) → MayHold world.cells code cell
    → made world cell ≡ Some after → IsLawful after code
