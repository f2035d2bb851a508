-- What each row of a facet comes to, by its arguments.
use Rattle.std.specs.Prelude.{List, [], ◌∷◌}
use Rattle.ns_code.specs.declared.program.CodeProgram.{CodeProgram}
use Rattle.ns_world.specs.declared.value.Value.{Value}
use Rattle.ns_world.specs.declared.value.Value.TheVariants as value
use Rattle.ns_world.specs.declared.value.KClass.TheVariants as class
use Rattle.ns_world.specs.declared.cell.FacetKind.TheVariants.{Console, Kernel, Mirrors, Board as BoardFacet}
use Rattle.ns_world.specs.World.{World}
use Rattle.ns_kdata.specs.Outcome.{RowOutcome, Answers, unchanged}
use Rattle.ns_kdata.specs.Arguments.{argument}
use Rattle.ns_facets.specs.declared.board.Board.{Board}
use Rattle.ns_world.specs.declared.kernel_parts.FacetRow.{FacetRow}
use Rattle.ns_world.specs.declared.kernel_parts.FacetRow.TheVariants as row
use Rattle.ns_facets.specs.Board.{board_at, board_put, board_with}
use Rattle.ns_facets.specs.Console.{printing}
use Rattle.ns_facets.specs.Platform.{top_class, granted}

-- the outcome of each row, by its first two arguments
abbrev pub row_outcome : World → CodeProgram → FacetRow → Value → Value → Board → RowOutcome
row_outcome world code (row.Top sel) first second board = Answers (top_class world.cells 0 code.classes sel) world
row_outcome world code row.PlatformConsole first second board = Answers (granted world.cells Console) world
row_outcome world code row.PlatformKernel first second board = Answers (granted world.cells Kernel) world
row_outcome world code row.PlatformMirrors first second board = Answers (granted world.cells Mirrors) world
row_outcome world code row.PlatformBoard first second board = Answers (granted world.cells BoardFacet) world
row_outcome world code row.KernelObject first second board = Answers (value.Kernel class.Object) world
row_outcome world code row.KernelArray first second board = Answers (value.Kernel class.Array) world
row_outcome world code row.ConsolePrint first second board = printing world code first []
row_outcome world code row.ConsolePrintLine first second board = printing world code first (10 ∷ [])
row_outcome world code row.BoardAt first second board = unchanged world (board_at board first)
row_outcome world code row.BoardPut first second board = unchanged world (board_put first second)

-- the board after a row: `at:put:` alone changes it
abbrev pub row_board : FacetRow → Value → Value → Board → Board
row_board row.BoardPut first second board = board_with board first second
row_board other first second board = board

-- the outcome of a row with a list of arguments, and the board after it
abbrev pub facet : World → CodeProgram → FacetRow → List Value → Board → RowOutcome
facet world code row args board = row_outcome world code row (argument args 0) (argument args 1) board

abbrev pub board_after : FacetRow → List Value → Board → Board
board_after row args board = row_board row (argument args 0) (argument args 1) board
