-- The world that a facet's row leaves is lawful.
use Rattle.std.proofs.Common.{◌≡◌, List, [], ◌∷◌, ◌++◌, refl, Option, Some, None, ℕ, Bool, true, false, cond}
use Rattle.std.specs.Fmt.{signed_decimal}
use Rattle.ns_code.specs.declared.program.CodeProgram.{CodeProgram}
use Rattle.ns_code.specs.Selector.{selector_text}
use Rattle.ns_world.specs.declared.value.Value.{Value}
use Rattle.ns_world.specs.declared.value.Value.TheVariants as value
use Rattle.ns_world.specs.World.{World, printed}
use Rattle.ns_world.specs.Lawful.{IsLawful}
use Rattle.ns_world.specs.laws.Charging.{print_keeps}
use Rattle.ns_kdata.specs.Outcome.{Fails, wrong_kind}
use Rattle.ns_kdata.specs.Arguments.{is_text, bytes_of}
use Rattle.ns_kdata.specs.Lawful.{LeavesLawful}
use Rattle.ns_kdata.specs.laws.Leaving.{unchanged_lawful}
use Rattle.ns_facets.specs.declared.board.Board.{Board}
use Rattle.ns_world.specs.declared.kernel_parts.FacetRow.{FacetRow}
use Rattle.ns_world.specs.declared.kernel_parts.FacetRow.TheVariants as row
use Rattle.ns_facets.specs.Board.{board_at, board_put}
use Rattle.ns_facets.specs.Console.{printed_as, printed_bytes, printed_text, printing}
use Rattle.ns_facets.specs.Facet.{row_outcome}

bytes_lawful : (world : World) (code : CodeProgram) (bytes : List ℕ) → IsLawful world code → LeavesLawful code (printed_bytes world bytes)
bytes_lawful world code bytes lawful = found (printed world bytes) refl
  where
    found : (o : Option World) → printed world bytes ≡ o → LeavesLawful code (printed_as o)
    found (Some after) e = print_keeps world after code bytes lawful e
    found None e = tt

text_lawful : (world : World) (code : CodeProgram) (text : Value) (tail : List ℕ) → IsLawful world code →
    LeavesLawful code (printed_text world text tail)
text_lawful world code text tail lawful = tested (is_text world.cells text)
  where
    tested : (b : Bool) → LeavesLawful code (cond b (printed_bytes world (bytes_of world.cells text ++ tail)) (Fails wrong_kind))
    tested true = bytes_lawful world code (bytes_of world.cells text ++ tail) lawful
    tested false = tt

printing_lawful : (world : World) (code : CodeProgram) (shown : Value) (tail : List ℕ) → IsLawful world code →
    LeavesLawful code (printing world code shown tail)
printing_lawful world code (value.Int number) tail lawful = bytes_lawful world code (signed_decimal number ++ tail) lawful
printing_lawful world code (value.Sym sel) tail lawful = bytes_lawful world code (selector_text code sel.0 ++ tail) lawful
printing_lawful world code value.Nil tail lawful = text_lawful world code value.Nil tail lawful
printing_lawful world code value.True tail lawful = text_lawful world code value.True tail lawful
printing_lawful world code value.False tail lawful = text_lawful world code value.False tail lawful
printing_lawful world code (value.Kernel class) tail lawful = text_lawful world code (value.Kernel class) tail lawful
printing_lawful world code (value.Ref at) tail lawful = text_lawful world code (value.Ref at) tail lawful

-- each row leaves a lawful world: it prints, or changes nothing
pub rows_lawful : (world : World) (code : CodeProgram) (row : FacetRow) (first second : Value) (board : Board) → IsLawful world code →
    LeavesLawful code (row_outcome world code row first second board)
rows_lawful world code (row.Top sel) first second board lawful = lawful
rows_lawful world code row.PlatformConsole first second board lawful = lawful
rows_lawful world code row.PlatformKernel first second board lawful = lawful
rows_lawful world code row.PlatformMirrors first second board lawful = lawful
rows_lawful world code row.PlatformBoard first second board lawful = lawful
rows_lawful world code row.KernelObject first second board lawful = lawful
rows_lawful world code row.KernelArray first second board lawful = lawful
rows_lawful world code row.ConsolePrint first second board lawful = printing_lawful world code first [] lawful
rows_lawful world code row.ConsolePrintLine first second board lawful = printing_lawful world code first (10 ∷ []) lawful
rows_lawful world code row.BoardAt first second board lawful = unchanged_lawful world code (board_at board first) lawful
rows_lawful world code row.BoardPut first second board lawful = unchanged_lawful world code (board_put first second) lawful
