-- Rows of facets lead to worlds of which something holds that more output allows.
use Rattle.std.proofs.Common.{◌≡◌, ℕ, List, [], ◌∷◌, ◌++◌, refl, Option, Some, None, Bool, true, false, cond}
use Rattle.std.specs.Fmt.{signed_decimal}
use Rattle.ns_code.specs.declared.program.CodeProgram.{CodeProgram}
use Rattle.ns_code.specs.Selector.{selector_text}
use Rattle.ns_world.specs.declared.value.Value.{Value}
use Rattle.ns_world.specs.declared.value.Value.TheVariants as value
use Rattle.ns_world.specs.World.{World, printed}
use Rattle.ns_kdata.specs.Outcome.{Fails, wrong_kind}
use Rattle.ns_kdata.specs.Arguments.{is_text, bytes_of}
use Rattle.ns_facets.specs.declared.board.Board.{Board}
use Rattle.ns_world.specs.declared.kernel_parts.FacetRow.{FacetRow}
use Rattle.ns_world.specs.declared.kernel_parts.FacetRow.TheVariants as row
use Rattle.ns_facets.specs.Board.{board_at, board_put}
use Rattle.ns_facets.specs.Console.{printed_as, printed_bytes, printing}
use Rattle.ns_facets.specs.Facet.{row_outcome}
use Rattle.ns_world.specs.Later.{IsLater}
use Rattle.ns_kdata.specs.Leading.{HoldsAfter}
use Rattle.ns_kdata.specs.laws.Leading.{Allows, allows_later, unchanged_leads}

print_leads : (holds : World → Type 0) (world : World) (may : Allows holds world) (bytes : List ℕ) (o : Option World) →
    printed world bytes ≡ o → HoldsAfter holds (printed_as o)
print_leads holds world may bytes (Some after) e = may.output after bytes e
print_leads holds world may bytes None e = tt

bytes_lead : (holds : World → Type 0) (world : World) (may : Allows holds world) (bytes : List ℕ) →
    HoldsAfter holds (printed_bytes world bytes)
bytes_lead holds world may bytes = print_leads holds world may bytes (printed world bytes) refl

text_leads : (holds : World → Type 0) (world : World) (may : Allows holds world) (bytes : List ℕ) (b : Bool) →
    HoldsAfter holds (cond b (printed_bytes world bytes) (Fails wrong_kind))
text_leads holds world may bytes true = bytes_lead holds world may bytes
text_leads holds world may bytes false = tt

shown_leads : (holds : World → Type 0) (world : World) (may : Allows holds world) (code : CodeProgram) (shown : Value) (tail : List ℕ) →
    HoldsAfter holds (printing world code shown tail)
shown_leads holds world may code (value.Int number) tail = bytes_lead holds world may (signed_decimal number ++ tail)
shown_leads holds world may code (value.Sym sel) tail = bytes_lead holds world may (selector_text code sel.0 ++ tail)
shown_leads holds world may code value.Nil tail =
    text_leads holds world may (bytes_of world.cells value.Nil ++ tail) (is_text world.cells value.Nil)
shown_leads holds world may code value.True tail =
    text_leads holds world may (bytes_of world.cells value.True ++ tail) (is_text world.cells value.True)
shown_leads holds world may code value.False tail =
    text_leads holds world may (bytes_of world.cells value.False ++ tail) (is_text world.cells value.False)
shown_leads holds world may code (value.Kernel class) tail =
    text_leads holds world may (bytes_of world.cells (value.Kernel class) ++ tail) (is_text world.cells (value.Kernel class))
shown_leads holds world may code (value.Ref at) tail =
    text_leads holds world may (bytes_of world.cells (value.Ref at) ++ tail) (is_text world.cells (value.Ref at))

-- the rows of facets write no cell
pub facet_leads :
    (holds : World → Type 0) (world : World) (may : Allows holds world) (code : CodeProgram) (r : FacetRow) (first second : Value) (board : Board) →
    HoldsAfter holds (row_outcome world code r first second board)
facet_leads holds world may code (row.Top sel) first second board = may.same
facet_leads holds world may code row.PlatformConsole first second board = may.same
facet_leads holds world may code row.PlatformKernel first second board = may.same
facet_leads holds world may code row.PlatformMirrors first second board = may.same
facet_leads holds world may code row.PlatformBoard first second board = may.same
facet_leads holds world may code row.KernelObject first second board = may.same
facet_leads holds world may code row.KernelArray first second board = may.same
facet_leads holds world may code row.ConsolePrint first second board = shown_leads holds world may code first []
facet_leads holds world may code row.ConsolePrintLine first second board = shown_leads holds world may code first (10 ∷ [])
facet_leads holds world may code row.BoardAt first second board = unchanged_leads holds world may (board_at board first)
facet_leads holds world may code row.BoardPut first second board = unchanged_leads holds world may (board_put first second)

-- so each leads to a later world
pub rows_lead_on : (world : World) (code : CodeProgram) (r : FacetRow) (first second : Value) (board : Board) →
    HoldsAfter (IsLater world) (row_outcome world code r first second board)
rows_lead_on world code r first second board = facet_leads (IsLater world) world (allows_later world) code r first second board
