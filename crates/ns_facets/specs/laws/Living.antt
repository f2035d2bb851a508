-- What a facet's row answers is live.
use Rattle.std.proofs.Common.{◌≡◌, ℕ, ◌+◌, List, [], ◌∷◌, ◌++◌, refl, ap, sym, ◌∙◌, Option, Some, None, Bool, true, false, cond, eqb, ◌&&◌}
use Rattle.std.specs.Prelude.{Result, Ok, Err, IfOk, is_none}
use Rattle.std.specs.List.{slice_index_or}
use Rattle.std.specs.Fmt.{signed_decimal}
use Rattle.ns_base.specs.declared.selector.Sel.{Sel}
use Rattle.ns_code.specs.declared.program.CodeProgram.{CodeProgram}
use Rattle.ns_code.specs.declared.class.ClassCode.{ClassCode}
use Rattle.ns_code.specs.Selector.{selector_text}
use Rattle.ns_world.specs.declared.value.Value.{Value}
use Rattle.ns_world.specs.declared.value.Value.TheVariants as value
use Rattle.ns_world.specs.declared.ending.Fault.{Fault}
use Rattle.ns_world.specs.declared.cell.FacetKind.{FacetKind}
use Rattle.ns_world.specs.declared.cell.FacetKind.TheVariants.{Console, Kernel, Mirrors, Board as BoardFacet}
use Rattle.ns_world.specs.Cell.{Cell, ObjectCell, ClassCell, BlockCell, EnvironmentCell, ArrayCell, TextCell, FacetCell, MirrorCell, MessageCell}
use Rattle.ns_world.specs.Heap.{Heap, heap_size, find_cell}
use Rattle.ns_world.specs.Seek.{first_such, earlier_or, is_facet, is_top}
use Rattle.ns_world.specs.Starts.{is_receiver_cell}
use Rattle.ns_world.specs.World.{World, printed}
use Rattle.ns_world.specs.Lawful.{IsLiveValue}
use Rattle.ns_world.specs.laws.Changing.{found_new}
use Rattle.ns_world.specs.laws.Chains.{found_below, found_in_more}
use Rattle.ns_kdata.specs.Outcome.{Fails, wrong_kind}
use Rattle.ns_kdata.specs.Arguments.{is_text, bytes_of, place_in}
use Rattle.ns_kdata.specs.Living.{AnswersLive}
use Rattle.ns_kdata.specs.laws.LivingValues.{unchanged_live}
use Rattle.ns_facets.specs.declared.board.Plain.{Plain}
use Rattle.ns_facets.specs.declared.board.Plain.TheVariants.{Nil, True, False, Int}
use Rattle.ns_facets.specs.declared.board.Board.{Board}
use Rattle.ns_world.specs.declared.kernel_parts.FacetRow.{FacetRow}
use Rattle.ns_world.specs.declared.kernel_parts.FacetRow.TheVariants as row
use Rattle.ns_facets.specs.Board.{value_of, plain_of, value_at_place, answer_of_put, board_at, board_put}
use Rattle.ns_facets.specs.Console.{printed_as, printed_bytes, printing}
use Rattle.ns_facets.specs.Platform.{cell_value, top_class, granted}
use Rattle.ns_facets.specs.Facet.{row_outcome}

-- A cell of that number passes a test.
abbrev Passes : (Cell → Bool) → Heap → ℕ → Type 0
Passes test heap number = (cell : Cell) × (find_cell heap number ≡ Some cell) × (test cell ≡ true)

-- the first cell that passes a test is there, and passes it
first_passes : (test : Cell → Bool) (heap : Heap) (number : ℕ) → first_such test heap ≡ Some number → Passes test heap number
first_passes test [] number e = absurd (cc)
first_passes test (cell ∷ earlier) number e = tested (first_such test earlier) refl (test cell) refl e (first_passes test earlier)
  where
    more : (n : ℕ) → Passes test earlier n → Passes test (cell ∷ earlier) n
    more n (found, is, passes) = (found, found_in_more cell earlier n (found_below earlier n found is) ∙ is, passes)

    tested : (o : Option ℕ) → first_such test earlier ≡ o → (b : Bool) → test cell ≡ b → earlier_or o (cond b (Some (heap_size earlier)) None) ≡ Some number → ((n : ℕ) → first_such test earlier ≡ Some n → Passes test earlier n) → Passes test (cell ∷ earlier) number
    tested (Some n) f b t e below = let is : n ≡ number = cc in more number (below number (f ∙ ap Some is))
    tested None f true t e below =
        let is : heap_size earlier ≡ number = cc in
        (cell, ap (find_cell (cell ∷ earlier)) (sym is) ∙ found_new earlier cell, t)
    tested None f false t e below = absurd (cc)

facet_receiver : (kind : FacetKind) (cell : Cell) → is_facet kind cell ≡ true → is_receiver_cell (Some cell) ≡ true
facet_receiver kind (ObjectCell class entries) e = refl
facet_receiver kind (ClassCell decl base encl holder over) e = refl
facet_receiver kind (BlockCell body env home receiver holder) e = refl
facet_receiver kind (EnvironmentCell parent locals) e = absurd (cc)
facet_receiver kind (ArrayCell items) e = refl
facet_receiver kind (TextCell bytes) e = refl
facet_receiver kind (FacetCell kind') e = refl
facet_receiver kind (MirrorCell mirrored) e = refl
facet_receiver kind (MessageCell sel args) e = refl

top_receiver : (number : ℕ) (cell : Cell) → is_top number cell ≡ true → is_receiver_cell (Some cell) ≡ true
top_receiver number (ObjectCell class entries) e = refl
top_receiver number (ClassCell decl base encl holder over) e = refl
top_receiver number (BlockCell body env home receiver holder) e = refl
top_receiver number (EnvironmentCell parent locals) e = absurd (cc)
top_receiver number (ArrayCell items) e = refl
top_receiver number (TextCell bytes) e = refl
top_receiver number (FacetCell kind') e = refl
top_receiver number (MirrorCell mirrored) e = refl
top_receiver number (MessageCell sel args) e = refl

cell_live : (heap : Heap) (code : CodeProgram) (test : Cell → Bool) →
    ((cell : Cell) → test cell ≡ true → is_receiver_cell (Some cell) ≡ true) → (o : Option ℕ) → first_such test heap ≡ o →
    IsLiveValue heap code (cell_value o)
cell_live heap code test receives None e = (tt, refl)
cell_live heap code test receives (Some number) e = found (first_passes test heap number e)
  where
    found : Passes test heap number → IsLiveValue heap code (value.Ref number)
    found (cell, is, passes) = (rw is refl, rw is (receives cell passes))

granted_live : (heap : Heap) (code : CodeProgram) (kind : FacetKind) → IsLiveValue heap code (granted heap kind)
granted_live heap code kind = cell_live heap code (is_facet kind) (facet_receiver kind) (first_such (is_facet kind) heap) refl

top_live : (heap : Heap) (code : CodeProgram) (number : ℕ) (classes : List ClassCode) (sel : Sel) →
    IsLiveValue heap code (top_class heap number classes sel)
top_live heap code number [] sel = (tt, refl)
top_live heap code number (class ∷ classes) sel =
    tested (eqb sel.0 class.name.0 && is_none class.outer) (cell_live heap code (is_top number) (top_receiver number) (first_such (is_top number) heap) refl) (top_live heap code (number + 1) classes sel)
  where
    tested : (b : Bool) → IsLiveValue heap code (cell_value (first_such (is_top number) heap)) → IsLiveValue heap code (top_class heap (number + 1) classes sel) → IsLiveValue heap code (cond b (cell_value (first_such (is_top number) heap)) (top_class heap (number + 1) classes sel))
    tested true here rest = here
    tested false here rest = rest

print_live : (code : CodeProgram) (o : Option World) → AnswersLive code (printed_as o)
print_live code (Some next) = (tt, refl)
print_live code None = tt

text_live : (world : World) (code : CodeProgram) (bytes : List ℕ) (b : Bool) →
    AnswersLive code (cond b (printed_bytes world bytes) (Fails wrong_kind))
text_live world code bytes true = print_live code (printed world bytes)
text_live world code bytes false = tt

printing_live : (world : World) (code : CodeProgram) (shown : Value) (tail : List ℕ) → AnswersLive code (printing world code shown tail)
printing_live world code value.Nil tail = text_live world code (bytes_of world.cells value.Nil ++ tail) (is_text world.cells value.Nil)
printing_live world code value.True tail = text_live world code (bytes_of world.cells value.True ++ tail) (is_text world.cells value.True)
printing_live world code value.False tail =
    text_live world code (bytes_of world.cells value.False ++ tail) (is_text world.cells value.False)
printing_live world code (value.Int number) tail = print_live code (printed world (signed_decimal number ++ tail))
printing_live world code (value.Sym sel) tail = print_live code (printed world (selector_text code sel.0 ++ tail))
printing_live world code (value.Kernel class) tail =
    text_live world code (bytes_of world.cells (value.Kernel class) ++ tail) (is_text world.cells (value.Kernel class))
printing_live world code (value.Ref at) tail =
    text_live world code (bytes_of world.cells (value.Ref at) ++ tail) (is_text world.cells (value.Ref at))

plain_live : (heap : Heap) (code : CodeProgram) (plain : Plain) → IsLiveValue heap code (value_of plain)
plain_live heap code Nil = (tt, refl)
plain_live heap code True = (tt, refl)
plain_live heap code False = (tt, refl)
plain_live heap code (Int number) = (tt, refl)

place_live : (heap : Heap) (code : CodeProgram) (places : List Plain) (place : Result ℕ Fault) →
    IfOk (value_at_place places place) (λ v. IsLiveValue heap code v)
place_live heap code places (Ok place) = plain_live heap code (slice_index_or places place Nil)
place_live heap code places (Err fault) = tt

put_live : (heap : Heap) (code : CodeProgram) (place : Result ℕ Fault) (shown : Value) →
    IfOk (answer_of_put place (plain_of shown) shown) (λ v. IsLiveValue heap code v)
put_live heap code (Err fault) shown = tt
put_live heap code (Ok place) value.Nil = (tt, refl)
put_live heap code (Ok place) value.True = (tt, refl)
put_live heap code (Ok place) value.False = (tt, refl)
put_live heap code (Ok place) (value.Int number) = (tt, refl)
put_live heap code (Ok place) (value.Sym sel) = tt
put_live heap code (Ok place) (value.Kernel class) = tt
put_live heap code (Ok place) (value.Ref at) = tt

-- each row's answer is live
pub rows_live : (world : World) (code : CodeProgram) (row : FacetRow) (first second : Value) (board : Board) →
    AnswersLive code (row_outcome world code row first second board)
rows_live world code (row.Top sel) first second board = top_live world.cells code 0 code.classes sel
rows_live world code row.PlatformConsole first second board = granted_live world.cells code Console
rows_live world code row.PlatformKernel first second board = granted_live world.cells code Kernel
rows_live world code row.PlatformMirrors first second board = granted_live world.cells code Mirrors
rows_live world code row.PlatformBoard first second board = granted_live world.cells code BoardFacet
rows_live world code row.KernelObject first second board = (tt, refl)
rows_live world code row.KernelArray first second board = (tt, refl)
rows_live world code row.ConsolePrint first second board = printing_live world code first []
rows_live world code row.ConsolePrintLine first second board = printing_live world code first (10 ∷ [])
rows_live world code row.BoardAt first second board =
    unchanged_live world code (board_at board first) (place_live world.cells code board.places (place_in first 64))
rows_live world code row.BoardPut first second board =
    unchanged_live world code (board_put first second) (put_live world.cells code (place_in first 64) second)
