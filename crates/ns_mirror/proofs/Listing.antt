-- Writing values one after another fills a new array.
use Rattle.std.proofs.Common.{◌≡◌, ℕ, suc, ◌+◌, List, [], ◌∷◌, ◌++◌, length, set, refl, ap, sym, ◌∙◌, arith, Option, Some, None, Bool, true, false, eqb, length-set, append_assoc, length-append}
use Rattle.std.specs.Option.{option_map_or}
use Rattle.std.proofs.lemmas.Bool.{eqb-true, eq-eqb}
use Rattle.ns_world.specs.declared.value.Value.{Value}
use Rattle.ns_world.specs.Cell.{Cell, ObjectCell, ClassCell, BlockCell, EnvironmentCell, ArrayCell, TextCell, FacetCell, MirrorCell, MessageCell, open_words, with_word}
use Rattle.ns_world.specs.Heap.{Heap, heap_size, find_cell, set_cell, write_word, open_words_at}
use Rattle.ns_world.specs.World.{World, WorldView, written}
use Rattle.ns_world.specs.laws.Changing.{writing_leaves, word_plainly, set_here}
use Rattle.ns_mirror.specs.Arrays.{listed}

words_with : (cell : Cell) (place : ℕ) (value : Value) → length (open_words (with_word cell place value)) ≡ length (open_words cell)
words_with (ObjectCell class entries) place value = length-set entries place value
words_with (EnvironmentCell parent locals) place value = length-set locals place value
words_with (ArrayCell items) place value = length-set items place value
words_with (ClassCell decl base encl holder over) place value = refl
words_with (BlockCell body env home receiver holder) place value = refl
words_with (TextCell bytes) place value = refl
words_with (FacetCell kind) place value = refl
words_with (MirrorCell mirrored) place value = refl
words_with (MessageCell sel args) place value = refl

size_here : (heap : Heap) (at place : ℕ) (value : Value) →
    length (open_words_at (write_word heap at place value) at) ≡ length (open_words_at heap at)
size_here heap at place value = found (find_cell heap at) refl
  where
    found : (o : Option Cell) → find_cell heap at ≡ o → length (open_words_at (option_map_or (λ cell. set_cell heap at (with_word cell place value)) o heap) at) ≡ length (option_map_or open_words o [])
    found None e = ap (λ o. length (option_map_or open_words o [])) e
    found (Some cell) e =
        ap (λ o. length (option_map_or open_words o [])) (set_here heap at cell (with_word cell place value) e ((word_plainly place value).size cell))
        ∙ words_with cell place value

-- each cell has as many words to write as before
pub sizes_stay : (heap : Heap) (at place number : ℕ) (value : Value) →
    length (open_words_at (write_word heap at place value) number) ≡ length (open_words_at heap number)
sizes_stay heap at place number value = tested (eqb number at) refl
  where
    tested : (b : Bool) → eqb number at ≡ b → length (open_words_at (write_word heap at place value) number) ≡ length (open_words_at heap number)
    tested true e =
        let is : number ≡ at = eqb-true number at e in
        ap (λ n. length (open_words_at (write_word heap at place value) n)) is ∙ (size_here heap at place value ∙ ap (λ n. length (open_words_at heap n)) (sym is))
    tested false e =
        ap (λ o. length (option_map_or open_words o [])) ((writing_leaves heap at place value).others number (λ q. let t : true ≡ false = sym (eq-eqb number at q) ∙ e in absurd (cc)))

write_newest : (heap : Heap) (items : List Value) (place : ℕ) (value : Value) →
    write_word (ArrayCell items ∷ heap) (heap_size heap) place value ≡ ArrayCell (set items place value) ∷ heap
write_newest heap items place value = rw (eq-eqb (heap_size heap) (heap_size heap) refl) refl

-- one part after another
pub listed_append : (view : WorldView) (to at : ℕ) (first second : List Value) →
    listed (listed view to at first) to (at + length first) second ≡ listed view to at (first ++ second)
listed_append view to at [] second = let e : at + 0 ≡ at = omega arith in ap (λ n. listed view to n second) e
listed_append view to at (value ∷ first) second =
    let next : WorldView = record view { world = written view.world to at value } in
    let e : at + suc (length first) ≡ (at + 1) + length first = omega arith in
    ap (λ n. listed (listed next to (at + 1) first) to n second) e ∙ listed_append next to (at + 1) first second

pub listed_sizes : (view : WorldView) (to at number : ℕ) (values : List Value) →
    length (open_words_at (listed view to at values).world.cells number) ≡ length (open_words_at view.world.cells number)
listed_sizes view to at number [] = refl
listed_sizes view to at number (value ∷ values) =
    let next : WorldView = record view { world = written view.world to at value } in
    listed_sizes next to (at + 1) number values ∙ sizes_stay view.world.cells to at number value

set_behind : (front rest : List Value) (old value : Value) → set (front ++ old ∷ rest) (length front) value ≡ front ++ value ∷ rest
set_behind [] rest old value = refl
set_behind (one ∷ front) rest old value = ap (λ vs. one ∷ vs) (set_behind front rest old value)

-- a view of a world with these cells
abbrev pub with_cells : World → ℕ → ℕ → Heap → WorldView
with_cells world cell_room out_room cells = record { world = record world { cells = cells }; cell_room = cell_room; out_room = out_room }

-- the newest array is filled from a place on to its end
pub lists : (world : World) (cell_room out_room : ℕ) (heap : Heap) (values front rest : List Value) → length rest ≡ length values →
    listed (with_cells world cell_room out_room (ArrayCell (front ++ rest) ∷ heap)) (heap_size heap) (length front) values ≡ with_cells world cell_room out_room (ArrayCell (front ++ values) ∷ heap)
lists world cell_room out_room heap [] front [] e = refl
lists world cell_room out_room heap [] front (old ∷ rest) e = absurd (omega (arith, e))
lists world cell_room out_room heap (value ∷ values) front [] e = absurd (omega (arith, e))
lists world cell_room out_room heap (value ∷ values) front (old ∷ rest) e =
    let view : Heap → WorldView = with_cells world cell_room out_room in
    let here : set (front ++ old ∷ rest) (length front) value ≡ (front ++ value ∷ []) ++ rest = set_behind front rest old value ∙ sym (append_assoc front (value ∷ []) rest) in
    let on : length front + 1 ≡ length (front ++ value ∷ []) = sym (length-append front (value ∷ [])) in
    let less : length rest ≡ length values = omega (arith, e) in
    ap (λ cells. listed (view cells) (heap_size heap) (length front + 1) values) (write_newest heap (front ++ old ∷ rest) (length front) value)
    ∙ (ap (λ vs. listed (view (ArrayCell vs ∷ heap)) (heap_size heap) (length front + 1) values) here
    ∙ (ap (λ n. listed (view (ArrayCell ((front ++ value ∷ []) ++ rest) ∷ heap)) (heap_size heap) n values) on
    ∙ (lists world cell_room out_room heap values (front ++ value ∷ []) rest less
    ∙ ap (λ vs. view (ArrayCell vs ∷ heap)) (append_assoc front (value ∷ []) values))))

pub listed_part : (view : WorldView) (to : ℕ) (first second : List Value) →
    listed (listed view to 0 first) to (length first) second ≡ listed view to 0 (first ++ second)
listed_part view to first second =
    let e : length first ≡ 0 + length first = omega arith in
    ap (λ n. listed (listed view to 0 first) to n second) e ∙ listed_append view to 0 first second
