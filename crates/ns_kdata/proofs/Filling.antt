-- Writing bytes one after another fills a new text.
use Rattle.std.proofs.Common.{◌≡◌, ◌≢◌, ℕ, suc, ◌+◌, ◌<◌, List, [], ◌∷◌, ◌++◌, length, drop, get_or, set, refl, ap, sym, ◌∙◌, arith, append_assoc, length-append}
use Rattle.std.proofs.lemmas.List.{drop_more}
use Rattle.ns_world.specs.Cell.{TextCell}
use Rattle.ns_world.specs.Heap.{Heap, heap_size, bytes_at}
use Rattle.ns_world.specs.World.{World, WorldView, byte_written}
use Rattle.ns_kdata.specs.Texts.{filled}
use Rattle.ns_kdata.proofs.Writing.{sizes_stay, bytes_elsewhere, write_newest}

-- one part after another
pub filled_append : (view : WorldView) (to at : ℕ) (first second : List ℕ) →
    filled (filled view to at first) to (at + length first) second ≡ filled view to at (first ++ second)
filled_append view to at [] second = let e : at + 0 ≡ at = omega arith in ap (λ n. filled view to n second) e
filled_append view to at (byte ∷ first) second =
    let next : WorldView = record view { world = byte_written view.world to at byte } in
    let e : at + suc (length first) ≡ (at + 1) + length first = omega arith in
    ap (λ n. filled (filled next to (at + 1) first) to n second) e ∙ filled_append next to (at + 1) first second

pub second_part : (view : WorldView) (to : ℕ) (first second : List ℕ) →
    filled (filled view to 0 first) to (length first) second ≡ filled view to 0 (first ++ second)
second_part view to first second =
    let e : length first ≡ 0 + length first = omega arith in
    ap (λ n. filled (filled view to 0 first) to n second) e ∙ filled_append view to 0 first second

-- each cell keeps the count of its bytes
pub filled_sizes : (view : WorldView) (to at number : ℕ) (bytes : List ℕ) →
    length (bytes_at (filled view to at bytes).world.cells number) ≡ length (bytes_at view.world.cells number)
filled_sizes view to at number [] = refl
filled_sizes view to at number (byte ∷ bytes) =
    let next : WorldView = record view { world = byte_written view.world to at byte } in
    filled_sizes next to (at + 1) number bytes ∙ sizes_stay view.world.cells to at byte number

-- and all but the one that is filled keep their bytes
pub filled_elsewhere : (view : WorldView) (to at number : ℕ) (bytes : List ℕ) → number ≢ to →
    bytes_at (filled view to at bytes).world.cells number ≡ bytes_at view.world.cells number
filled_elsewhere view to at number [] h = refl
filled_elsewhere view to at number (byte ∷ bytes) h =
    let next : WorldView = record view { world = byte_written view.world to at byte } in
    filled_elsewhere next to (at + 1) number bytes h ∙ bytes_elsewhere view.world.cells to at byte number h

-- one byte of what is left to write
pub filled_step : (view : WorldView) (to at i : ℕ) (bytes : List ℕ) → i < length bytes →
    filled view to at (drop i bytes) ≡ filled (record view { world = byte_written view.world to at (get_or bytes i 0) }) to (at + 1) (drop (i + 1) bytes)
filled_step view to at i bytes h = ap (filled view to at) (drop_more bytes i 0 h)

set_behind : (front rest : List ℕ) (old byte : ℕ) → set (front ++ old ∷ rest) (length front) byte ≡ front ++ byte ∷ rest
set_behind [] rest old byte = refl
set_behind (one ∷ front) rest old byte = ap (λ bs. one ∷ bs) (set_behind front rest old byte)

-- a view of a world with these cells
abbrev pub with_cells : World → ℕ → ℕ → Heap → WorldView
with_cells world cell_room out_room cells = record { world = record world { cells = cells }; cell_room = cell_room; out_room = out_room }

-- the newest text is filled from a place on to its end
pub fills : (world : World) (cell_room out_room : ℕ) (heap : Heap) (bytes front rest : List ℕ) → length rest ≡ length bytes →
    filled (with_cells world cell_room out_room (TextCell (front ++ rest) ∷ heap)) (heap_size heap) (length front) bytes ≡ with_cells world cell_room out_room (TextCell (front ++ bytes) ∷ heap)
fills world cell_room out_room heap [] front [] e = refl
fills world cell_room out_room heap [] front (old ∷ rest) e = absurd (omega (arith, e))
fills world cell_room out_room heap (byte ∷ bytes) front [] e = absurd (omega (arith, e))
fills world cell_room out_room heap (byte ∷ bytes) front (old ∷ rest) e =
    let view : Heap → WorldView = with_cells world cell_room out_room in
    let here : set (front ++ old ∷ rest) (length front) byte ≡ (front ++ byte ∷ []) ++ rest = set_behind front rest old byte ∙ sym (append_assoc front (byte ∷ []) rest) in
    let on : length front + 1 ≡ length (front ++ byte ∷ []) = sym (length-append front (byte ∷ [])) in
    let less : length rest ≡ length bytes = omega (arith, e) in
    ap (λ cells. filled (view cells) (heap_size heap) (length front + 1) bytes) (write_newest heap (front ++ old ∷ rest) (length front) byte)
    ∙ (ap (λ bs. filled (view (TextCell bs ∷ heap)) (heap_size heap) (length front + 1) bytes) here
    ∙ (ap (λ n. filled (view (TextCell ((front ++ byte ∷ []) ++ rest) ∷ heap)) (heap_size heap) n bytes) on
    ∙ (fills world cell_room out_room heap bytes (front ++ byte ∷ []) rest less
    ∙ ap (λ bs. view (TextCell bs ∷ heap)) (append_assoc front (byte ∷ []) bytes))))
