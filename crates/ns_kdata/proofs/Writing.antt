-- What writing one byte of a text changes, and what it leaves.
use Rattle.std.proofs.Common.{◌≡◌, ◌≢◌, ℕ, List, [], ◌∷◌, length, set, refl, ap, sym, ◌∙◌, Option, Some, None, Bool, true, false, eqb, length-set}
use Rattle.std.specs.Option.{option_map_or}
use Rattle.std.proofs.lemmas.Bool.{eqb-true, eq-eqb}
use Rattle.ns_world.specs.Cell.{Cell, ObjectCell, ClassCell, BlockCell, EnvironmentCell, ArrayCell, TextCell, FacetCell, MirrorCell, MessageCell, cell_bytes, with_byte}
use Rattle.ns_world.specs.Heap.{Heap, heap_size, find_cell, set_cell, write_byte, bytes_at}
use Rattle.ns_world.specs.laws.Changing.{byte_leaves, byte_plainly}
use Rattle.ns_world.specs.laws.Changing.{set_here}

bytes_with : (cell : Cell) (place byte : ℕ) → length (cell_bytes (with_byte cell place byte)) ≡ length (cell_bytes cell)
bytes_with (TextCell bytes) place byte = length-set bytes place byte
bytes_with (ObjectCell class entries) place byte = refl
bytes_with (ClassCell decl base encl holder over) place byte = refl
bytes_with (BlockCell body env home receiver holder) place byte = refl
bytes_with (EnvironmentCell parent locals) place byte = refl
bytes_with (ArrayCell items) place byte = refl
bytes_with (FacetCell kind) place byte = refl
bytes_with (MirrorCell mirrored) place byte = refl
bytes_with (MessageCell sel args) place byte = refl

-- other cells keep their bytes
pub bytes_elsewhere : (heap : Heap) (at place byte number : ℕ) → number ≢ at →
    bytes_at (write_byte heap at place byte) number ≡ bytes_at heap number
bytes_elsewhere heap at place byte number h = ap (λ o. option_map_or cell_bytes o []) ((byte_leaves heap at place byte).others number h)

-- the written one keeps its size
size_here : (heap : Heap) (at place byte : ℕ) → length (bytes_at (write_byte heap at place byte) at) ≡ length (bytes_at heap at)
size_here heap at place byte = found (find_cell heap at) refl
  where
    found : (o : Option Cell) → find_cell heap at ≡ o → length (bytes_at (option_map_or (λ cell. set_cell heap at (with_byte cell place byte)) o heap) at) ≡ length (option_map_or cell_bytes o [])
    found None e = ap (λ o. length (option_map_or cell_bytes o [])) e
    found (Some cell) e =
        ap (λ o. length (option_map_or cell_bytes o [])) (set_here heap at cell (with_byte cell place byte) e ((byte_plainly place byte).size cell))
        ∙ bytes_with cell place byte

-- so each cell has as many bytes as before
pub sizes_stay : (heap : Heap) (at place byte number : ℕ) →
    length (bytes_at (write_byte heap at place byte) number) ≡ length (bytes_at heap number)
sizes_stay heap at place byte number = tested (eqb number at) refl
  where
    tested : (b : Bool) → eqb number at ≡ b → length (bytes_at (write_byte heap at place byte) number) ≡ length (bytes_at heap number)
    tested true e =
        let is : number ≡ at = eqb-true number at e in
        ap (λ n. length (bytes_at (write_byte heap at place byte) n)) is ∙ (size_here heap at place byte ∙ ap (λ n. length (bytes_at heap n)) (sym is))
    tested false e = ap length (bytes_elsewhere heap at place byte number (λ q. let t : true ≡ false = sym (eq-eqb number at q) ∙ e in absurd (cc)))

-- the newest cell is written in place
pub write_newest : (heap : Heap) (bytes : List ℕ) (place byte : ℕ) →
    write_byte (TextCell bytes ∷ heap) (heap_size heap) place byte ≡ TextCell (set bytes place byte) ∷ heap
write_newest heap bytes place byte = rw (eq-eqb (heap_size heap) (heap_size heap) refl) refl
