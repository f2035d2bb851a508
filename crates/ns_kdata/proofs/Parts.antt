-- Parts of a text.
use Rattle.std.proofs.Common.{◌≡◌, ◌≢◌, ℕ, ◌+◌, ◌*◌, ◌<◌, ◌≤◌, List, [], ◌∷◌, length, drop, get_or, refl, ap, ◌∙◌, arith, Option, Some, None, IsSome, true, false, length-drop}
use Rattle.std.specs.Option.{option_map_or}
use Rattle.std.proofs.lemmas.List.{get_or-take, get_or-drop, length-take-le}
use Rattle.ns_world.specs.declared.value.Value.{Value}
use Rattle.ns_world.specs.declared.value.Value.TheVariants.{Nil, True, False, Int, Sym, Kernel, Ref}
use Rattle.ns_world.specs.Cell.{Cell, ObjectCell, ClassCell, BlockCell, EnvironmentCell, ArrayCell, TextCell, FacetCell, MirrorCell, MessageCell, cell_size, cell_bytes}
use Rattle.ns_world.specs.Heap.{Heap, heap_size, find_cell, bytes_at, write_byte}
use Rattle.ns_world.specs.World.{World, WorldView, IsWithin}
use Rattle.ns_world.specs.laws.Standing.{stands-within}
use Rattle.ns_world.specs.laws.Chains.{found_below, found_in_more}
use Rattle.ns_kdata.specs.declared.arguments.Part.{Part}
use Rattle.ns_kdata.specs.Arguments.{CellIsThere, bytes_of}
use Rattle.ns_kdata.specs.Texts.{filled, bytes_in}
use Rattle.ns_kdata.proofs.Writing.{bytes_elsewhere}
use Rattle.ns_kdata.proofs.Filling.{filled_elsewhere}

-- a part has as many bytes as it says
pub part_size : (bytes : List ℕ) (part : Part) → part.start + part.count ≤ length bytes → length (bytes_in bytes part) ≡ part.count
part_size bytes part h = length-take-le part.count (drop part.start bytes) (omega (arith, h, length-drop part.start bytes))

-- and its bytes stand behind its start
pub part_byte : (bytes : List ℕ) (part : Part) (i : ℕ) → i < part.count → get_or (bytes_in bytes part) i 0 ≡ get_or bytes (part.start + i) 0
part_byte bytes part i h = get_or-take part.count (drop part.start bytes) i 0 h ∙ get_or-drop part.start bytes i 0

-- a String that isn't written keeps its bytes
pub text_elsewhere : (heap : Heap) (to place byte : ℕ) (value : Value) → value ≢ Ref to →
    bytes_of (write_byte heap to place byte) value ≡ bytes_of heap value
text_elsewhere heap to place byte (Ref at) h = bytes_elsewhere heap to place byte at (λ e. h (ap Ref e))
text_elsewhere heap to place byte Nil h = refl
text_elsewhere heap to place byte True h = refl
text_elsewhere heap to place byte False h = refl
text_elsewhere heap to place byte (Int number) h = refl
text_elsewhere heap to place byte (Sym sel) h = refl
text_elsewhere heap to place byte (Kernel class) h = refl

pub text_unfilled : (view : WorldView) (to at : ℕ) (bytes : List ℕ) (value : Value) → value ≢ Ref to →
    bytes_of (filled view to at bytes).world.cells value ≡ bytes_of view.world.cells value
text_unfilled view to at bytes (Ref from) h = filled_elsewhere view to at from bytes (λ e. h (ap Ref e))
text_unfilled view to at bytes Nil h = refl
text_unfilled view to at bytes True h = refl
text_unfilled view to at bytes False h = refl
text_unfilled view to at bytes (Int number) h = refl
text_unfilled view to at bytes (Sym sel) h = refl
text_unfilled view to at bytes (Kernel class) h = refl

below : (heap : Heap) (at : ℕ) → IsSome (find_cell heap at) → at < heap_size heap
below heap at h = found (find_cell heap at) refl h
  where
    found : (o : Option Cell) → find_cell heap at ≡ o → IsSome o → at < heap_size heap
    found None e s = absurd (let t : false ≡ true = s in cc)
    found (Some cell) e s = found_below heap at cell e

-- a value that is there isn't the next cell
pub not_next_cell : (heap : Heap) (value : Value) (next : ℕ) → CellIsThere heap value → next ≡ heap_size heap → value ≢ Ref next
not_next_cell heap (Ref at) next there is = λ e. let same : at ≡ next = cc in omega (arith, below heap at there, same, is)
not_next_cell heap Nil next there is = λ e. cc
not_next_cell heap True next there is = λ e. cc
not_next_cell heap False next there is = λ e. cc
not_next_cell heap (Int number) next there is = λ e. cc
not_next_cell heap (Sym sel) next there is = λ e. cc
not_next_cell heap (Kernel class) next there is = λ e. cc

-- with one cell more it has the bytes of before, and is there
pub text_in_more : (heap : Heap) (cell : Cell) (value : Value) → CellIsThere heap value → bytes_of (cell ∷ heap) value ≡ bytes_of heap value
text_in_more heap cell (Ref at) there = ap (λ o. option_map_or cell_bytes o []) (found_in_more cell heap at (below heap at there))
text_in_more heap cell Nil there = refl
text_in_more heap cell True there = refl
text_in_more heap cell False there = refl
text_in_more heap cell (Int number) there = refl
text_in_more heap cell (Sym sel) there = refl
text_in_more heap cell (Kernel class) there = refl

pub there_in_more : (heap : Heap) (cell : Cell) (value : Value) → CellIsThere heap value → CellIsThere (cell ∷ heap) value
there_in_more heap cell (Ref at) there = let e = found_in_more cell heap at (below heap at there) in rw e there
there_in_more heap cell Nil there = tt
there_in_more heap cell True there = tt
there_in_more heap cell False there = tt
there_in_more heap cell (Int number) there = tt
there_in_more heap cell (Sym sel) there = tt
there_in_more heap cell (Kernel class) there = tt

bytes_of_cell : (cell : Cell) → length (cell_bytes cell) ≤ 8 * cell_size cell
bytes_of_cell (TextCell bytes) = omega arith
bytes_of_cell (ObjectCell class entries) = omega arith
bytes_of_cell (ClassCell decl base encl holder over) = omega arith
bytes_of_cell (BlockCell body env home receiver holder) = omega arith
bytes_of_cell (EnvironmentCell parent locals) = omega arith
bytes_of_cell (ArrayCell items) = omega arith
bytes_of_cell (FacetCell kind) = omega arith
bytes_of_cell (MirrorCell mirrored) = omega arith
bytes_of_cell (MessageCell sel args) = omega arith

few_at : (world : World) (at : ℕ) → IsWithin world → length (bytes_at world.cells at) ≤ 512000000
few_at world at within = found (find_cell world.cells at) refl
  where
    found : (o : Option Cell) → find_cell world.cells at ≡ o → length (option_map_or cell_bytes o []) ≤ 512000000
    found None e = omega arith
    found (Some cell) e = omega (arith, stands-within world.cells at cell e, bytes_of_cell cell, within.cells, within.limits.1.1)

-- in a world within its limits a String has few bytes
pub text_few : (world : World) (value : Value) → IsWithin world → length (bytes_of world.cells value) ≤ 512000000
text_few world (Ref at) within = few_at world at within
text_few world Nil within = omega arith
text_few world True within = omega arith
text_few world False within = omega arith
text_few world (Int number) within = omega arith
text_few world (Sym sel) within = omega arith
text_few world (Kernel class) within = omega arith
