-- The cells that the opening sends name are there.
use Rattle.std.proofs.Common.{◌≡◌, ℕ, ◌+◌, List, [], ◌∷◌, ◌++◌, length, drop, reverse, refl, sym, ap, ◌∙◌, subst, arith}
use Rattle.std.proofs.Common.{append_assoc, Option, Some, None, Bool, true, false, cond}
use Rattle.std.proofs.lemmas.List.{reverse-append, reverse-reverse, take-append-drop}
use Rattle.ns_code.specs.declared.program.CodeProgram.{CodeProgram}
use Rattle.ns_world.specs.declared.value.Value.{Value}
use Rattle.ns_world.specs.declared.value.Value.TheVariants.{Ref}
use Rattle.ns_world.specs.declared.cell.FacetKind.TheVariants.{Manifest, Platform}
use Rattle.ns_world.specs.Cell.{Cell, ObjectCell, ClassCell, BlockCell, EnvironmentCell, ArrayCell, TextCell, FacetCell, MirrorCell, MessageCell, cell_size}
use Rattle.ns_world.specs.Heap.{Heap, heap_size, find_cell}
use Rattle.ns_world.specs.Seek.{first_such, earlier_or, is_top}
use Rattle.ns_world.specs.Lawful.{IsLiveValue}
use Rattle.ns_world.specs.Starts.{is_receiver_cell}
use Rattle.ns_world.specs.laws.Chains.{found_below, found_in_more}
use Rattle.ns_facets.specs.declared.row.Grants.{Grants}
use Rattle.ns_facets.specs.Platform.{cell_value}
use Rattle.ns_moves.specs.Start.{standing_cells, size_of_cells, manifest, platform, first_class}
use Rattle.ns_moves.specs.Valid.{BeginsWith, HasArgumentCells, array_behind}
use Rattle.ns_moves.proofs.BeginsCells.{newest_found, sizes_add}

-- ---- the cell that stands so many words behind the first

size_app : (newer older : Heap) → heap_size (newer ++ older) ≡ heap_size newer + heap_size older
size_app [] older = omega arith
size_app (cell ∷ newer) older = omega (arith, size_app newer older)

size_reversed : (cells : List Cell) → heap_size (reverse cells) ≡ size_of_cells cells
size_reversed [] = refl
size_reversed (cell ∷ cells) =
    let e = ap heap_size (reverse-append (cell ∷ []) cells) in
    let f = size_app (reverse cells) (cell ∷ []) in
    omega (arith, e, f, size_reversed cells)

found_under : (newer older : Heap) (cell : Cell) → find_cell (newer ++ cell ∷ older) (heap_size older) ≡ Some cell
found_under [] older cell = newest_found cell older
found_under (next ∷ newer) older cell =
    let e = found_under newer older cell in
    found_in_more next (newer ++ cell ∷ older) (heap_size older) (found_below (newer ++ cell ∷ older) (heap_size older) cell e) ∙ e

pub found_at : (heap : Heap) (front : List Cell) (cell : Cell) (rest : List Cell) → reverse heap ≡ front ++ cell ∷ rest
    → find_cell heap (size_of_cells front) ≡ Some cell
found_at heap front cell rest e =
    let whole : heap ≡ reverse rest ++ cell ∷ reverse front = sym (reverse-reverse heap)
    ∙ (ap reverse e
    ∙ (reverse-append front (cell ∷ rest)
    ∙ (ap (λ cells. cells ++ reverse front) (reverse-append (cell ∷ []) rest) ∙ append_assoc (reverse rest) (cell ∷ []) (reverse front)))) in
    ap (λ cells. find_cell cells (size_of_cells front)) whole
    ∙ (ap (find_cell (reverse rest ++ cell ∷ reverse front)) (sym (size_reversed front)) ∙ found_under (reverse rest) (reverse front) cell)

-- ---- the facets that each run has

standing_whole : (code : CodeProgram) (grants : Grants) (heap : Heap) → BeginsWith (standing_cells code grants) heap
    → reverse heap ≡ standing_cells code grants ++ drop (length (standing_cells code grants)) (reverse heap)
standing_whole code grants heap b =
    let n : ℕ = length (standing_cells code grants) in
    sym (take-append-drop n (reverse heap)) ∙ ap (λ cells. cells ++ drop n (reverse heap)) b.start

pub manifest_live : (code : CodeProgram) (grants : Grants) (heap : Heap) → BeginsWith (standing_cells code grants) heap →
    IsLiveValue heap code manifest
manifest_live code grants heap b =
    let found : find_cell heap 0 ≡ Some (FacetCell Manifest) = found_at heap [] (FacetCell Manifest) _ (standing_whole code grants heap b) in
    (rw found refl, rw found refl)

pub platform_live : (code : CodeProgram) (grants : Grants) (heap : Heap) → BeginsWith (standing_cells code grants) heap →
    IsLiveValue heap code platform
platform_live code grants heap b =
    let found : find_cell heap 1 ≡ Some (FacetCell Platform) =
    found_at heap (FacetCell Manifest ∷ []) (FacetCell Platform) _ (standing_whole code grants heap b) in
    (rw found refl, rw found refl)

-- ---- the array of the arguments

record ArrayAt (number at : ℕ) (cells : List Cell) : Type 0 where
  front : List Cell
  items : List Value
  rest : List Cell
  cells_are : cells ≡ front ++ ArrayCell items ∷ rest
  number_is : at ≡ number + size_of_cells front

array_at : (number at : ℕ) (cells : List Cell) → array_behind number cells ≡ Some at → ArrayAt number at cells
array_at number at [] e = absurd (cc)
array_at number at (TextCell bytes ∷ cells) e =
    let a = array_at (number + cell_size (TextCell bytes)) at cells e in
    record {
      front = TextCell bytes ∷ a.front;
      items = a.items;
      rest = a.rest;
      cells_are = ap (λ cells. TextCell bytes ∷ cells) a.cells_are;
      number_is = omega (arith, a.number_is);
    }
array_at number at (ArrayCell items ∷ cells) e =
    let same : number ≡ at = cc in
    record { front = []; items = items; rest = cells; cells_are = refl; number_is = omega (arith, same) }
array_at number at (FacetCell kind ∷ cells) e = absurd (cc)
array_at number at (ObjectCell class entries ∷ cells) e = absurd (cc)
array_at number at (ClassCell decl base encl holder over ∷ cells) e = absurd (cc)
array_at number at (BlockCell body env home receiver holder ∷ cells) e = absurd (cc)
array_at number at (EnvironmentCell parent locals ∷ cells) e = absurd (cc)
array_at number at (MirrorCell mirrored ∷ cells) e = absurd (cc)
array_at number at (MessageCell sel args ∷ cells) e = absurd (cc)

pub array_live : (code : CodeProgram) (grants : Grants) (arguments : ℕ) (heap : Heap) → BeginsWith (standing_cells code grants) heap
    → HasArgumentCells code grants arguments heap → IsLiveValue heap code (Ref arguments)
array_live code grants arguments heap b has =
    let standing : List Cell = standing_cells code grants in
    let a = array_at (size_of_cells standing) arguments (drop (length standing) (reverse heap)) has in
    let whole : reverse heap ≡ (standing ++ a.front) ++ ArrayCell a.items ∷ a.rest = standing_whole code grants heap b
    ∙ (ap (λ cells. standing ++ cells) a.cells_are ∙ sym (append_assoc standing a.front (ArrayCell a.items ∷ a.rest))) in
    let number : size_of_cells (standing ++ a.front) ≡ arguments = sizes_add standing a.front ∙ sym a.number_is in
    let found : find_cell heap arguments ≡ Some (ArrayCell a.items) = subst (λ n. find_cell heap n ≡ Some (ArrayCell a.items)) number
    (found_at heap (standing ++ a.front) (ArrayCell a.items) a.rest whole) in
    (rw found refl, rw found refl)

-- ---- the class of the first file

record Such (test : Cell → Bool) (heap : Heap) (number : ℕ) : Type 0 where
  cell : Cell
  found : find_cell heap number ≡ Some cell
  passes : test cell ≡ true

such_there : (test : Cell → Bool) (heap : Heap) (number : ℕ) → first_such test heap ≡ Some number → Such test heap number
such_there test [] number e = absurd (cc)
such_there test (cell ∷ heap) number e = before (first_such test heap) refl e (such_there test heap)
  where
    here : (b : Bool) → test cell ≡ b → cond b (Some (heap_size heap)) None ≡ Some number → Such test (cell ∷ heap) number
    here true t e =
        let same : heap_size heap ≡ number = cc in
        record { cell = cell; found = subst (λ n. find_cell (cell ∷ heap) n ≡ Some cell) same (newest_found cell heap); passes = t }
    here false t e = absurd (cc)

    before : (o : Option ℕ) → first_such test heap ≡ o → earlier_or o (cond (test cell) (Some (heap_size heap)) None) ≡ Some number
        → ((n : ℕ) → first_such test heap ≡ Some n → Such test heap n) → Such test (cell ∷ heap) number
    before (Some n) f e rest =
        let same : n ≡ number = cc in
        let s = rest number (f ∙ ap (λ n. Some n) same) in
        record { cell = s.cell; found = found_in_more cell heap number (found_below heap number s.cell s.found) ∙ s.found; passes = s.passes }
    before None f e rest = here (test cell) refl e

top_receives : (decl : ℕ) (cell : Cell) → is_top decl cell ≡ true → is_receiver_cell (Some cell) ≡ true
top_receives decl (ClassCell other base encl holder over) e = refl
top_receives decl (ObjectCell class entries) e = absurd (cc)
top_receives decl (BlockCell body env home receiver holder) e = absurd (cc)
top_receives decl (EnvironmentCell parent locals) e = absurd (cc)
top_receives decl (ArrayCell items) e = absurd (cc)
top_receives decl (TextCell bytes) e = absurd (cc)
top_receives decl (FacetCell kind) e = absurd (cc)
top_receives decl (MirrorCell mirrored) e = absurd (cc)
top_receives decl (MessageCell sel args) e = absurd (cc)

pub first_class_live : (code : CodeProgram) (heap : Heap) → IsLiveValue heap code (first_class heap)
first_class_live code heap = found (first_such (is_top 0) heap) refl
  where
    found : (o : Option ℕ) → first_such (is_top 0) heap ≡ o → IsLiveValue heap code (cell_value o)
    found None e = (tt, refl)
    found (Some n) e =
        let s = such_there (is_top 0) heap n e in
        (rw s.found refl, ap is_receiver_cell s.found ∙ top_receives 0 s.cell s.passes)
