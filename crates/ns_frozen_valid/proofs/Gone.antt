-- Cells are gone over in their order.
use Rattle.std.proofs.Common.{◌≡◌, ℕ, ◌+◌, ◌≤◌, List, [], ◌∷◌, ◌++◌, reverse, refl, ap, sym, ◌∙◌, arith, Option, Some, None, Bool, true, false, cond, eqb, append_assoc, append-nil, option_map, ◌&&◌}
use Rattle.std.proofs.lemmas.Bool.{eqb-true, eq-eqb}
use Rattle.std.proofs.lemmas.List.{reverse-append}
use Rattle.ns_code.specs.declared.program.CodeProgram.{CodeProgram}
use Rattle.ns_world.specs.Cell.{Cell, ObjectCell, ClassCell, BlockCell, EnvironmentCell, ArrayCell, TextCell, FacetCell, MirrorCell, MessageCell, cell_size}
use Rattle.ns_world.specs.Heap.{Heap, heap_size, find_cell}
use Rattle.ns_frozen.specs.declared.cell.CellData.{CellData}
use Rattle.ns_frozen.specs.declared.cell.CellData.TheVariants as plain
use Rattle.ns_frozen.specs.declared.frozen.Frozen.{Frozen}
use Rattle.ns_frozen.specs.Freezing.{cell_frozen}
use Rattle.ns_frozen.specs.Thawing.{cell_thawed, cells_onto, heap_thawed}
use Rattle.ns_frozen.specs.Cells.{is_good_cell, stands_first, behind_first, arguments_behind, bad_cell_from, bad_cell, first_cells, wants_arguments, is_standing, is_awaited}
use Rattle.ns_frozen_tables.specs.Numbers.{data_size, data_from}
use Rattle.ns_frozen_valid.specs.Cells.{cell_of, stands_so, bad_data_from}
use Rattle.ns_frozen_tables.specs.laws.Found.{size_thawed, size_positive, found_there}

-- ---- the cells in their order

-- the cells of plain data behind others, the oldest first
abbrev stand_from : CodeProgram → Heap → List CellData → List Cell
stand_from code earlier [] = []
stand_from code earlier (cell ∷ cells) = cell_thawed code earlier cell ∷ stand_from code (cell_thawed code earlier cell ∷ earlier) cells

in_order : (code : CodeProgram) (earlier : Heap) (cells : List CellData)
    → reverse (cells_onto code earlier cells) ≡ reverse earlier ++ stand_from code earlier cells
in_order code earlier [] = sym (append-nil (reverse earlier))
in_order code earlier (cell ∷ cells) =
    in_order code (cell_thawed code earlier cell ∷ earlier) cells
    ∙ (ap (λ (front : List Cell). front ++ stand_from code (cell_thawed code earlier cell ∷ earlier) cells) (reverse-append (cell_thawed code earlier cell ∷ []) earlier)
    ∙ append_assoc (reverse earlier) (cell_thawed code earlier cell ∷ []) (stand_from code (cell_thawed code earlier cell ∷ earlier) cells))

-- ---- the base of a class isn't asked for

same_good : (code : CodeProgram) (heap earlier : Heap) (homes number : ℕ) (cell : CellData)
    → is_good_cell code heap homes number (cell_thawed code earlier cell) ≡ is_good_cell code heap homes number (cell_of code cell)
same_good code heap earlier homes number (plain.Object class words) = refl
same_good code heap earlier homes number (plain.Class decl encl holder over) = refl
same_good code heap earlier homes number (plain.Block body env receiver holder home) = refl
same_good code heap earlier homes number (plain.Environment parent locals) = refl
same_good code heap earlier homes number (plain.Array items) = refl
same_good code heap earlier homes number (plain.Text bytes) = refl
same_good code heap earlier homes number (plain.Facet kind) = refl
same_good code heap earlier homes number (plain.Mirror mirrored) = refl
same_good code heap earlier homes number (plain.Message sel args) = refl

same_standing : (code : CodeProgram) (earlier : Heap) (one : Cell) (cell : CellData)
    → is_standing one (cell_thawed code earlier cell) ≡ is_standing one (cell_of code cell)
same_standing code earlier (FacetCell kind) cell = by_kind cell
  where
    by_kind : (cell : CellData) → is_standing (FacetCell kind) (cell_thawed code earlier cell) ≡ is_standing (FacetCell kind) (cell_of code cell)
    by_kind (plain.Object class words) = refl
    by_kind (plain.Class decl encl holder over) = refl
    by_kind (plain.Block body env receiver holder home) = refl
    by_kind (plain.Environment parent locals) = refl
    by_kind (plain.Array items) = refl
    by_kind (plain.Text bytes) = refl
    by_kind (plain.Facet other) = refl
    by_kind (plain.Mirror mirrored) = refl
    by_kind (plain.Message sel args) = refl
same_standing code earlier (ClassCell decl base encl holder over) cell = by_kind cell
  where
    one : Cell
    one = ClassCell decl base encl holder over

    by_kind : (cell : CellData) → is_standing one (cell_thawed code earlier cell) ≡ is_standing one (cell_of code cell)
    by_kind (plain.Object class words) = refl
    by_kind (plain.Class decl' encl' holder' over') = refl
    by_kind (plain.Block body env receiver holder' home) = refl
    by_kind (plain.Environment parent locals) = refl
    by_kind (plain.Array items) = refl
    by_kind (plain.Text bytes) = refl
    by_kind (plain.Facet other) = refl
    by_kind (plain.Mirror mirrored) = refl
    by_kind (plain.Message sel args) = refl
same_standing code earlier (ObjectCell class entries) cell = refl
same_standing code earlier (BlockCell body env home receiver holder) cell = refl
same_standing code earlier (EnvironmentCell parent locals) cell = refl
same_standing code earlier (ArrayCell items) cell = refl
same_standing code earlier (TextCell bytes) cell = refl
same_standing code earlier (MirrorCell mirrored) cell = refl
same_standing code earlier (MessageCell sel args) cell = refl

same_first : (code : CodeProgram) (earlier : Heap) (first : List Cell) (arguments : Bool) (cell : CellData)
    → stands_first first arguments (cell_thawed code earlier cell) ≡ stands_first first arguments (cell_of code cell)
same_first code earlier (one ∷ first) arguments cell = same_standing code earlier one cell
same_first code earlier [] true cell = by_kind cell
  where
    by_kind : (cell : CellData) → stands_first [] true (cell_thawed code earlier cell) ≡ stands_first [] true (cell_of code cell)
    by_kind (plain.Object class words) = refl
    by_kind (plain.Class decl encl holder over) = refl
    by_kind (plain.Block body env receiver holder home) = refl
    by_kind (plain.Environment parent locals) = refl
    by_kind (plain.Array items) = refl
    by_kind (plain.Text bytes) = refl
    by_kind (plain.Facet kind) = refl
    by_kind (plain.Mirror mirrored) = refl
    by_kind (plain.Message sel args) = refl
same_first code earlier [] false cell = by_kind cell
  where
    by_kind : (cell : CellData) → stands_first [] false (cell_thawed code earlier cell) ≡ stands_first [] false (cell_of code cell)
    by_kind (plain.Object class words) = refl
    by_kind (plain.Class decl encl holder over) = refl
    by_kind (plain.Block body env receiver holder home) = refl
    by_kind (plain.Environment parent locals) = refl
    by_kind (plain.Array items) = refl
    by_kind (plain.Text bytes) = refl
    by_kind (plain.Facet kind) = refl
    by_kind (plain.Mirror mirrored) = refl
    by_kind (plain.Message sel args) = refl

same_behind : (code : CodeProgram) (earlier : Heap) (first : List Cell) (arguments : Bool) (cell : CellData)
    → arguments_behind first arguments (cell_thawed code earlier cell) ≡ arguments_behind first arguments (cell_of code cell)
same_behind code earlier (one ∷ first) arguments cell = refl
same_behind code earlier [] arguments (plain.Object class words) = refl
same_behind code earlier [] arguments (plain.Class decl encl holder over) = refl
same_behind code earlier [] arguments (plain.Block body env receiver holder home) = refl
same_behind code earlier [] arguments (plain.Environment parent locals) = refl
same_behind code earlier [] arguments (plain.Array items) = refl
same_behind code earlier [] arguments (plain.Text bytes) = refl
same_behind code earlier [] arguments (plain.Facet kind) = refl
same_behind code earlier [] arguments (plain.Mirror mirrored) = refl
same_behind code earlier [] arguments (plain.Message sel args) = refl

-- ---- the first bad one

same_from : (code : CodeProgram) (heap earlier : Heap) (homes : ℕ) (first : List Cell) (arguments : Bool) (place number : ℕ) (cells : List CellData)
    → bad_cell_from code heap homes first arguments place number (stand_from code earlier cells) ≡ bad_data_from code heap homes first arguments place number cells
same_from code heap earlier homes first arguments place number [] = refl
same_from code heap earlier homes first arguments place number (cell ∷ cells) =
    ap (λ (b : Bool). cond b (bad_cell_from code heap homes (behind_first first) (arguments_behind first arguments (cell_thawed code earlier cell)) (place + 1) (number + cell_size (cell_thawed code earlier cell)) rest) (Some place))
    (ap (λ (b : Bool). b && stands_first first arguments (cell_thawed code earlier cell)) (same_good code heap earlier homes number cell)
    ∙ ap (λ (b : Bool). is_good_cell code heap homes number (cell_of code cell) && b) (same_first code earlier first arguments cell))
    ∙ (ap (λ (b : Bool). cond good (bad_cell_from code heap homes (behind_first first) b (place + 1) (number + cell_size (cell_thawed code earlier cell)) rest) (Some place)) (same_behind code earlier first arguments cell)
    ∙ (ap (λ (n : ℕ). cond good (bad_cell_from code heap homes (behind_first first) (arguments_behind first arguments (cell_of code cell)) (place + 1) (number + n) rest) (Some place)) (size_thawed code earlier cell)
    ∙ ap (λ (o : Option ℕ). cond good o (Some place))
    (same_from code heap (cell_thawed code earlier cell ∷ earlier) homes (behind_first first) (arguments_behind first arguments (cell_of code cell)) (place + 1) (number + data_size cell) cells)))
  where
    rest : List Cell
    rest = stand_from code (cell_thawed code earlier cell ∷ earlier) cells

    good : Bool
    good = is_good_cell code heap homes number (cell_of code cell) && stands_first first arguments (cell_of code cell)

-- the first bad cell of a heap is the first bad one of its plain data
pub same_bad : (code : CodeProgram) (frozen : Frozen) (first : List Cell) → first ≡ first_cells code frozen
    → bad_data_from code (heap_thawed code frozen.cells) frozen.homes first (wants_arguments frozen.phase frozen.ending) 0 0 frozen.cells
    ≡ bad_cell code (heap_thawed code frozen.cells) frozen
same_bad code frozen first is =
    ap (λ (cs : List Cell). bad_data_from code heap frozen.homes cs wants 0 0 frozen.cells) is
    ∙ (sym (same_from code heap [] frozen.homes (first_cells code frozen) wants 0 0 frozen.cells)
    ∙ ap (λ (cs : List Cell). bad_cell_from code heap frozen.homes (first_cells code frozen) wants 0 0 cs) (sym (in_order code [] frozen.cells)))
  where
    heap : Heap
    heap = heap_thawed code frozen.cells

    wants : Bool
    wants = wants_arguments frozen.phase frozen.ending

-- ---- the walk over all cells

-- the first bad one of a cell and those that are left behind it, by whether that cell is good
abbrev first_by : CodeProgram → Heap → ℕ → List Cell → Bool → ℕ → ℕ → CellData → List CellData → Bool → Option ℕ
first_by code heap homes first arguments place number cell left good =
    cond good
    (bad_data_from code heap homes (behind_first first) (arguments_behind first arguments (cell_of code cell)) (place + 1) (number + data_size cell) left)
    (Some place)

-- behind a good cell
pub bad_on : (code : CodeProgram) (heap : Heap) (homes : ℕ) (first behind : List Cell) (arguments wants : Bool) (place number size : ℕ)
    (cell : CellData) (left : List CellData) (whole : Option ℕ)
    → behind ≡ behind_first first → wants ≡ arguments_behind first arguments (cell_of code cell) → size ≡ data_size cell
    → stands_so code heap homes first arguments number cell ≡ true
    → bad_data_from code heap homes first arguments place number (cell ∷ left) ≡ whole
    → bad_data_from code heap homes behind wants (place + 1) (number + size) left ≡ whole
bad_on code heap homes first behind arguments wants place number size cell left whole b w z good same =
    rw (b, w, z) (sym (ap (first_by code heap homes first arguments place number cell left) good) ∙ same)

-- at a bad one
pub bad_here : (code : CodeProgram) (heap : Heap) (homes : ℕ) (first : List Cell) (arguments : Bool) (place number : ℕ)
    (cell : CellData) (left : List CellData) (whole : Option ℕ)
    → stands_so code heap homes first arguments number cell ≡ false
    → bad_data_from code heap homes first arguments place number (cell ∷ left) ≡ whole → Some place ≡ whole
bad_here code heap homes first arguments place number cell left whole bad same =
    sym (ap (first_by code heap homes first arguments place number cell left) bad) ∙ same

-- behind the last one
pub bad_end : (code : CodeProgram) (heap : Heap) (homes : ℕ) (first : List Cell) (arguments awaited : Bool) (place number : ℕ)
    (left : List CellData) (whole : Option ℕ)
    → left ≡ [] → is_awaited first arguments ≡ awaited
    → bad_data_from code heap homes first arguments place number left ≡ whole → cond awaited (Some place) None ≡ whole
bad_end code heap homes first arguments awaited place number left whole end is same =
    ap (λ (t : Bool). cond t (Some place) None) (sym is)
    ∙ (ap (bad_data_from code heap homes first arguments place number) (sym end) ∙ same)

-- ---- numbers on the way

-- What is left of some cells stands from a number on.
abbrev pub IsLeft : List CellData → List CellData → ℕ → Type 0
IsLeft cells left number = (wanted : ℕ) → number ≤ wanted → data_from 0 cells wanted ≡ data_from number left wanted

pub left_on : (cells left : List CellData) (cell : CellData) (number size : ℕ) → size ≡ data_size cell → IsLeft cells (cell ∷ left) number
    → IsLeft cells left (number + size)
left_on cells left cell number size is all wanted h =
    all wanted (omega (arith, h))
    ∙ (behind (eqb wanted number) refl ∙ ap (λ (n : ℕ). data_from (number + n) left wanted) (sym is))
  where
    behind : (b : Bool) → eqb wanted number ≡ b
        → cond b (Some cell) (data_from (number + data_size cell) left wanted) ≡ data_from (number + data_size cell) left wanted
    behind true t = absurd (omega (arith, h, is, size_positive cell, eqb-true wanted number t))
    behind false t = refl

pub left_here : (code : CodeProgram) (cells left : List CellData) (cell : CellData) (number : ℕ) → IsLeft cells (cell ∷ left) number
    → option_map cell_frozen (find_cell (heap_thawed code cells) number) ≡ Some cell
left_here code cells left cell number all =
    found_there code cells number ∙ (all number (omega arith) ∙ rw (eq-eqb number number refl) refl)

-- ---- the cells used

-- how many words cells take
abbrev pub sizes_of : List CellData → ℕ
sizes_of [] = 0
sizes_of (cell ∷ cells) = data_size cell + sizes_of cells

pub size_all : (code : CodeProgram) (earlier : Heap) (cells : List CellData) → heap_size (cells_onto code earlier cells) ≡ heap_size earlier + sizes_of cells
size_all code earlier [] = omega arith
size_all code earlier (cell ∷ cells) = omega (arith, size_all code (cell_thawed code earlier cell ∷ earlier) cells, size_thawed code earlier cell)

-- the same of cells that are seen
pub seen_bad : (code : CodeProgram) (cells : List CellData) (frozen : Frozen) (first : List Cell) (wants : Bool) (place : Option ℕ) → cells ≡ frozen.cells
    → first ≡ first_cells code frozen → wants ≡ wants_arguments frozen.phase frozen.ending
    → place ≡ bad_data_from code (heap_thawed code cells) frozen.homes first wants 0 0 cells → place ≡ bad_cell code (heap_thawed code cells) frozen
seen_bad code cells frozen first wants place these is want told =
    told
    ∙ (ap (λ (b : Bool). bad_data_from code (heap_thawed code cells) frozen.homes first b 0 0 cells) want
    ∙ (ap (λ (cs : List CellData). bad_data_from code (heap_thawed code cs) frozen.homes first (wants_arguments frozen.phase frozen.ending) 0 0 cs) these
    ∙ (same_bad code frozen first is
    ∙ ap (λ (cs : List CellData). bad_cell code (heap_thawed code cs) frozen) (sym these))))
