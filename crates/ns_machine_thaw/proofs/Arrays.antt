-- The array of the arguments is found among the cells as plain data.
use Rattle.std.proofs.Common.{◌≡◌, ℕ, ◌+◌, ◌*◌, ◌≤◌, List, [], ◌∷◌, ◌++◌, length, take, drop, map, reverse, refl, ap, sym, ◌∙◌, arith, Option, Some, None, unwrap_or, Bool, true, false}
use Rattle.std.proofs.lemmas.List.{length-append, reverse-append, drop-map, take-append-drop, length-map, length-take}
use Rattle.ns_code.specs.declared.class.ClassCode.{ClassCode}
use Rattle.ns_code.specs.declared.program.CodeProgram.{CodeProgram}
use Rattle.ns_facets.specs.declared.row.Grants.{Grants}
use Rattle.ns_world.specs.declared.cell.FacetKind.{FacetKind}
use Rattle.ns_world.specs.declared.cell.FacetKind.TheVariants as facet
use Rattle.ns_world.specs.Cell.{Cell, ObjectCell, ClassCell, BlockCell, EnvironmentCell, ArrayCell, TextCell, FacetCell, MirrorCell, MessageCell, text_words}
use Rattle.ns_world.specs.Heap.{Heap, heap_size}
use Rattle.ns_moves.specs.Start.{facet_if, facets_of, top_if, tops_of, standing_cells, size_of_cells}
use Rattle.ns_moves.specs.Valid.{BeginsWith, array_behind}
use Rattle.ns_frozen.specs.declared.cell.CellData.{CellData}
use Rattle.ns_frozen.specs.Freezing.{cell_frozen, cells_frozen}
use Rattle.ns_frozen.specs.Thawing.{heap_thawed, arguments_in}
use Rattle.ns_machine_thaw.specs.Arguments.{data_behind, texts_size}

-- ---- as plain data

-- the array behind texts is found among cells as among their plain data
behind_same : (number : ℕ) (cells : List Cell) → array_behind number cells ≡ data_behind number (map cell_frozen cells)
behind_same number [] = refl
behind_same number (TextCell bytes ∷ cells) = behind_same (number + (1 + text_words (length bytes))) cells
behind_same number (ArrayCell items ∷ cells) = refl
behind_same number (ObjectCell class entries ∷ cells) = refl
behind_same number (ClassCell decl base encl holder over ∷ cells) = refl
behind_same number (BlockCell body env home receiver holder ∷ cells) = refl
behind_same number (EnvironmentCell parent locals ∷ cells) = refl
behind_same number (FacetCell kind ∷ cells) = refl
behind_same number (MirrorCell mirrored ∷ cells) = refl
behind_same number (MessageCell sel args ∷ cells) = refl

-- texts take no more than all cells
texts_few : (cells : List Cell) → texts_size (map cell_frozen cells) ≤ size_of_cells cells
texts_few [] = omega arith
texts_few (TextCell bytes ∷ cells) = let more = texts_few cells in omega (arith, more)
texts_few (ArrayCell items ∷ cells) = omega arith
texts_few (ObjectCell class entries ∷ cells) = omega arith
texts_few (ClassCell decl base encl holder over ∷ cells) = omega arith
texts_few (BlockCell body env home receiver holder ∷ cells) = omega arith
texts_few (EnvironmentCell parent locals ∷ cells) = omega arith
texts_few (FacetCell kind ∷ cells) = omega arith
texts_few (MirrorCell mirrored ∷ cells) = omega arith
texts_few (MessageCell sel args ∷ cells) = omega arith

-- ---- sizes

size_append : (front back : List Cell) → size_of_cells (front ++ back) ≡ size_of_cells front + size_of_cells back
size_append [] back = omega arith
size_append (cell ∷ front) back = let more = size_append front back in omega (arith, more)

size_turned : (heap : Heap) → size_of_cells (reverse heap) ≡ heap_size heap
size_turned [] = refl
size_turned (cell ∷ earlier) =
    let more = size_turned earlier in
    let both = size_append (reverse earlier) (cell ∷ []) in
    ap size_of_cells (reverse-append (cell ∷ []) earlier) ∙ omega (arith, more, both)

-- ---- the cells of the start

if_size : (granted : Bool) (kind : FacetKind) → size_of_cells (facet_if granted kind) ≡ length (facet_if granted kind)
if_size true kind = refl
if_size false kind = refl

-- facets are as many as the cells that they take
module _ (grants : Grants) where
  abbrev granted : List Cell
  granted =
      facet_if grants.console facet.Console ++ (facet_if grants.mirrors facet.Mirrors
      ++ (facet_if grants.kernel facet.Kernel ++ facet_if grants.board facet.Board))

  pub facets_count : (console mirrors kernel board : ℕ) → ((kind : FacetKind) → console ≡ length (facet_if grants.console kind))
      → ((kind : FacetKind) → mirrors ≡ length (facet_if grants.mirrors kind)) → ((kind : FacetKind) → kernel ≡ length (facet_if grants.kernel kind))
      → ((kind : FacetKind) → board ≡ length (facet_if grants.board kind)) → 2 + console + mirrors + kernel + board ≡ length (facets_of grants)
  facets_count console mirrors kernel board a b c d =
      let one = length-append (facet_if grants.console facet.Console) (facet_if grants.mirrors facet.Mirrors ++ (facet_if grants.kernel facet.Kernel ++ facet_if grants.board facet.Board)) in
      let two = length-append (facet_if grants.mirrors facet.Mirrors) (facet_if grants.kernel facet.Kernel ++ facet_if grants.board facet.Board) in
      let three = length-append (facet_if grants.kernel facet.Kernel) (facet_if grants.board facet.Board) in
      let first = a facet.Console in
      let second = b facet.Mirrors in
      let third = c facet.Kernel in
      let fourth = d facet.Board in
      omega (arith, one, two, three, first, second, third, fourth)

  facets_size : size_of_cells (facets_of grants) ≡ length (facets_of grants)
  facets_size =
      let l1 = length-append (facet_if grants.console facet.Console) (facet_if grants.mirrors facet.Mirrors ++ (facet_if grants.kernel facet.Kernel ++ facet_if grants.board facet.Board)) in
      let l2 = length-append (facet_if grants.mirrors facet.Mirrors) (facet_if grants.kernel facet.Kernel ++ facet_if grants.board facet.Board) in
      let l3 = length-append (facet_if grants.kernel facet.Kernel) (facet_if grants.board facet.Board) in
      let s1 = size_append (facet_if grants.console facet.Console) (facet_if grants.mirrors facet.Mirrors ++ (facet_if grants.kernel facet.Kernel ++ facet_if grants.board facet.Board)) in
      let s2 = size_append (facet_if grants.mirrors facet.Mirrors) (facet_if grants.kernel facet.Kernel ++ facet_if grants.board facet.Board) in
      let s3 = size_append (facet_if grants.kernel facet.Kernel) (facet_if grants.board facet.Board) in
      let e1 = if_size grants.console facet.Console in
      let e2 = if_size grants.mirrors facet.Mirrors in
      let e3 = if_size grants.kernel facet.Kernel in
      let e4 = if_size grants.board facet.Board in
      omega (arith, l1, l2, l3, s1, s2, s3, e1, e2, e3, e4)

top_size : (outer : Option ℕ) (decl : ℕ) → size_of_cells (top_if outer decl) ≡ 4 * length (top_if outer decl)
top_size None decl = refl
top_size (Some outer) decl = refl

-- classes take four cells each
tops_size : (decl : ℕ) (classes : List ClassCode) → size_of_cells (tops_of decl classes) ≡ 4 * length (tops_of decl classes)
tops_size decl [] = refl
tops_size decl (class ∷ classes) =
    let one = top_size class.outer decl in
    let more = tops_size (decl + 1) classes in
    let size = size_append (top_if class.outer decl) (tops_of (decl + 1) classes) in
    let count = length-append (top_if class.outer decl) (tops_of (decl + 1) classes) in
    omega (arith, one, more, size, count)

standing_size : (code : CodeProgram) (grants : Grants) (facets tops : ℕ) → facets ≡ length (facets_of grants) → tops ≡ length (tops_of 0 code.classes)
    → size_of_cells (standing_cells code grants) ≡ facets + 4 * tops
standing_size code grants facets tops f t =
    let both = size_append (facets_of grants) (tops_of 0 code.classes) in
    let one = facets_size grants in
    let other = tops_size 0 code.classes in
    omega (arith, both, one, other, f, t)

standing_length : (code : CodeProgram) (grants : Grants) (facets tops : ℕ) → facets ≡ length (facets_of grants) → tops ≡ length (tops_of 0 code.classes)
    → length (standing_cells code grants) ≡ facets + tops
standing_length code grants facets tops f t =
    let both = length-append (facets_of grants) (tops_of 0 code.classes) in
    omega (arith, both, f, t)

-- ---- behind the cells of the start

module _ (code : CodeProgram) (grants : Grants) (cells : List CellData) (back : cells_frozen (heap_thawed code cells) ≡ cells)
    (begins : BeginsWith (standing_cells code grants) (heap_thawed code cells)) (facets tops : ℕ) (f : facets ≡ length (facets_of grants))
    (t : tops ≡ length (tops_of 0 code.classes))
  where
    abbrev turned : List Cell
    turned = reverse (heap_thawed code cells)

    abbrev behind : List Cell
    behind = drop (length (standing_cells code grants)) turned

    behind_data : map cell_frozen behind ≡ drop (facets + tops) cells
    behind_data =
        sym (drop-map cell_frozen (length (standing_cells code grants)) turned)
        ∙ (ap (drop (length (standing_cells code grants))) back ∙ ap (λ (n : ℕ). drop n cells) (standing_length code grants facets tops f t))

    -- so many cells are there
    pub standing_count : facets + tops ≤ length cells
    standing_count =
        let all : length turned ≡ length cells = sym (length-map turned cell_frozen) ∙ ap length back in
        let first : length (take (length (standing_cells code grants)) turned) ≡ length (standing_cells code grants) = ap length begins.start in
        let cut = length-take (length (standing_cells code grants)) turned in
        let count = standing_length code grants facets tops f t in
        omega (arith, all, first, cut, count)

    -- the texts behind them end within all cells
    pub texts_within : heap_size (heap_thawed code cells) ≤ 64000000 → facets + 4 * tops + texts_size (drop (facets + tops) cells) ≤ 64000000
    texts_within small =
        let few = texts_few behind in
        let same = ap texts_size behind_data in
        let all = size_turned (heap_thawed code cells) in
        let cut = ap size_of_cells (take-append-drop (length (standing_cells code grants)) turned) in
        let both = size_append (take (length (standing_cells code grants)) turned) behind in
        let first = ap size_of_cells begins.start in
        let size = standing_size code grants facets tops f t in
        omega (arith, small, few, same, all, cut, both, first, size)

    pub arguments_are : unwrap_or (data_behind (facets + 4 * tops) (drop (facets + tops) cells)) 0 ≡ arguments_in code grants (heap_thawed code cells)
    arguments_are =
        ap (λ (left : List CellData). unwrap_or (data_behind (facets + 4 * tops) left) 0) (sym behind_data)
        ∙ (ap (λ (n : ℕ). unwrap_or (data_behind n (map cell_frozen behind)) 0) (sym (standing_size code grants facets tops f t))
        ∙ ap (λ (o : Option ℕ). unwrap_or o 0) (sym (behind_same (size_of_cells (standing_cells code grants)) behind)))
