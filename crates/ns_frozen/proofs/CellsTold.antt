-- The cells of a valid world have no bad one among them.
use Rattle.std.proofs.Common.{◌≡◌, ℕ, ◌+◌, List, [], ◌∷◌, ◌++◌, length, take, drop, reverse, refl, ap, sym, ◌∙◌, subst, arith, Option, Some, None, Bool, true, false, cond, ◌&&◌}
use Rattle.std.proofs.lemmas.Bool.{and_parts, and_from, cond_both, cond-true, eq-eqb}
use Rattle.std.proofs.lemmas.List.{reverse-append}
use Rattle.std.proofs.lemmas.List.Folds.{list_all-append}
use Rattle.std.proofs.lemmas.Option.{same_Some}
use Rattle.std.specs.Prelude.{nat_le, ◌==◌}
use Rattle.std.specs.List.{list_all}
use Rattle.ns_code.specs.declared.program.CodeProgram.{CodeProgram}
use Rattle.ns_code.specs.declared.class.ClassCode.{ClassCode}
use Rattle.ns_world.specs.declared.value.Value.TheVariants.{Nil, Kernel}
use Rattle.ns_world.specs.declared.value.KClass.TheVariants.{Object}
use Rattle.ns_world.specs.declared.cell.FacetKind.{FacetKind}
use Rattle.ns_world.specs.declared.cell.FacetKind.TheVariants as facet
use Rattle.ns_world.specs.Cell.{Cell, ObjectCell, ClassCell, BlockCell, EnvironmentCell, ArrayCell, TextCell, FacetCell, MirrorCell, MessageCell, cell_size}
use Rattle.ns_world.specs.Heap.{Heap, heap_size, find_cell}
use Rattle.ns_world.specs.laws.Chains.{found_below, found_in_more}
use Rattle.ns_world.specs.laws.Changing.{found_new}
use Rattle.ns_facets.specs.declared.row.Grants.{Grants}
use Rattle.ns_moves.specs.Control.{Progress}
use Rattle.ns_moves.specs.Start.{facet_if, facets_of, top_if, tops_of, standing_cells, size_of_cells}
use Rattle.ns_moves.specs.Valid.{blocks_have_homes, is_no_facet, fitting, array_behind, WorldIsValid}
use Rattle.ns_moves.specs.ValidFrames.{has_block_home}
use Rattle.ns_frozen.specs.Cells.{is_good_cell, is_standing, stands_first, behind_first, arguments_behind, is_awaited, bad_cell_from}
use Rattle.ns_frozen.proofs.CellTests.{has_home, cell_told}

-- ---- the cells with which a run starts

-- whether a cell is one with which a run can start
abbrev pub stands_itself : Cell → Bool
stands_itself cell = is_standing cell cell

facet_stands : (granted : Bool) (kind : FacetKind) → stands_itself (FacetCell kind) ≡ true → list_all stands_itself (facet_if granted kind) ≡ true
facet_stands true kind e = and_from (stands_itself (FacetCell kind)) true e refl
facet_stands false kind e = refl

both_stand : (one other : List Cell) → list_all stands_itself one ≡ true → list_all stands_itself other ≡ true → list_all stands_itself (one ++ other) ≡ true
both_stand one other e f = list_all-append stands_itself one other ∙ and_from (list_all stands_itself one) (list_all stands_itself other) e f

facets_stand : (grants : Grants) → list_all stands_itself (facets_of grants) ≡ true
facets_stand grants =
    both_stand (facet_if grants.console facet.Console) _ (facet_stands grants.console facet.Console refl)
    (both_stand (facet_if grants.mirrors facet.Mirrors) _ (facet_stands grants.mirrors facet.Mirrors refl)
    (both_stand (facet_if grants.kernel facet.Kernel) (facet_if grants.board facet.Board) (facet_stands grants.kernel facet.Kernel refl) (facet_stands grants.board facet.Board refl)))

top_stands : (outer : Option ℕ) (decl : ℕ) → list_all stands_itself (top_if outer decl) ≡ true
top_stands None decl = and_from (stands_itself (ClassCell decl 0 Nil Nil (Kernel Object))) true (and_from (decl == decl) true (eq-eqb decl decl refl) refl) refl
top_stands (Some outer) decl = refl

tops_stand : (decl : ℕ) (classes : List ClassCode) → list_all stands_itself (tops_of decl classes) ≡ true
tops_stand decl [] = refl
tops_stand decl (class ∷ classes) = both_stand (top_if class.outer decl) (tops_of (decl + 1) classes) (top_stands class.outer decl) (tops_stand (decl + 1) classes)

-- the cells of the start stand so
pub start_stands : (code : CodeProgram) (grants : Grants) → list_all stands_itself (standing_cells code grants) ≡ true
start_stands code grants = both_stand (facets_of grants) (tops_of 0 code.classes) (facets_stand grants) (tops_stand 0 code.classes)

-- and those of them that fit
pub fitting_stands : (room used : ℕ) (cells : List Cell) → list_all stands_itself cells ≡ true → list_all stands_itself (fitting room used cells) ≡ true
fitting_stands room used [] e = refl
fitting_stands room used (cell ∷ cells) e =
    let parts = and_parts (stands_itself cell) (list_all stands_itself cells) e in
    cond_both (nat_le (used + cell_size cell) room) (cell ∷ fitting room (used + cell_size cell) cells) [] (λ list. list_all stands_itself list ≡ true)
    (λ t. and_from (stands_itself cell) _ parts.0 (fitting_stands room (used + cell_size cell) cells parts.1)) (λ t. refl)

-- ---- all cells in their places

-- each cell stands where cells of the start, arguments or others are to come
abbrev pub AreInPlace : List Cell → Bool → List Cell → Type 0
AreInPlace first arguments [] = is_awaited first arguments ≡ false
AreInPlace first arguments (cell ∷ cells) = (stands_first first arguments cell ≡ true) × AreInPlace (behind_first first) (arguments_behind first arguments cell) cells

none_behind : (cell : Cell) → arguments_behind [] false cell ≡ false
none_behind (ArrayCell items) = refl
none_behind (ObjectCell class entries) = refl
none_behind (ClassCell decl base encl holder over) = refl
none_behind (BlockCell body env home receiver holder) = refl
none_behind (EnvironmentCell parent locals) = refl
none_behind (TextCell bytes) = refl
none_behind (FacetCell kind) = refl
none_behind (MirrorCell mirrored) = refl
none_behind (MessageCell sel args) = refl

others_in_place : (cells : List Cell) → list_all is_no_facet cells ≡ true → AreInPlace [] false cells
others_in_place [] e = refl
others_in_place (cell ∷ cells) e = let parts = and_parts (is_no_facet cell) (list_all is_no_facet cells) e in
    (parts.0, subst (λ b. AreInPlace [] b cells) (sym (none_behind cell)) (others_in_place cells parts.1))

arguments_in_place : (number array : ℕ) (cells : List Cell) → array_behind number cells ≡ Some array → list_all is_no_facet cells ≡ true → AreInPlace [] true cells
arguments_in_place number array [] a e = absurd (cc)
arguments_in_place number array (TextCell bytes ∷ cells) a e = (refl, arguments_in_place (number + cell_size (TextCell bytes)) array cells a e)
arguments_in_place number array (ArrayCell items ∷ cells) a e = (refl, others_in_place cells e)
arguments_in_place number array (cell ∷ cells) a e = absurd (cc)

-- where arguments are asked for, they are there
abbrev pub HaveArguments : Bool → ℕ → List Cell → Type 0
HaveArguments true number cells = (array : ℕ) × (array_behind number cells ≡ Some array)
HaveArguments false number cells = Unit {0}

behind_start : (arguments : Bool) (number : ℕ) (cells : List Cell) → HaveArguments arguments number cells → list_all is_no_facet cells ≡ true → AreInPlace [] arguments cells
behind_start true number cells a e = arguments_in_place number a.0 cells a.1 e
behind_start false number cells a e = others_in_place cells e

all_in_place : (first cells : List Cell) (arguments : Bool) (number : ℕ) → list_all stands_itself first ≡ true → take (length first) cells ≡ first → list_all is_no_facet (drop (length first) cells) ≡ true
    → HaveArguments arguments number (drop (length first) cells) → AreInPlace first arguments cells
all_in_place [] cells arguments number s t e a = behind_start arguments number cells a e
all_in_place (one ∷ first) [] arguments number s t e a = absurd (cc (t))
all_in_place (one ∷ first) (cell ∷ cells) arguments number s t e a =
    let parts = and_parts (stands_itself one) (list_all stands_itself first) s in
    let same : one ≡ cell = cc in
    let rest : take (length first) cells ≡ first = cc in
    (subst (λ (c : Cell). is_standing one c ≡ true) same parts.0, all_in_place first cells arguments number parts.1 rest e a)

-- ---- all cells good

-- each cell is good, of those that begin at a number
abbrev pub AreGood : (ℕ → Cell → Bool) → ℕ → List Cell → Type 0
AreGood good number [] = Unit {0}
AreGood good number (cell ∷ cells) = (good number cell ≡ true) × AreGood good (number + cell_size cell) cells

last_good : (good : ℕ → Cell → Bool) (number : ℕ) (cells : List Cell) (last : Cell) → AreGood good number cells → good (number + size_of_cells cells) last ≡ true → AreGood good number (cells ++ last ∷ [])
last_good good number [] last g e = (ap (λ n. good n last) (omega arith) ∙ e, tt)
last_good good number (cell ∷ cells) last g e = (g.0, last_good good (number + cell_size cell) cells last g.1 (ap (λ n. good n last) (omega arith) ∙ e))

size_append : (one other : List Cell) → size_of_cells (one ++ other) ≡ size_of_cells one + size_of_cells other
size_append [] other = omega arith
size_append (cell ∷ one) other = omega (arith, size_append one other)

pub size_turned : (heap : Heap) → size_of_cells (reverse heap) ≡ heap_size heap
size_turned [] = refl
size_turned (cell ∷ earlier) = ap size_of_cells (reverse-append (cell ∷ []) earlier) ∙ (size_append (reverse earlier) (cell ∷ []) ∙ omega (arith, size_turned earlier))

pub heap_good : (good : ℕ → Cell → Bool) (heap : Heap) → ((number : ℕ) (cell : Cell) → find_cell heap number ≡ Some cell → good number cell ≡ true) → AreGood good 0 (reverse heap)
heap_good good [] all = tt
heap_good good (cell ∷ earlier) all =
    subst (AreGood good 0) (sym (reverse-append (cell ∷ []) earlier))
    (last_good good 0 (reverse earlier) cell
    (heap_good good earlier (λ number one e. all number one (found_in_more cell earlier number (found_below earlier number one e) ∙ e)))
    (ap (λ n. good n cell) (omega (arith, size_turned earlier)) ∙ all (heap_size earlier) cell (found_new earlier cell)))

none_bad : (code : CodeProgram) (heap : Heap) (homes : ℕ) (first : List Cell) (arguments : Bool) (place number : ℕ) (cells : List Cell) → AreGood (is_good_cell code heap homes) number cells → AreInPlace first arguments cells
    → bad_cell_from code heap homes first arguments place number cells ≡ None
none_bad code heap homes first arguments place number [] g p = ap (λ b. cond b (Some place) None) p
none_bad code heap homes first arguments place number (cell ∷ cells) g p =
    cond-true (is_good_cell code heap homes number cell && stands_first first arguments cell) _ (Some place) (and_from (is_good_cell code heap homes number cell) (stands_first first arguments cell) g.0 p.0)
    ∙ none_bad code heap homes (behind_first first) (arguments_behind first arguments cell) (place + 1) (number + cell_size cell) cells g.1 p.1

-- ---- homes

first_home : (code : CodeProgram) (homes : ℕ) (cell : Cell) (cells : List Cell) → blocks_have_homes code homes (cell ∷ cells) ≡ true → (has_home code homes cell ≡ true) × (blocks_have_homes code homes cells ≡ true)
first_home code homes (BlockCell body env home receiver holder) cells e = and_parts (has_block_home code homes body home) (blocks_have_homes code homes cells) e
first_home code homes (ObjectCell class entries) cells e = (refl, e)
first_home code homes (ClassCell decl base encl holder over) cells e = (refl, e)
first_home code homes (EnvironmentCell parent locals) cells e = (refl, e)
first_home code homes (ArrayCell items) cells e = (refl, e)
first_home code homes (TextCell bytes) cells e = (refl, e)
first_home code homes (FacetCell kind) cells e = (refl, e)
first_home code homes (MirrorCell mirrored) cells e = (refl, e)
first_home code homes (MessageCell sel args) cells e = (refl, e)

home_told : (code : CodeProgram) (homes : ℕ) (heap : Heap) (number : ℕ) (cell : Cell) → blocks_have_homes code homes heap ≡ true → find_cell heap number ≡ Some cell → has_home code homes cell ≡ true
home_told code homes [] number cell h e = absurd (cc)
home_told code homes (first ∷ earlier) number cell h e =
    let parts = first_home code homes first earlier h in
    tested (number == heap_size earlier) e parts.0 (home_told code homes earlier number cell parts.1)
  where
    tested : (b : Bool) → cond b (Some first) (find_cell earlier number) ≡ Some cell → has_home code homes first ≡ true → (find_cell earlier number ≡ Some cell → has_home code homes cell ≡ true) → has_home code homes cell ≡ true
    tested true e here below = subst (λ (c : Cell). has_home code homes c ≡ true) (same_Some first cell e) here
    tested false e here below = below e

-- The cells of a valid world have no bad one among them.
pub cells_told : (code : CodeProgram) (first : List Cell) (arguments : Bool) (number : ℕ) (progress : Progress) → WorldIsValid code first progress → list_all stands_itself first ≡ true
    → HaveArguments arguments number (drop (length first) (reverse progress.world.cells))
    → bad_cell_from code progress.world.cells progress.begun first arguments 0 0 (reverse progress.world.cells) ≡ None
cells_told code first arguments number progress v s a =
    let heap : Heap = progress.world.cells in
    none_bad code heap progress.begun first arguments 0 0 (reverse heap)
    (heap_good (is_good_cell code heap progress.begun) heap (λ n cell e. cell_told code progress.world v.lawful progress.begun n cell e (home_told code progress.begun heap n cell v.homes e)))
    (all_in_place first (reverse heap) arguments number s v.begins.start v.begins.others a)
