-- The world of a valid frozen state is one in which a run can be.
use Rattle.std.proofs.Common.{◌≡◌, ℕ, ◌+◌, ◌<◌, ◌≤◌, List, [], ◌∷◌, ◌++◌, length, take, drop, reverse, refl, ap, sym, ◌∙◌, arith, Option, Some, None, Bool, true, false, cond, ◌&&◌}
use Rattle.std.proofs.lemmas.Bool.{and_parts, and_from, cond_both, eq-eqb, eqb-true, leb-true}
use Rattle.std.proofs.lemmas.List.Folds.{list_all-append}
use Rattle.std.specs.Prelude.{nat_le, ◌==◌}
use Rattle.std.specs.List.{list_all}
use Rattle.ns_code.specs.declared.program.CodeProgram.{CodeProgram}
use Rattle.ns_code.specs.declared.class.ClassCode.{ClassCode}
use Rattle.ns_code.specs.Soundness.{has_sound_classes, are_parents_earlier}
use Rattle.ns_verify.specs.Verify.{IsSound}
use Rattle.ns_world.specs.declared.value.Value.{Value}
use Rattle.ns_world.specs.declared.value.Value.TheVariants.{Nil, Kernel}
use Rattle.ns_world.specs.declared.value.KClass.TheVariants as kernel
use Rattle.ns_world.specs.declared.cell.FacetKind.{FacetKind}
use Rattle.ns_world.specs.declared.cell.FacetKind.TheVariants as facet
use Rattle.ns_world.specs.Cell.{Cell, ObjectCell, ClassCell, BlockCell, EnvironmentCell, ArrayCell, TextCell, FacetCell, MirrorCell, MessageCell, cell_size}
use Rattle.ns_world.specs.Heap.{Heap, heap_size, find_cell, no_class, superclass_in, declared_class}
use Rattle.ns_world.specs.Layout.{layout_of, entries_along}
use Rattle.ns_world.specs.Lawful.{IsLawful}
use Rattle.ns_world.specs.Seek.{is_nil, facet_number}
use Rattle.ns_world.specs.laws.Above.{chain_past}
use Rattle.ns_world.specs.laws.Classes.{IsInOrder}
use Rattle.ns_facets.specs.declared.row.Grants.{Grants}
use Rattle.ns_moves.specs.Start.{facet_if, facets_of, top_if, tops_of, standing_cells, size_of_cells}
use Rattle.ns_moves.specs.Valid.{is_no_facet, fitting, WorldIsValid}
use Rattle.ns_frozen.specs.declared.frozen.Frozen.{Frozen}
use Rattle.ns_frozen.specs.Thawing.{heap_thawed, world_thawed, progress_thawed}
use Rattle.ns_frozen.specs.Live.{is_object_class}
use Rattle.ns_frozen.specs.Cells.{is_good_cell, is_standing, first_cells, wants_arguments, ends_start}
use Rattle.ns_frozen.specs.Laws.{CanStand}
use Rattle.ns_frozen.specs.Fault.{IsValid}
use Rattle.ns_frozen.proofs.Based.{HaveBases}
use Rattle.ns_frozen.proofs.CellsTold.{AreGood, AreInPlace, HaveArguments, heap_good}
use Rattle.ns_frozen.proofs.Holds.{nil_holds}
use Rattle.ns_frozen.proofs.HeapHolds.{good_and_placed, good_at, linked_ordered, thawed_based, based_bases, homes_hold}
use Rattle.ns_frozen.proofs.CellHolds.{cell_holds, good_home, good_linked}
use Rattle.ns_frozen.proofs.States.{HasParts, has_parts}

-- ---- the cells of the start

-- whether a cell is a facet, or a class without entries above it that nothing encloses, over the kernel's Object
abbrev is_first : Cell → Bool
is_first (FacetCell kind) = true
is_first (ClassCell decl base encl holder over) = base == 0 && (is_nil encl && (is_nil holder && is_object_class over))
is_first cell = false

facet_first : (granted : Bool) (kind : FacetKind) → list_all is_first (facet_if granted kind) ≡ true
facet_first true kind = refl
facet_first false kind = refl

both_first : (one other : List Cell) → list_all is_first one ≡ true → list_all is_first other ≡ true → list_all is_first (one ++ other) ≡ true
both_first one other e f = list_all-append is_first one other ∙ and_from (list_all is_first one) (list_all is_first other) e f

top_first : (outer : Option ℕ) (decl : ℕ) → list_all is_first (top_if outer decl) ≡ true
top_first None decl = refl
top_first (Some outer) decl = refl

tops_first : (decl : ℕ) (classes : List ClassCode) → list_all is_first (tops_of decl classes) ≡ true
tops_first decl [] = refl
tops_first decl (class ∷ classes) = both_first (top_if class.outer decl) (tops_of (decl + 1) classes) (top_first class.outer decl) (tops_first (decl + 1) classes)

start_first : (code : CodeProgram) (grants : Grants) → list_all is_first (standing_cells code grants) ≡ true
start_first code grants =
    both_first (facets_of grants) (tops_of 0 code.classes)
    (both_first (facet_if grants.console facet.Console) _ (facet_first grants.console facet.Console)
    (both_first (facet_if grants.mirrors facet.Mirrors) _ (facet_first grants.mirrors facet.Mirrors)
    (both_first (facet_if grants.kernel facet.Kernel) (facet_if grants.board facet.Board) (facet_first grants.kernel facet.Kernel) (facet_first grants.board facet.Board))))
    (tops_first 0 code.classes)

fitting_first : (room used : ℕ) (cells : List Cell) → list_all is_first cells ≡ true → list_all is_first (fitting room used cells) ≡ true
fitting_first room used [] e = refl
fitting_first room used (cell ∷ cells) e =
    let parts = and_parts (is_first cell) (list_all is_first cells) e in
    cond_both (nat_le (used + cell_size cell) room) (cell ∷ fitting room (used + cell_size cell) cells) [] (λ list. list_all is_first list ≡ true)
    (λ t. and_from (is_first cell) _ parts.0 (fitting_first room (used + cell_size cell) cells parts.1)) (λ t. refl)

-- the cells that must come first, whether the start has ended the run or not
pub all_first : (code : CodeProgram) (frozen : Frozen) → list_all is_first (first_cells code frozen) ≡ true
all_first code frozen =
    cond_both (ends_start frozen.phase frozen.ending) (fitting frozen.limits.cells 0 (standing_cells code frozen.grants)) (standing_cells code frozen.grants) (λ list. list_all is_first list ≡ true)
    (λ t. fitting_first frozen.limits.cells 0 (standing_cells code frozen.grants) (start_first code frozen.grants)) (λ t. start_first code frozen.grants)

-- ---- a cell that stands for one of the start is that one

facet_same : (one other : FacetKind) → (facet_number one == facet_number other) ≡ true → one ≡ other
facet_same facet.Manifest facet.Manifest e = refl
facet_same facet.Platform facet.Platform e = refl
facet_same facet.Console facet.Console e = refl
facet_same facet.Mirrors facet.Mirrors e = refl
facet_same facet.Kernel facet.Kernel e = refl
facet_same facet.Board facet.Board e = refl
facet_same one other e = absurd (cc)

object_class_is : (value : Value) → is_object_class value ≡ true → value ≡ Kernel kernel.Object
object_class_is (Kernel kernel.Object) e = refl
object_class_is value e = absurd (cc)

-- whether a class over the kernel's Object has no entries above it
abbrev has_no_base : Cell → Bool
has_no_base (ClassCell decl base encl holder over) = cond (is_object_class over) (base == 0) true
has_no_base cell = true

class_same : (decl base base' decl' : ℕ) (encl holder over encl' holder' over' : Value) → base ≡ 0 → encl ≡ Nil → holder ≡ Nil → over ≡ Kernel kernel.Object → decl ≡ decl' → base' ≡ 0 → encl' ≡ Nil → holder' ≡ Nil → over' ≡ Kernel kernel.Object
    → ClassCell decl' base' encl' holder' over' ≡ ClassCell decl base encl holder over
class_same decl base base' decl' encl holder over encl' holder' over' b e h o d b' e' h' o' =
    ap (λ n. ClassCell n base' encl' holder' over') (sym d)
    ∙ (ap (λ n. ClassCell decl n encl' holder' over') (b' ∙ sym b)
    ∙ (ap (λ v. ClassCell decl base v holder' over') (e' ∙ sym e)
    ∙ (ap (λ v. ClassCell decl base encl v over') (h' ∙ sym h) ∙ ap (ClassCell decl base encl holder) (o' ∙ sym o))))

standing_same : (first cell : Cell) → is_first first ≡ true → is_standing first cell ≡ true → has_no_base cell ≡ true → cell ≡ first
standing_same (FacetCell kind) (FacetCell other) f s n = ap FacetCell (sym (facet_same kind other s))
standing_same (ClassCell decl base encl holder over) (ClassCell decl' base' encl' holder' over') f s n =
    let a = and_parts (base == 0) _ f in
    let b = and_parts (is_nil encl) _ a.1 in
    let c = and_parts (is_nil holder) (is_object_class over) b.1 in
    let p = and_parts (decl == decl') _ s in
    let q = and_parts (is_nil encl') _ p.1 in
    let r = and_parts (is_nil holder') (is_object_class over') q.1 in
    let none : (base' == 0) ≡ true = sym (ap (λ t. cond t (base' == 0) true) r.1) ∙ n in
    class_same decl base base' decl' encl holder over encl' holder' over' (eqb-true base 0 a.0) (nil_holds encl b.0) (nil_holds holder c.0) (object_class_is over c.1) (eqb-true decl decl' p.0)
    (eqb-true base' 0 none) (nil_holds encl' q.0) (nil_holds holder' r.0) (object_class_is over' r.1)
standing_same (FacetCell kind) cell f s n = absurd (cc)
standing_same (ClassCell decl base encl holder over) cell f s n = absurd (cc)
standing_same first cell f s n = absurd (cc)

-- ---- the beginning of the cells

others_hold : (cells : List Cell) → AreInPlace [] false cells → list_all is_no_facet cells ≡ true
others_hold [] p = refl
others_hold (ArrayCell items ∷ cells) p = others_hold cells p.1
others_hold (ObjectCell class entries ∷ cells) p = others_hold cells p.1
others_hold (ClassCell decl base encl holder over ∷ cells) p = others_hold cells p.1
others_hold (BlockCell body env home receiver holder ∷ cells) p = others_hold cells p.1
others_hold (EnvironmentCell parent locals ∷ cells) p = others_hold cells p.1
others_hold (TextCell bytes ∷ cells) p = others_hold cells p.1
others_hold (FacetCell kind ∷ cells) p = absurd (cc (p.0))
others_hold (MirrorCell mirrored ∷ cells) p = others_hold cells p.1
others_hold (MessageCell sel args ∷ cells) p = others_hold cells p.1

arguments_hold : (number : ℕ) (cells : List Cell) → AreInPlace [] true cells → (list_all is_no_facet cells ≡ true) × HaveArguments true number cells
arguments_hold number [] p = absurd (cc)
arguments_hold number (TextCell bytes ∷ cells) p = arguments_hold (number + cell_size (TextCell bytes)) cells p.1
arguments_hold number (ArrayCell items ∷ cells) p = (others_hold cells p.1, (number, refl))
arguments_hold number (ObjectCell class entries ∷ cells) p = absurd (cc (p.0))
arguments_hold number (ClassCell decl base encl holder over ∷ cells) p = absurd (cc (p.0))
arguments_hold number (BlockCell body env home receiver holder ∷ cells) p = absurd (cc (p.0))
arguments_hold number (EnvironmentCell parent locals ∷ cells) p = absurd (cc (p.0))
arguments_hold number (FacetCell kind ∷ cells) p = absurd (cc (p.0))
arguments_hold number (MirrorCell mirrored ∷ cells) p = absurd (cc (p.0))
arguments_hold number (MessageCell sel args ∷ cells) p = absurd (cc (p.0))

behind_hold : (arguments : Bool) (number : ℕ) (cells : List Cell) → AreInPlace [] arguments cells → (list_all is_no_facet cells ≡ true) × HaveArguments arguments number cells
behind_hold true number cells p = arguments_hold number cells p
behind_hold false number cells p = (others_hold cells p, tt)

-- the first cells are those of the start, and behind them stand the arguments where they are asked for, and no facet
begins_hold : (first cells : List Cell) (arguments : Bool) (number at : ℕ) → list_all is_first first ≡ true → AreInPlace first arguments cells → AreGood (λ n. has_no_base) at cells
    → (take (length first) cells ≡ first) × (list_all is_no_facet (drop (length first) cells) ≡ true) × HaveArguments arguments number (drop (length first) cells)
begins_hold [] cells arguments number at f p g = let both = behind_hold arguments number cells p in (refl, both.0, both.1)
begins_hold (one ∷ first) [] arguments number at f p g = absurd (cc)
begins_hold (one ∷ first) (cell ∷ cells) arguments number at f p g =
    let parts = and_parts (is_first one) (list_all is_first first) f in
    let more = begins_hold first cells arguments number (at + cell_size cell) parts.1 p.1 g.1 in
    (ap (λ (c : Cell). c ∷ take (length first) cells) (standing_same one cell parts.0 p.0 g.0) ∙ ap (λ (list : List Cell). one ∷ list) more.0, more.1, more.2)

-- ---- the world

no_base_holds : (code : CodeProgram) (heap : Heap) → heap_size heap ≤ no_class → HaveBases code heap → (number : ℕ) (cell : Cell) → find_cell heap number ≡ Some cell → has_no_base cell ≡ true
no_base_holds code heap small bases number (ClassCell decl base encl holder over) e =
    cond_both (is_object_class over) (base == 0) true (λ b. b ≡ true)
    (λ t. eq-eqb base 0 (bases number decl base encl holder over e
    ∙ (ap (λ o. layout_of heap code (declared_class (superclass_in o))) e
    ∙ (ap (λ v. layout_of heap code (declared_class v)) (object_class_is over t) ∙ ap (entries_along heap code) (chain_past heap no_class small)))))
    (λ t. refl)
no_base_holds code heap small bases number (ObjectCell class entries) e = refl
no_base_holds code heap small bases number (BlockCell body env home receiver holder) e = refl
no_base_holds code heap small bases number (EnvironmentCell parent locals) e = refl
no_base_holds code heap small bases number (ArrayCell items) e = refl
no_base_holds code heap small bases number (TextCell bytes) e = refl
no_base_holds code heap small bases number (FacetCell kind) e = refl
no_base_holds code heap small bases number (MirrorCell mirrored) e = refl
no_base_holds code heap small bases number (MessageCell sel args) e = refl

-- What is known of the world of a valid frozen state: it is valid behind the cells that must come first, and the arguments are there where they are asked for.
pub record WorldHolds (code : CodeProgram) (frozen : Frozen) : Type 0 where
  pub valid : WorldIsValid code (first_cells code frozen) (progress_thawed code frozen)
  pub arguments : HaveArguments (wants_arguments frozen.phase frozen.ending) (size_of_cells (first_cells code frozen)) (drop (length (first_cells code frozen)) (reverse (heap_thawed code frozen.cells)))

-- The world of a valid frozen state is one in which a run can be. That sound code has sound classes and earlier parents is the verifier's.
pub world_holds : (code : CodeProgram) → (IsSound code → has_sound_classes code ≡ true) → (IsSound code → are_parents_earlier 0 code.bodies ≡ true) → (frozen : Frozen) → CanStand code frozen → IsValid code frozen → WorldHolds code frozen
world_holds code classes parents frozen stand valid =
    let p : HasParts code frozen = has_parts code frozen valid in
    let heap : Heap = heap_thawed code frozen.cells in
    let first = first_cells code frozen in
    let a = and_parts (nat_le frozen.used.steps frozen.limits.steps && nat_le frozen.used.cells frozen.limits.cells) _ p.counted in
    let b = and_parts (nat_le frozen.used.steps frozen.limits.steps) (nat_le frozen.used.cells frozen.limits.cells) a.0 in
    let c = and_parts (nat_le frozen.used.depth frozen.limits.depth && nat_le frozen.used.out frozen.limits.out) _ a.1 in
    let d = and_parts (nat_le frozen.used.depth frozen.limits.depth) (nat_le frozen.used.out frozen.limits.out) c.0 in
    let e = and_parts (nat_le frozen.homes frozen.used.steps) _ c.1 in
    let f = and_parts (frozen.used.cells == heap_size heap) (frozen.used.out == length frozen.output) e.1 in
    let cells : heap_size heap ≤ frozen.limits.cells = omega (arith, leb-true frozen.used.cells frozen.limits.cells b.1, eqb-true frozen.used.cells (heap_size heap) f.0) in
    let out : length frozen.output ≤ frozen.limits.out = omega (arith, leb-true frozen.used.out frozen.limits.out d.1, eqb-true frozen.used.out (length frozen.output) f.1) in
    let small : heap_size heap < no_class = omega (arith, cells, stand.range.1.1) in
    let both = good_and_placed code heap frozen.homes first (wants_arguments frozen.phase frozen.ending) 0 0 (reverse heap) p.cells in
    let good : (number : ℕ) (cell : Cell) → find_cell heap number ≡ Some cell → is_good_cell code heap frozen.homes number cell ≡ true = good_at (is_good_cell code heap frozen.homes) heap both.0 in
    let ordered = linked_ordered code heap (good_linked code heap frozen.homes good) in
    let order : IsInOrder heap = record { ordered = ordered; small = small } in
    let bases : HaveBases code heap = based_bases code heap order (thawed_based code frozen.cells) in
    let few : heap_size heap ≤ no_class = omega (arith, small) in
    let begins = begins_hold first (reverse heap) (wants_arguments frozen.phase frozen.ending) (size_of_cells first) 0 (all_first code frozen) both.1 (heap_good (λ n. has_no_base) heap (no_base_holds code heap few bases)) in
    let lawful : IsLawful (world_thawed code frozen) code = record {
      within = record {
        limits = stand.range;
        cells = cells;
        steps = leb-true frozen.used.steps frozen.limits.steps b.0;
        depth = leb-true frozen.used.depth frozen.limits.depth d.0;
        out = out;
      };
      ordered = ordered;
      fits = stand.fits;
      parents = parents stand.sound;
      classes = classes stand.sound;
      cells = λ number cell is. cell_holds code heap frozen.homes number cell few bases is (good number cell is);
    } in
    record {
      valid = record {
        sound = stand.sound;
        lawful = lawful;
        begins = record { start = begins.0; others = begins.1 };
        homes = homes_hold code frozen.homes heap (λ number cell is. good_home code heap frozen.homes number cell (good number cell is));
        begun = leb-true frozen.homes frozen.used.steps e.0;
      };
      arguments = begins.2;
    }
