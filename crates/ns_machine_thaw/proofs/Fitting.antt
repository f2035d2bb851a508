-- Where cells can be made one behind the other, so can those before the last.
use Rattle.std.proofs.Common.{◌≡◌, ℕ, ◌+◌, ◌<◌, ◌≤◌, List, [], ◌∷◌, refl, ap, sym, ◌∙◌, subst, arith, Option, Some, None, Bool, true, cond}
use Rattle.std.proofs.lemmas.Bool.{le-leb}
use Rattle.std.proofs.lemmas.Option.{same_Some}
use Rattle.std.specs.Prelude.{Result, Ok, Err}
use Rattle.std.specs.Option.{option_map_or}
use Rattle.ns_code.specs.declared.program.CodeProgram.{CodeProgram}
use Rattle.ns_world.specs.declared.cell.NewCell.TheVariants.{Mirror}
use Rattle.ns_world.specs.declared.cell.CellLimit.{CellLimit}
use Rattle.ns_world.specs.declared.value.Value.{Value}
use Rattle.ns_world.specs.declared.value.Value.TheVariants.{Nil, Ref}
use Rattle.ns_world.specs.Cell.{Cell, ObjectCell, ClassCell, BlockCell, EnvironmentCell, ArrayCell, TextCell, FacetCell, MirrorCell, MessageCell, cell_size, shape_of}
use Rattle.ns_world.specs.Heap.{Heap, heap_size, find_cell, is_class, is_superclass, has_superclass, is_ordered, is_chain_start, superclass_of, no_class}
use Rattle.ns_world.specs.Layout.{declaration_of, base_of, base_in, entries_of, entries_above, layout_of}
use Rattle.ns_world.specs.Lawful.{IsLawful}
use Rattle.ns_world.specs.World.{World, WorldView, made, MakesCell}
use Rattle.ns_world.specs.laws.Above.{goes_on}
use Rattle.ns_world.specs.laws.Chains.{both_of, class_below, found_in_more}
use Rattle.ns_world.specs.laws.Classes.{IsInOrder, lawful_small, same_after_making, declaration_stays, layout_stays}
use Rattle.ns_classes.specs.laws.Bounds.{layout_few, layout_step}
use Rattle.ns_frozen.specs.declared.cell.CellData.{CellData}
use Rattle.ns_frozen.specs.Thawing.{cell_thawed, cells_onto}
use Rattle.ns_machine_thaw.specs.Cells.{HasItsBase, CellsFit, StandsOver, CellIsPut}

-- ---- one cell fewer

order_of : (code : CodeProgram) (most : ℕ) (heap : Heap) → CellsFit code most heap → IsInOrder heap
order_of code most heap fit = record { ordered = fit.ordered; small = fit.small }

-- the last cell has its superclass before it
pub last_superclass : (code : CodeProgram) (most : ℕ) (cell : Cell) (heap : Heap) → CellsFit code most (cell ∷ heap) → has_superclass heap cell ≡ true
last_superclass code most cell heap fit = (both_of (has_superclass heap cell) (is_ordered heap) fit.ordered).0

-- and there is room for it
pub last_within : (code : CodeProgram) (most : ℕ) (cell : Cell) (heap : Heap) → CellsFit code most (cell ∷ heap) → heap_size heap + cell_size cell ≤ most
last_within code most cell heap fit = fit.within

base_here : (code : CodeProgram) (cell : Cell) (heap : Heap) (class : ℕ) → IsInOrder heap → is_class (find_cell heap class) ≡ true
    → HasItsBase code (cell ∷ heap) class → HasItsBase code heap class
base_here code cell heap class order is base =
    let found = found_in_more cell heap class (class_below heap class is) in
    let own : base_of (cell ∷ heap) class ≡ base_of heap class = ap (λ (o : Option Cell). base_in (option_map_or shape_of o (Mirror Nil))) found in
    let decl = declaration_stays heap (cell ∷ heap) class found in
    let start : is_chain_start heap class ≡ true = rw is refl in
    let all = layout_stays heap (cell ∷ heap) code class order (same_after_making heap cell order) start in
    record {
      all =
          ap (λ (n : ℕ). n + entries_of code (declaration_of heap class)) (sym own)
          ∙ (ap (λ (d : ℕ). base_of (cell ∷ heap) class + entries_of code d) (sym decl) ∙ (base.all ∙ all));
      few = subst (λ (n : ℕ). n ≤ 33553920) all base.few;
    }

pub earlier_fit : (code : CodeProgram) (most : ℕ) (cell : Cell) (heap : Heap) → CellsFit code most (cell ∷ heap) → CellsFit code most heap
earlier_fit code most cell heap fit =
    let parts = both_of (has_superclass heap cell) (is_ordered heap) fit.ordered in
    let order : IsInOrder heap = record { ordered = parts.1; small = omega (arith, fit.small) } in
    record {
      ordered = parts.1;
      small = order.small;
      within = omega (arith, fit.within);
      bases = λ class is. base_here code cell heap class order is
          (fit.bases class (ap is_class (found_in_more cell heap class (class_below heap class is)) ∙ is));
    }

-- cells on which others are put
pub below_fit : (code : CodeProgram) (most : ℕ) (heap : Heap) (cells : List CellData) → CellsFit code most (cells_onto code heap cells) → CellsFit code most heap
below_fit code most heap [] fit = fit
below_fit code most heap (cell ∷ cells) fit =
    earlier_fit code most (cell_thawed code heap cell) heap (below_fit code most (cell_thawed code heap cell ∷ heap) cells fit)

-- the last is small, and where it is a class, its superclass has its base
pub last_small : (code : CodeProgram) (most : ℕ) (cell : Cell) (heap : Heap) → CellsFit code most (cell ∷ heap) → heap_size heap + cell_size cell < no_class
last_small code most cell heap fit = fit.small

pub over_fit : (code : CodeProgram) (most decl base : ℕ) (encl holder over : Value) (heap : Heap) → CellsFit code most (ClassCell decl base encl holder over ∷ heap)
    → StandsOver code heap over
over_fit code most decl base encl holder over heap fit =
    let cell : Cell = ClassCell decl base encl holder over in
    let super : is_superclass heap over ≡ true = last_superclass code most cell heap fit in
    record {
      superclass = super;
      base = λ class is. (earlier_fit code most cell heap fit).bases class (ap (is_superclass heap) (sym is) ∙ super);
    }

-- the entries of its instances are its base and its own
pub base_is : (code : CodeProgram) (heap : Heap) (class : ℕ) → StandsOver code heap (Ref class)
    → base_of heap class + entries_of code (declaration_of heap class) ≡ entries_above heap code (Ref class)
base_is code heap class over = (over.base class refl).all

pub base_small : (code : CodeProgram) (heap : Heap) (class : ℕ) → StandsOver code heap (Ref class)
    → base_of heap class + entries_of code (declaration_of heap class) ≤ 33553920
base_small code heap class over = let base = over.base class refl in omega (arith, base.all, base.few)

-- ---- a lawful world

-- its cells can be made one behind the other
pub lawful_fit : (world : World) (code : CodeProgram) → IsLawful world code → CellsFit code world.limits.cells world.cells
lawful_fit world code lawful = record {
  ordered = lawful.ordered;
  small = lawful_small world code lawful;
  within = lawful.within.cells;
  bases = λ class is. based class is;
}
  where
    based : (class : ℕ) → is_class (find_cell world.cells class) ≡ true → HasItsBase code world.cells class
    based class is =
        let small = lawful_small world code lawful in
        let above = goes_on world.cells class lawful.ordered (omega (arith, small)) is in
        let step = layout_step world.cells code class (superclass_of world.cells class) above.chain in
        let start : is_chain_start world.cells class ≡ true = rw is refl in
        let own = base_is class (find_cell world.cells class) refl is in
        record {
          all = omega (arith, step, own);
          few = layout_few world code class lawful start;
        }
      where
        base_is : (class : ℕ) (o : Option Cell) → find_cell world.cells class ≡ o → is_class o ≡ true
            → base_of world.cells class ≡ layout_of world.cells code (superclass_of world.cells class)
        base_is class None e h = absurd (cc)
        base_is class (Some (ClassCell decl base encl holder over)) e h =
            let is : base_of world.cells class ≡ base = rw e refl in
            is ∙ (lawful.cells class (ClassCell decl base encl holder over) e).based
        base_is class (Some (ObjectCell class' entries)) e h = absurd (cc)
        base_is class (Some (BlockCell body env home receiver holder)) e h = absurd (cc)
        base_is class (Some (EnvironmentCell parent locals)) e h = absurd (cc)
        base_is class (Some (ArrayCell items)) e h = absurd (cc)
        base_is class (Some (TextCell bytes)) e h = absurd (cc)
        base_is class (Some (FacetCell kind)) e h = absurd (cc)
        base_is class (Some (MirrorCell mirrored)) e h = absurd (cc)
        base_is class (Some (MessageCell sel args)) e h = absurd (cc)

-- ---- making

-- where a cell fits, it is made
pub made_fits : (cell : Cell) (old new : WorldView) (result : Result ℕ CellLimit) → heap_size old.world.cells + cell_size cell ≤ old.world.limits.cells
    → MakesCell old cell result new → CellIsPut cell old new
made_fits cell old new result fits makes = by_result result makes
  where
    more : World
    more = record old.world { cells = cell ∷ old.world.cells }

    test : made old.world cell ≡ Some more
    test = ap (λ (b : Bool). cond b (Some more) None) (le-leb (heap_size old.world.cells + cell_size cell) old.world.limits.cells fits)

    by_result : (r : Result ℕ CellLimit) → MakesCell old cell r new → CellIsPut cell old new
    by_result (Ok number) makes = record { world = sym (same_Some more new.world (sym test ∙ makes.0)); room = makes.2 }
    by_result (Err limit) makes = let e = makes.0 in absurd (cc (e, test))
