-- The chains of classes are kept one after another.
use Rattle.std.proofs.Common.{◌≡◌, ◌≢◌, ℕ, zero, suc, ◌+◌, ◌*◌, ◌<◌, ◌≤◌, List, [], ◌∷◌, ◌++◌, length, get_or, slice_get, drop, refl, ap, sym, ◌∙◌, subst, arith, Some, None, Bool, true, false, eqb, ltb}
use Rattle.std.proofs.lemmas.Bool.{eqb-true, eq-eqb, ltb-true, ltb-false}
use Rattle.ns_code.specs.declared.program.CodeProgram.{CodeProgram}
use Rattle.ns_world.specs.declared.value.Value.{Value}
use Rattle.ns_world.specs.declared.value.Value.TheVariants.{Nil, True, False, Int, Sym, Kernel, Ref}
use Rattle.ns_world.specs.Cell.{Cell, ClassCell, ObjectCell, BlockCell, EnvironmentCell, ArrayCell, TextCell, FacetCell, MirrorCell, MessageCell}
use Rattle.ns_world.specs.Heap.{Heap, heap_size, is_class}
use Rattle.ns_world.specs.Layout.{layout_of}
use Rattle.ns_world.specs.laws.Chains.{size_above}
use Rattle.ns_frozen.specs.declared.cell.CellData.{CellData}
use Rattle.ns_frozen.specs.declared.cell.CellData.TheVariants as plain
use Rattle.ns_frozen.specs.Thawing.{cell_thawed, cells_onto, heap_thawed}
use Rattle.ns_code.specs.Fits.{Fits}
use Rattle.ns_frozen_tables.specs.declared.chain.Chain.{Chain}
use Rattle.ns_frozen_tables.specs.declared.chain.Chains.{Chains}
use Rattle.ns_frozen_tables.specs.Numbers.{number_end, data_size, IsRising, IsPlaceOf}
use Rattle.ns_frozen_tables.specs.Chain.{no_chain, chain_at, chain_over, next_chain, AreChains, HasHeap}
use Rattle.ns_frozen_tables.specs.laws.Found.{size_thawed}
use Rattle.ns_frozen_tables.specs.laws.Linked.{chain_stays, chain_beside, newest, newest_other, none_past}
use Rattle.ns_frozen_tables.specs.laws.Lists.{got_left, got_end, one_longer, next_of}
use Rattle.ns_frozen_tables.specs.laws.Few.{layout_few, entries_few}

-- ---- one more at the end

or_left : (xs : List ℕ) (y k : ℕ) → k < length xs → get_or (xs ++ y ∷ []) k 0 ≡ get_or xs k 0
or_left [] y k h = absurd (omega (arith, h))
or_left (x ∷ xs) y zero h = refl
or_left (x ∷ xs) y (suc k) h = or_left xs y k (omega (arith, h))

or_end : (xs : List ℕ) (y : ℕ) → get_or (xs ++ y ∷ []) (length xs) 0 ≡ y
or_end [] y = refl
or_end (x ∷ xs) y = or_end xs y

-- what holds at each place, and of one more at the end
each_more : (P : ℕ → ℕ → Type 0) (xs : List ℕ) (y : ℕ) → ((k : ℕ) → k < length xs → P k (get_or xs k 0)) → P (length xs) y
    → (k : ℕ) → k < length (xs ++ y ∷ []) → P k (get_or (xs ++ y ∷ []) k 0)
each_more P xs y each last k h = tested (ltb k (length xs)) refl
  where
    tested : (b : Bool) → ltb k (length xs) ≡ b → P k (get_or (xs ++ y ∷ []) k 0)
    tested true t = subst (P k) (sym (or_left xs y k (ltb-true k (length xs) t))) (each k (ltb-true k (length xs) t))
    tested false t =
        let is : length xs ≡ k = omega (arith, h, ltb-false k (length xs) t, one_longer xs y) in
        subst (λ (n : ℕ). P n (get_or (xs ++ y ∷ []) n 0)) is (subst (P (length xs)) (sym (or_end xs y)) last)

rising_more : (xs : List ℕ) (y : ℕ) → IsRising xs → ((k : ℕ) → k < length xs → get_or xs k 0 ≤ y) → IsRising (xs ++ y ∷ [])
rising_more xs y rising low i j h within = each_more (λ j v. i ≤ j → get_or (xs ++ y ∷ []) i 0 ≤ v) xs y before last j within h
  where
    before : (j : ℕ) → j < length xs → i ≤ j → get_or (xs ++ y ∷ []) i 0 ≤ get_or xs j 0
    before j inside h = omega (arith, or_left xs y i (omega (arith, h, inside)), rising i j h inside)

    last : i ≤ length xs → get_or (xs ++ y ∷ []) i 0 ≤ y
    last h = each_more (λ i v. v ≤ y) xs y low (omega arith) i (omega (arith, h, one_longer xs y))

-- ---- one more cell

past_more : (code : CodeProgram) (cell : Cell) (heap : Heap) (chains : Chains) → AreChains code heap chains
    → ((class : ℕ) → class < number_end → IsPlaceOf chains.numbers.items class None → chain_at code (cell ∷ heap) class ≡ no_chain)
    → AreChains code (cell ∷ heap) chains
past_more code cell heap chains are absent = record {
  rising = are.rising;
  as_many = are.as_many;
  below = λ place h. omega (arith, are.below place h, size_above cell);
  few = are.few;
  there = λ place h. are.there place h ∙ ap Some (sym (chain_stays code cell heap (get_or chains.numbers.items place 0) (are.below place h)));
  absent = absent;
}

-- a cell that is no class changes nothing
pub other_more : (code : CodeProgram) (cell : Cell) (heap : Heap) (chains : Chains) → is_class (Some cell) ≡ false → AreChains code heap chains
    → AreChains code (cell ∷ heap) chains
other_more code cell heap chains e are = past_more code cell heap chains are absent
  where
    absent : (class : ℕ) → class < number_end → IsPlaceOf chains.numbers.items class None → chain_at code (cell ∷ heap) class ≡ no_chain
    absent class small none = tested (eqb class (heap_size heap)) refl
      where
        tested : (b : Bool) → eqb class (heap_size heap) ≡ b → chain_at code (cell ∷ heap) class ≡ no_chain
        tested true t = subst (λ (n : ℕ). chain_at code (cell ∷ heap) n ≡ no_chain) (sym (eqb-true class (heap_size heap) t)) (newest_other code cell heap e)
        tested false t = chain_beside code cell heap class (λ q. let x : true ≡ false = sym (eq-eqb class (heap_size heap) q) ∙ t in cc) ∙ are.absent class small none

-- as plain data
pub other_kept : (code : CodeProgram) (heap : Heap) (one : CellData) (chains : Chains)
    → ((decl : ℕ) (encl holder over : Value) → one ≡ plain.Class decl encl holder over → ⊥)
    → AreChains code heap chains → AreChains code (cell_thawed code heap one ∷ heap) chains
other_kept code heap (plain.Object class words) chains other are = other_more code (ObjectCell class words) heap chains refl are
other_kept code heap (plain.Class decl encl holder over) chains other are = absurd (other decl encl holder over refl)
other_kept code heap (plain.Block body env receiver holder home) chains other are = other_more code (BlockCell body env home receiver holder) heap chains refl are
other_kept code heap (plain.Environment parent locals) chains other are = other_more code (EnvironmentCell parent locals) heap chains refl are
other_kept code heap (plain.Array items) chains other are = other_more code (ArrayCell items) heap chains refl are
other_kept code heap (plain.Text bytes) chains other are = other_more code (TextCell bytes) heap chains refl are
other_kept code heap (plain.Facet kind) chains other are = other_more code (FacetCell kind) heap chains refl are
other_kept code heap (plain.Mirror mirrored) chains other are = other_more code (MirrorCell mirrored) heap chains refl are
other_kept code heap (plain.Message sel args) chains other are = other_more code (MessageCell sel args) heap chains refl are

-- nor does one behind the last number that a reference can name
pub far_more : (code : CodeProgram) (cell : Cell) (heap : Heap) (chains : Chains) → number_end ≤ heap_size heap → AreChains code heap chains
    → AreChains code (cell ∷ heap) chains
far_more code cell heap chains far are =
    past_more code cell heap chains are
    (λ class small none. chain_stays code cell heap class (omega (arith, far, small)) ∙ are.absent class small none)

-- the chain of a class is kept
pub class_more : (code : CodeProgram) (heap : Heap) (chains after : Chains) (decl base number : ℕ) (encl holder over : Value) → AreChains code heap chains
    → heap_size heap ≡ number → after.numbers.items ≡ chains.numbers.items ++ number ∷ []
    → after.chains.items ≡ chains.chains.items ++ next_chain code decl over (chain_over code heap over) ∷ []
    → AreChains code (ClassCell decl base encl holder over ∷ heap) after
class_more code heap chains after decl base number encl holder over are size numbers kept = record {
  rising = subst IsRising (sym numbers) (rising_more ns number are.rising (λ k h. omega (arith, are.below k h, size)));
  as_many = ap length kept ∙ (one_longer cs c ∙ (ap (λ n. suc n) are.as_many ∙ sym (ap length numbers ∙ one_longer ns number)));
  below = subst (λ (xs : List ℕ). (place : ℕ) → place < length xs → get_or xs place 0 < heap_size (cell ∷ heap)) (sym numbers)
      (each_more (λ k v. v < heap_size (cell ∷ heap)) ns number (λ k h. omega (arith, are.below k h)) (omega (arith, size)));
  few = subst (λ (xs : List ℕ). (place : ℕ) → place < length xs → place ≤ get_or xs place 0) (sym numbers)
      (each_more (λ k v. k ≤ v) ns number are.few (last_few (length ns) refl));
  there = subst (λ (xs : List ℕ). (place : ℕ) → place < length xs → slice_get after.chains.items place ≡ Some (chain_at code (cell ∷ heap) (get_or xs place 0))) (sym numbers)
      (each_more (λ k v. slice_get after.chains.items k ≡ Some (chain_at code (cell ∷ heap) v)) ns number before last);
  absent = absent;
}
  where
    ns : List ℕ
    ns = chains.numbers.items

    cs : List Chain
    cs = chains.chains.items

    c : Chain
    c = next_chain code decl over (chain_over code heap over)

    cell : Cell
    cell = ClassCell decl base encl holder over

    last_few : (n : ℕ) → length ns ≡ n → length ns ≤ number
    last_few zero e = omega (arith, e)
    last_few (suc n) e = omega (arith, e, are.few n (omega (arith, e)), are.below n (omega (arith, e)), size)

    here : chain_at code (cell ∷ heap) number ≡ c
    here = subst (λ (n : ℕ). chain_at code (cell ∷ heap) n ≡ c) size (newest code heap decl base encl holder over)

    before : (k : ℕ) → k < length ns → slice_get after.chains.items k ≡ Some (chain_at code (cell ∷ heap) (get_or ns k 0))
    before k h =
        ap (λ (xs : List Chain). slice_get xs k) kept
        ∙ (got_left cs c k (omega (arith, h, are.as_many))
        ∙ (are.there k h ∙ ap Some (sym (chain_stays code cell heap (get_or ns k 0) (are.below k h)))))

    last : slice_get after.chains.items (length ns) ≡ Some (chain_at code (cell ∷ heap) number)
    last =
        ap (λ (n : ℕ). slice_get after.chains.items n) (sym are.as_many)
        ∙ (ap (λ (xs : List Chain). slice_get xs (length cs)) kept ∙ (got_end cs c ∙ ap Some (sym here)))

    absent : (class : ℕ) → class < number_end → IsPlaceOf after.numbers.items class None → chain_at code (cell ∷ heap) class ≡ no_chain
    absent class small none = chain_beside code cell heap class differs ∙ are.absent class small old
      where
        nowhere : (place : ℕ) → place < length (ns ++ number ∷ []) → get_or (ns ++ number ∷ []) place 0 ≢ class
        nowhere = subst (λ (xs : List ℕ). (place : ℕ) → place < length xs → get_or xs place 0 ≢ class) numbers none

        differs : class ≢ heap_size heap
        differs q = nowhere (length ns) (omega (arith, one_longer ns number)) (or_end ns number ∙ (sym size ∙ sym q))

        old : IsPlaceOf ns class None
        old place h q = nowhere place (omega (arith, h, one_longer ns number)) (or_left ns number place h ∙ q)

-- ---- all cells

-- Some cells were gone over, and the next has that number.
pub record Built (code : CodeProgram) (cells left : List CellData) (number : ℕ) (chains : Chains) : Type 0 where
  pub heap : Heap
  pub all : cells_onto code heap left ≡ heap_thawed code cells
  pub size : heap_size heap ≡ number
  pub are : AreChains code heap chains

pub built_starts : (code : CodeProgram) (cells : List CellData) (chains : Chains) → chains.numbers.items ≡ [] → chains.chains.items ≡ []
    → Built code cells cells 0 chains
built_starts code cells chains numbers kept = record {
  heap = [];
  all = refl;
  size = refl;
  are = record {
    rising = subst IsRising (sym numbers) (λ i j h within. absurd (omega (arith, within)));
    as_many = ap length kept ∙ sym (ap length numbers);
    below = λ place h. absurd (omega (arith, h, ap length numbers));
    few = λ place h. absurd (omega (arith, h, ap length numbers));
    there = λ place h. absurd (omega (arith, h, ap length numbers));
    absent = λ class small none. refl;
  };
}

pub built_goes_on : (code : CodeProgram) (cells left : List CellData) (cell : CellData) (number size : ℕ) (chains after : Chains)
    → Built code cells (cell ∷ left) number chains
    → size ≡ data_size cell → ((heap : Heap) → heap_size heap ≡ number → AreChains code heap chains → AreChains code (cell_thawed code heap cell ∷ heap) after)
    → Built code cells left (number + size) after
built_goes_on code cells left cell number size chains after built is add = record {
  heap = cell_thawed code built.heap cell ∷ built.heap;
  all = built.all;
  size = omega (arith, built.size, size_thawed code built.heap cell, is);
  are = add built.heap built.size built.are;
}

pub built_ends : (code : CodeProgram) (cells left : List CellData) (number : ℕ) (chains : Chains) → Built code cells left number chains → left ≡ []
    → AreChains code (heap_thawed code cells) chains
built_ends code cells left number chains built end =
    subst (λ (h : Heap). AreChains code h chains) (ap (cells_onto code built.heap) (sym end) ∙ built.all) built.are

far_all : (code : CodeProgram) (heap : Heap) (left : List CellData) (chains : Chains) → number_end ≤ heap_size heap → AreChains code heap chains
    → AreChains code (cells_onto code heap left) chains
far_all code heap [] chains far are = are
far_all code heap (cell ∷ left) chains far are =
    far_all code (cell_thawed code heap cell ∷ heap) left chains (omega (arith, far)) (far_more code (cell_thawed code heap cell) heap chains far are)

pub built_past : (code : CodeProgram) (cells left : List CellData) (number : ℕ) (chains : Chains) → Built code cells left number chains
    → number_end ≤ number → AreChains code (heap_thawed code cells) chains
built_past code cells left number chains built far =
    subst (λ (h : Heap). AreChains code h chains) built.all (far_all code built.heap left chains (omega (arith, far, built.size)) built.are)

-- ---- layouts

-- so has the superclass of the next one
pub over_low : (code : CodeProgram) (number : ℕ) (chains : Chains) (over : Value) (chain : Chain) → Fits code → HasHeap code number chains → number < number_end
    → ((heap : Heap) → AreChains code heap chains → chain ≡ chain_over code heap over) → chain.layout ≤ 1152921504606846976
over_low code number chains over chain fits has small tells =
    omega (arith, ap (λ (c : Chain). c.layout) (tells has.heap has.are), of over, has.size, small)
  where
    of : (over : Value) → (chain_over code has.heap over).layout ≤ 131070 * heap_size has.heap
    of (Ref class) = split (ltb class (heap_size has.heap)) refl
      where
        split : (b : Bool) → ltb class (heap_size has.heap) ≡ b → layout_of has.heap code class ≤ 131070 * heap_size has.heap
        split true t = omega (arith, layout_few code (entries_few code fits) has.heap class, ltb-true class (heap_size has.heap) t)
        split false t = omega (arith, ap (λ (c : Chain). c.layout) (none_past code has.heap class (ltb-false class (heap_size has.heap) t)))
    of Nil = omega arith
    of True = omega arith
    of False = omega arith
    of (Int n) = omega arith
    of (Sym sel) = omega arith
    of (Kernel k) = omega arith

-- ---- a turn

-- the next of the cells that are left
pub built_item : (code : CodeProgram) (cells : List CellData) (index number : ℕ) (cell : CellData) (chains : Chains) → index < length cells
    → cell ≡ get_or cells index cell
    → Built code cells (drop index cells) number chains → Built code cells (cell ∷ drop (index + 1) cells) number chains
built_item code cells index number cell chains within is built =
    subst (λ (left : List CellData). Built code cells left number chains) (next_of cells index cell within is) built
