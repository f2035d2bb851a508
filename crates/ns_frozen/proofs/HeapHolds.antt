-- The cells of a valid frozen state are those of a lawful world.
use Rattle.std.proofs.Common.{◌≡◌, ℕ, ◌+◌, List, [], ◌∷◌, ◌++◌, length, reverse, refl, ap, sym, ◌∙◌, subst, arith, Some, None, Bool, true, false, cond, ◌&&◌}
use Rattle.std.proofs.lemmas.Bool.{and_parts, and_from, eq-eqb, eqb-true}
use Rattle.std.proofs.lemmas.List.{reverse-append}
use Rattle.std.proofs.lemmas.Option.{same_Some}
use Rattle.std.specs.Prelude.{nat_lt, nat_le, ◌==◌}
use Rattle.ns_code.specs.declared.program.CodeProgram.{CodeProgram}
use Rattle.ns_world.specs.declared.value.Value.{Value}
use Rattle.ns_world.specs.declared.value.Value.TheVariants.{Nil, True, False, Int, Sym, Kernel, Ref}
use Rattle.ns_world.specs.declared.value.KClass.TheVariants as kernel
use Rattle.ns_world.specs.Cell.{Cell, ObjectCell, ClassCell, BlockCell, EnvironmentCell, ArrayCell, TextCell, FacetCell, MirrorCell, MessageCell, cell_size}
use Rattle.ns_world.specs.Heap.{Heap, heap_size, find_cell, is_class, is_superclass, has_superclass, is_ordered, chain_of, chain_above}
use Rattle.ns_world.specs.Layout.{layout_above}
use Rattle.ns_world.specs.laws.Chains.{found_below, found_in_more, chain_in_more}
use Rattle.ns_world.specs.laws.Changing.{found_new}
use Rattle.ns_world.specs.laws.Classes.{IsInOrder, chain_starts, same_after_making, base_stays}
use Rattle.ns_moves.specs.Start.{size_of_cells}
use Rattle.ns_moves.specs.Valid.{blocks_have_homes}
use Rattle.ns_moves.specs.ValidFrames.{has_block_home}
use Rattle.ns_frozen.specs.declared.cell.CellData.{CellData}
use Rattle.ns_frozen.specs.declared.cell.CellData.TheVariants as cell
use Rattle.ns_frozen.specs.Thawing.{cell_thawed, cells_onto, heap_thawed}
use Rattle.ns_frozen.specs.Live.{has_chain, is_link, are_links}
use Rattle.ns_frozen.specs.Cells.{is_good_cell, stands_first, behind_first, arguments_behind, is_awaited, bad_cell_from}
use Rattle.ns_frozen.specs.Laws.{IsBased, AreBased}
use Rattle.ns_frozen.proofs.Based.{HaveBases, earlier_order, newest_base}
use Rattle.ns_frozen.proofs.CellTests.{has_home}
use Rattle.ns_frozen.proofs.CellsTold.{AreGood, AreInPlace, size_turned}
use Rattle.ns_frozen.proofs.Framed.{first_good}

-- ---- each cell is good

none_missing : (b : Bool) (place : ℕ) → cond b (Some place) None ≡ None → b ≡ false
none_missing true place e = absurd (cc)
none_missing false place e = refl

-- where no cell is bad, each is good and in its place
pub good_and_placed : (code : CodeProgram) (heap : Heap) (homes : ℕ) (first : List Cell) (arguments : Bool) (place number : ℕ) (cells : List Cell) → bad_cell_from code heap homes first arguments place number cells ≡ None
    → AreGood (is_good_cell code heap homes) number cells × AreInPlace first arguments cells
good_and_placed code heap homes first arguments place number [] e = (tt, none_missing (is_awaited first arguments) place e)
good_and_placed code heap homes first arguments place number (cell ∷ cells) e =
    let both = first_good (is_good_cell code heap homes number cell && stands_first first arguments cell) _ place e in
    let one = and_parts (is_good_cell code heap homes number cell) (stands_first first arguments cell) both.0 in
    let more = good_and_placed code heap homes (behind_first first) (arguments_behind first arguments cell) (place + 1) (number + cell_size cell) cells both.1 in
    ((one.0, more.0), (one.1, more.1))

last_part : (good : ℕ → Cell → Bool) (number : ℕ) (cells : List Cell) (last : Cell) → AreGood good number (cells ++ last ∷ []) → AreGood good number cells × (good (number + size_of_cells cells) last ≡ true)
last_part good number [] last g = (tt, ap (λ n. good n last) (omega arith) ∙ g.0)
last_part good number (cell ∷ cells) last g =
    let more = last_part good (number + cell_size cell) cells last g.1 in ((g.0, more.0), ap (λ n. good n last) (omega arith) ∙ more.1)

-- the cell of a number is good
pub good_at : (good : ℕ → Cell → Bool) (heap : Heap) → AreGood good 0 (reverse heap) → (number : ℕ) (cell : Cell) → find_cell heap number ≡ Some cell → good number cell ≡ true
good_at good [] g number cell e = absurd (cc)
good_at good (first ∷ earlier) g number cell e =
    let parts = last_part good 0 (reverse earlier) first (subst (AreGood good 0) (reverse-append (first ∷ []) earlier) g) in
    tested (number == heap_size earlier) refl e (ap (λ n. good n first) (omega (arith, size_turned earlier)) ∙ parts.1) (λ f. good_at good earlier parts.0 number cell f)
  where
    tested : (b : Bool) → (number == heap_size earlier) ≡ b → cond b (Some first) (find_cell earlier number) ≡ Some cell → good (heap_size earlier) first ≡ true → (find_cell earlier number ≡ Some cell → good number cell ≡ true) → good number cell ≡ true
    tested true t e here below =
        ap (λ n. good n cell) (eqb-true number (heap_size earlier) t) ∙ (ap (good (heap_size earlier)) (sym (same_Some first cell e)) ∙ here)
    tested false t e here below = below e

-- ---- order

-- each class is a link of the chain that it begins
abbrev pub AreLinked : CodeProgram → Heap → Type 0
AreLinked code heap =
    (number decl base : ℕ) (encl holder over : Value) → find_cell heap number ≡ Some (ClassCell decl base encl holder over) → (rest : List ℕ) → chain_of heap number ≡ number ∷ rest
    → is_link code rest (Some (ClassCell decl base encl holder over)) ≡ true

-- a class that has a chain is one
pub chain_links : (code : CodeProgram) (heap : Heap) (number decl base : ℕ) (encl holder over : Value) → has_chain code heap number ≡ true → find_cell heap number ≡ Some (ClassCell decl base encl holder over) → (rest : List ℕ)
    → chain_of heap number ≡ number ∷ rest → is_link code rest (Some (ClassCell decl base encl holder over)) ≡ true
chain_links code heap number decl base encl holder over e is rest c =
    let two = and_parts (is_class (find_cell heap number)) (nat_le (length (chain_of heap number)) 256 && are_links code heap (chain_of heap number)) e in
    let one = and_parts (nat_le (length (chain_of heap number)) 256) (are_links code heap (chain_of heap number)) two.1 in
    let links : are_links code heap (number ∷ rest) ≡ true = ap (are_links code heap) (sym c) ∙ one.1 in
    ap (is_link code rest) (sym is) ∙ (and_parts (is_link code rest (find_cell heap number)) (are_links code heap rest) links).0

earlier_linked : (code : CodeProgram) (cell : Cell) (earlier : Heap) → AreLinked code (cell ∷ earlier) → AreLinked code earlier
earlier_linked code cell earlier all number decl base encl holder over e rest c =
    let small = found_below earlier number (ClassCell decl base encl holder over) e in
    all number decl base encl holder over (found_in_more cell earlier number small ∙ e) rest (chain_in_more cell earlier number small ∙ c)

superclass_linked : (code : CodeProgram) (earlier : Heap) (decl base : ℕ) (encl holder over : Value) → is_link code (chain_above over (chain_of earlier)) (Some (ClassCell decl base encl holder over)) ≡ true → is_superclass earlier over ≡ true
superclass_linked code earlier decl base encl holder (Kernel kernel.Object) l = refl
superclass_linked code earlier decl base encl holder (Ref class) l = chained (chain_of earlier class) refl l
  where
    no_false : false ≡ true → ⊥
    no_false e = cc

    chained : (list : List ℕ) → chain_of earlier class ≡ list → is_link code list (Some (ClassCell decl base encl holder (Ref class))) ≡ true → is_class (find_cell earlier class) ≡ true
    chained [] c l = absurd (no_false ((and_parts (nat_lt decl (length code.classes)) false l).1))
    chained (first ∷ rest) c l = chain_starts earlier class 0 (omega (arith, ap length c))
superclass_linked code earlier decl base encl holder (Kernel kernel.Array) l = (and_parts (nat_lt decl (length code.classes)) false l).1
superclass_linked code earlier decl base encl holder Nil l = (and_parts (nat_lt decl (length code.classes)) false l).1
superclass_linked code earlier decl base encl holder True l = (and_parts (nat_lt decl (length code.classes)) false l).1
superclass_linked code earlier decl base encl holder False l = (and_parts (nat_lt decl (length code.classes)) false l).1
superclass_linked code earlier decl base encl holder (Int number) l = (and_parts (nat_lt decl (length code.classes)) false l).1
superclass_linked code earlier decl base encl holder (Sym sel) l = (and_parts (nat_lt decl (length code.classes)) false l).1

newest_chain : (earlier : Heap) (decl base : ℕ) (encl holder over : Value) → chain_of (ClassCell decl base encl holder over ∷ earlier) (heap_size earlier) ≡ heap_size earlier ∷ chain_above over (chain_of earlier)
newest_chain earlier decl base encl holder over = rw (eq-eqb (heap_size earlier) (heap_size earlier) refl) refl

newest_super : (code : CodeProgram) (cell : Cell) (earlier : Heap) → AreLinked code (cell ∷ earlier) → has_superclass earlier cell ≡ true
newest_super code (ClassCell decl base encl holder over) earlier all =
    superclass_linked code earlier decl base encl holder over
    (all (heap_size earlier) decl base encl holder over (found_new earlier (ClassCell decl base encl holder over)) (chain_above over (chain_of earlier)) (newest_chain earlier decl base encl holder over))
newest_super code (ObjectCell class entries) earlier all = refl
newest_super code (BlockCell body env home receiver holder) earlier all = refl
newest_super code (EnvironmentCell parent locals) earlier all = refl
newest_super code (ArrayCell items) earlier all = refl
newest_super code (TextCell bytes) earlier all = refl
newest_super code (FacetCell kind) earlier all = refl
newest_super code (MirrorCell mirrored) earlier all = refl
newest_super code (MessageCell sel args) earlier all = refl

-- where each class is linked, each has its superclass before it
pub linked_ordered : (code : CodeProgram) (heap : Heap) → AreLinked code heap → is_ordered heap ≡ true
linked_ordered code [] all = refl
linked_ordered code (cell ∷ earlier) all = and_from (has_superclass earlier cell) (is_ordered earlier) (newest_super code cell earlier all) (linked_ordered code earlier (earlier_linked code cell earlier all))

-- ---- bases

one_based : (code : CodeProgram) (earlier : Heap) (one : CellData) → IsBased code earlier (cell_thawed code earlier one)
one_based code earlier (cell.Object class words) = tt
one_based code earlier (cell.Class decl encl holder over) = refl
one_based code earlier (cell.Block body env receiver holder home) = tt
one_based code earlier (cell.Environment parent locals) = tt
one_based code earlier (cell.Array items) = tt
one_based code earlier (cell.Text bytes) = tt
one_based code earlier (cell.Facet kind) = tt
one_based code earlier (cell.Mirror mirrored) = tt
one_based code earlier (cell.Message sel args) = tt

onto_based : (code : CodeProgram) (earlier : Heap) (cells : List CellData) → AreBased code earlier → AreBased code (cells_onto code earlier cells)
onto_based code earlier [] based = based
onto_based code earlier (one ∷ cells) based = onto_based code (cell_thawed code earlier one ∷ earlier) cells (one_based code earlier one, based)

-- the cells that plain data stands for have the bases that it gives
pub thawed_based : (code : CodeProgram) (cells : List CellData) → AreBased code (heap_thawed code cells)
thawed_based code cells = onto_based code [] cells tt

-- these are how many entries the classes above have
pub based_bases : (code : CodeProgram) (heap : Heap) → IsInOrder heap → AreBased code heap → HaveBases code heap
based_bases code [] order based number decl base encl holder over e = absurd (cc)
based_bases code (cell ∷ earlier) order based number decl base encl holder over e =
    let before = earlier_order cell earlier order in
    let super = (and_parts (has_superclass earlier cell) (is_ordered earlier) order.ordered).0 in
    tested (number == heap_size earlier) refl e before super (based_bases code earlier before based.1 number decl base encl holder over)
  where
    tested : (b : Bool) → (number == heap_size earlier) ≡ b → cond b (Some cell) (find_cell earlier number) ≡ Some (ClassCell decl base encl holder over) → IsInOrder earlier → has_superclass earlier cell ≡ true
        → (find_cell earlier number ≡ Some (ClassCell decl base encl holder over) → base ≡ layout_above earlier code number) → base ≡ layout_above (cell ∷ earlier) code number
    tested true t e before super below =
        let is : cell ≡ ClassCell decl base encl holder over = same_Some cell (ClassCell decl base encl holder over) e in
        subst (λ c. base ≡ layout_above (c ∷ earlier) code number) (sym is)
        (subst (λ c. IsBased code earlier c) is based.0
        ∙ (sym (newest_base code earlier decl base encl holder over before (ap (has_superclass earlier) (sym is) ∙ super))
        ∙ ap (layout_above (ClassCell decl base encl holder over ∷ earlier) code) (sym (eqb-true number (heap_size earlier) t))))
    tested false t e before super below =
        below e ∙ sym (base_stays earlier (cell ∷ earlier) code number before (same_after_making earlier cell before) (ap is_class e))

-- ---- homes

pub homes_hold : (code : CodeProgram) (homes : ℕ) (heap : Heap) → ((number : ℕ) (cell : Cell) → find_cell heap number ≡ Some cell → has_home code homes cell ≡ true) → blocks_have_homes code homes heap ≡ true
homes_hold code homes [] all = refl
homes_hold code homes (cell ∷ earlier) all =
    one cell (all (heap_size earlier) cell (found_new earlier cell)) (homes_hold code homes earlier (λ number other e. all number other (found_in_more cell earlier number (found_below earlier number other e) ∙ e)))
  where
    one : (cell : Cell) → has_home code homes cell ≡ true → blocks_have_homes code homes earlier ≡ true → blocks_have_homes code homes (cell ∷ earlier) ≡ true
    one (BlockCell body env home receiver holder) h more = and_from (has_block_home code homes body home) (blocks_have_homes code homes earlier) h more
    one (ObjectCell class entries) h more = more
    one (ClassCell decl base encl holder over) h more = more
    one (EnvironmentCell parent locals) h more = more
    one (ArrayCell items) h more = more
    one (TextCell bytes) h more = more
    one (FacetCell kind) h more = more
    one (MirrorCell mirrored) h more = more
    one (MessageCell sel args) h more = more
