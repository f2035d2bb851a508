-- The chain of a class by that of its superclass.
use Rattle.std.proofs.Common.{◌≡◌, ◌≢◌, ℕ, zero, suc, ◌+◌, ◌<◌, ◌≤◌, List, [], ◌∷◌, length, get_or, slice_get, refl, ap, sym, ◌∙◌, subst, arith, Option, Some, None, Bool, true, false, cond, eqb, ltb, leb, ◌&&◌, option_map}
use Rattle.std.specs.Option.{option_map_or}
use Rattle.std.specs.Prelude.{nat_lt, nat_le, not, unwrap_or, ◌==◌}
use Rattle.std.proofs.lemmas.Bool.{eqb-true, eq-eqb, ltb-true, ltb-false, leb-true, leb-false}
use Rattle.ns_code.specs.declared.program.CodeProgram.{CodeProgram}
use Rattle.ns_world.specs.declared.value.Value.{Value}
use Rattle.ns_world.specs.declared.value.Value.TheVariants.{Nil, True, False, Int, Sym, Kernel, Ref}
use Rattle.ns_world.specs.declared.value.KClass.TheVariants as kernel
use Rattle.ns_world.specs.declared.cell.NewCell.TheVariants.{Mirror}
use Rattle.ns_world.specs.Cell.{Cell, ObjectCell, ClassCell, BlockCell, EnvironmentCell, ArrayCell, TextCell, FacetCell, MirrorCell, MessageCell, shape_of}
use Rattle.ns_world.specs.Heap.{Heap, heap_size, find_cell, is_class, chain_of, chain_at as chain_by, chain_above}
use Rattle.ns_world.specs.Starts.{declaration_in}
use Rattle.ns_world.specs.Layout.{declaration_of, entries_of, entries_along, layout_of}
use Rattle.ns_world.specs.laws.Chains.{both_of, found_below, found_in_more, chain_in_more}
use Rattle.ns_world.specs.laws.Above.{chain_past}
use Rattle.ns_world.specs.laws.Changing.{differs, found_new, found_old, chain_old}
use Rattle.ns_world.specs.laws.Firsts.{found_past}
use Rattle.ns_world.specs.laws.Classes.{chain_starts, declaration_stays}
use Rattle.ns_frozen.specs.Live.{is_link, are_links, has_chain}
use Rattle.ns_frozen_tables.specs.declared.chain.Chain.{Chain}
use Rattle.ns_frozen.specs.declared.cell.CellData.TheVariants as plain
use Rattle.ns_frozen.specs.Freezing.{cell_frozen}
use Rattle.ns_frozen_tables.specs.declared.chain.Chains.{Chains}
use Rattle.ns_frozen_tables.specs.Numbers.{number_end, IsPlaceOf}
use Rattle.ns_frozen_tables.specs.Chain.{no_chain, links_of, links_before, chain_at, chain_over, more_links, next_links, next_chain, AreChains}

-- ---- the numbers of a chain

-- Each of some numbers is below one.
abbrev pub Below : ℕ → List ℕ → Type 0
Below bound [] = Unit {0}
Below bound (number ∷ numbers) = (number < bound) × Below bound numbers

pub below_raised : (low high : ℕ) (numbers : List ℕ) → low ≤ high → Below low numbers → Below high numbers
below_raised low high [] h all = tt
below_raised low high (number ∷ numbers) h all = (omega (arith, h, all.0), below_raised low high numbers h all.1)

below_more : (cell : Cell) (earlier : Heap) (classes : List ℕ) → Below (heap_size earlier) classes → Below (heap_size (cell ∷ earlier)) classes
below_more cell earlier [] all = tt
below_more cell earlier (class ∷ classes) all = (omega (arith, all.0), below_more cell earlier classes all.1)

pub below_over : (earlier : Heap) (over : Value) → ((class : ℕ) → Below (heap_size earlier) (chain_of earlier class))
    → Below (heap_size earlier) (chain_above over (chain_of earlier))
below_over earlier (Ref class) all = all class
below_over earlier Nil all = tt
below_over earlier True all = tt
below_over earlier False all = tt
below_over earlier (Int number) all = tt
below_over earlier (Sym sel) all = tt
below_over earlier (Kernel class) all = tt

-- each is below the cells used
pub chain_below : (heap : Heap) (class : ℕ) → Below (heap_size heap) (chain_of heap class)
chain_below [] class = tt
chain_below (cell ∷ earlier) class = tested (eqb class (heap_size earlier)) refl (chain_below earlier)
  where
    here : (one : Cell) → class ≡ heap_size earlier → ((n : ℕ) → Below (heap_size earlier) (chain_of earlier n))
        → Below (heap_size (one ∷ earlier)) (chain_by one class (chain_of earlier))
    here (ClassCell decl base encl holder over) e all =
        (omega (arith, e), below_more (ClassCell decl base encl holder over) earlier (chain_above over (chain_of earlier)) (below_over earlier over all))
    here (ObjectCell class' entries) e all = tt
    here (BlockCell body env home receiver holder) e all = tt
    here (EnvironmentCell parent locals) e all = tt
    here (ArrayCell items) e all = tt
    here (TextCell bytes) e all = tt
    here (FacetCell kind) e all = tt
    here (MirrorCell mirrored) e all = tt
    here (MessageCell sel args) e all = tt

    tested : (b : Bool) → eqb class (heap_size earlier) ≡ b → ((n : ℕ) → Below (heap_size earlier) (chain_of earlier n))
        → Below (heap_size (cell ∷ earlier)) (cond b (chain_by cell class (chain_of earlier)) (chain_of earlier class))
    tested true t all = here cell (eqb-true class (heap_size earlier) t) all
    tested false t all = below_more cell earlier (chain_of earlier class) (all class)

-- ---- among more cells

links_in_more : (code : CodeProgram) (cell : Cell) (earlier : Heap) (classes : List ℕ) → Below (heap_size earlier) classes
    → are_links code (cell ∷ earlier) classes ≡ are_links code earlier classes
links_in_more code cell earlier [] all = refl
links_in_more code cell earlier (class ∷ classes) all =
    ap (λ o. is_link code classes o && are_links code (cell ∷ earlier) classes) (found_in_more cell earlier class all.0)
    ∙ ap (λ b. is_link code classes (find_cell earlier class) && b) (links_in_more code cell earlier classes all.1)

entries_in_more : (code : CodeProgram) (cell : Cell) (earlier : Heap) (classes : List ℕ) → Below (heap_size earlier) classes
    → entries_along (cell ∷ earlier) code classes ≡ entries_along earlier code classes
entries_in_more code cell earlier [] all = refl
entries_in_more code cell earlier (class ∷ classes) all =
    ap (λ d. entries_of code d + entries_along (cell ∷ earlier) code classes)
    (declaration_stays earlier (cell ∷ earlier) class (found_in_more cell earlier class all.0))
    ∙ ap (λ n. entries_of code (declaration_of earlier class) + n) (entries_in_more code cell earlier classes all.1)

-- by its parts
with_parts : (code : CodeProgram) (one other : Heap) (class : ℕ) → find_cell one class ≡ find_cell other class → chain_of one class ≡ chain_of other class
    → are_links code one (chain_of other class) ≡ are_links code other (chain_of other class)
    → entries_along one code (chain_of other class) ≡ entries_along other code (chain_of other class)
    → chain_at code one class ≡ chain_at code other class
with_parts code one other class found chain links entries =
    rw (found, chain, links, entries) refl

pub chain_stays : (code : CodeProgram) (cell : Cell) (earlier : Heap) (class : ℕ) → class < heap_size earlier
    → chain_at code (cell ∷ earlier) class ≡ chain_at code earlier class
chain_stays code cell earlier class h =
    with_parts code (cell ∷ earlier) earlier class (found_in_more cell earlier class h) (chain_in_more cell earlier class h)
    (links_in_more code cell earlier (chain_of earlier class) (chain_below earlier class))
    (entries_in_more code cell earlier (chain_of earlier class) (chain_below earlier class))

-- ---- what is kept

-- the chain at the place of a number
pub chain_there : (code : CodeProgram) (heap : Heap) (chains : Chains) (numbers : List ℕ) (kept : List Chain) (class place : ℕ) → AreChains code heap chains
    → numbers ≡ chains.numbers.items → kept ≡ chains.chains.items → IsPlaceOf numbers class (Some place)
    → unwrap_or (slice_get kept place) no_chain ≡ chain_at code heap class
chain_there code heap chains numbers kept class place are same held at =
    ap (λ (cs : List Chain). unwrap_or (slice_get cs place) no_chain) held
    ∙ (ap (λ (o : Option Chain). unwrap_or o no_chain) (are.there place (subst (λ (ns : List ℕ). place < length ns) same at.0))
    ∙ ap (chain_at code heap) (ap (λ (ns : List ℕ). get_or ns place 0) (sym same) ∙ at.1))

-- that of a number that is at no place
pub chain_absent : (code : CodeProgram) (heap : Heap) (chains : Chains) (numbers : List ℕ) (class : ℕ) → AreChains code heap chains → class < number_end
    → numbers ≡ chains.numbers.items → IsPlaceOf numbers class None → no_chain ≡ chain_at code heap class
chain_absent code heap chains numbers class are small same at =
    sym (are.absent class small (subst (λ (ns : List ℕ). IsPlaceOf ns class None) same at))

-- ---- the first of a chain

class_first : (heap : Heap) (class : ℕ) → is_class (find_cell heap class) ≡ true → 1 ≤ length (chain_of heap class)
class_first [] class e = absurd (cc)
class_first (cell ∷ earlier) class e = tested (eqb class (heap_size earlier)) e (class_first earlier class)
  where
    here : (one : Cell) → is_class (Some one) ≡ true → 1 ≤ length (chain_by one class (chain_of earlier))
    here (ClassCell decl base encl holder over) e = omega arith
    here (ObjectCell class' entries) e = absurd (cc)
    here (BlockCell body env home receiver holder) e = absurd (cc)
    here (EnvironmentCell parent locals) e = absurd (cc)
    here (ArrayCell items) e = absurd (cc)
    here (TextCell bytes) e = absurd (cc)
    here (FacetCell kind) e = absurd (cc)
    here (MirrorCell mirrored) e = absurd (cc)
    here (MessageCell sel args) e = absurd (cc)

    tested : (b : Bool) → is_class (cond b (Some cell) (find_cell earlier class)) ≡ true
        → (is_class (find_cell earlier class) ≡ true → 1 ≤ length (chain_of earlier class))
        → 1 ≤ length (cond b (chain_by cell class (chain_of earlier)) (chain_of earlier class))
    tested true e below = here cell e
    tested false e below = below e

-- a class has a chain exactly where links are kept of it
pub chain_told : (code : CodeProgram) (heap : Heap) (class : ℕ) → has_chain code heap class ≡ not (links_of code heap class == 0)
chain_told code heap class = tested (has_chain code heap class) refl
  where
    some : (n : ℕ) → 1 ≤ n → true ≡ not (n == 0)
    some zero h = absurd (omega (arith, h))
    some (suc n) h = rw (differs (suc n) 0 (λ q. absurd (omega (arith, q)))) refl

    is : has_chain code heap class ≡ true → is_class (find_cell heap class) ≡ true
    is e = (both_of (is_class (find_cell heap class)) (nat_le (length (chain_of heap class)) 256 && are_links code heap (chain_of heap class)) e).0

    tested : (b : Bool) → has_chain code heap class ≡ b → b ≡ not (cond b (length (chain_of heap class)) 0 == 0)
    tested true e = some (length (chain_of heap class)) (class_first heap class (is e))
    tested false e = refl

-- ---- the newest class

-- past the cells used nothing is kept
pub none_past : (code : CodeProgram) (heap : Heap) (class : ℕ) → heap_size heap ≤ class → chain_at code heap class ≡ no_chain
none_past code heap class h =
    let chain = chain_past heap class h in
    let found = found_past heap class h in
    rw (chain, found) refl

-- a cell beside the newest is as it was
pub chain_beside : (code : CodeProgram) (cell : Cell) (earlier : Heap) (class : ℕ) → class ≢ heap_size earlier
    → chain_at code (cell ∷ earlier) class ≡ chain_at code earlier class
chain_beside code cell earlier class h =
    with_parts code (cell ∷ earlier) earlier class (found_old earlier cell class h) (chain_old earlier cell class h)
    (links_in_more code cell earlier (chain_of earlier class) (chain_below earlier class))
    (entries_in_more code cell earlier (chain_of earlier class) (chain_below earlier class))

-- a cell that is no class has no chain
no_chain_by : (cell : Cell) (number : ℕ) (chain : ℕ → List ℕ) → is_class (Some cell) ≡ false → chain_by cell number chain ≡ []
no_chain_by (ClassCell decl base encl holder over) number chain e = absurd (cc)
no_chain_by (ObjectCell class entries) number chain e = refl
no_chain_by (BlockCell body env home receiver holder) number chain e = refl
no_chain_by (EnvironmentCell parent locals) number chain e = refl
no_chain_by (ArrayCell items) number chain e = refl
no_chain_by (TextCell bytes) number chain e = refl
no_chain_by (FacetCell kind) number chain e = refl
no_chain_by (MirrorCell mirrored) number chain e = refl
no_chain_by (MessageCell sel args) number chain e = refl

-- so nothing is kept of it
pub newest_other : (code : CodeProgram) (cell : Cell) (earlier : Heap) → is_class (Some cell) ≡ false
    → chain_at code (cell ∷ earlier) (heap_size earlier) ≡ no_chain
newest_other code cell earlier e =
    let found : find_cell (cell ∷ earlier) (heap_size earlier) ≡ Some cell = found_new earlier cell in
    let chain : chain_of (cell ∷ earlier) (heap_size earlier) ≡ [] =
    rw (eq-eqb (heap_size earlier) (heap_size earlier) refl) (no_chain_by cell (heap_size earlier) (chain_of earlier) e) in
    ap (λ (c : List ℕ). record { links = cond (is_class (find_cell (cell ∷ earlier) (heap_size earlier)) && (nat_le (length c) 256 && are_links code (cell ∷ earlier) c)) (length c) 0; layout = entries_along (cell ∷ earlier) code c }) chain
    ∙ (ap (λ (b : Bool). record { links = cond (b && true) 0 0; layout = 0 }) (ap is_class found ∙ e))

-- ---- links by those of the superclass

-- how many classes a chain has, where they are linked
abbrev pub kept : Bool → List ℕ → ℕ
kept links chain = cond (nat_le (length chain) 256 && links) (length chain) 0

-- one more link than some
more_some : (m : ℕ) → 1 ≤ m → m < 256 → more_links m ≡ suc m
more_some m low high =
    let z : eqb m 0 ≡ false = differs m 0 (λ q. absurd (omega (arith, low, q))) in
    let f : leb 256 m ≡ false = low_enough (leb 256 m) refl in
    rw (z, f) (omega arith)
  where
    low_enough : (b : Bool) → leb 256 m ≡ b → leb 256 m ≡ false
    low_enough true t = absurd (omega (arith, high, leb-true 256 m t))
    low_enough false t = t

more_full : (m : ℕ) → m ≡ 256 → more_links m ≡ 0
more_full m e = ap more_links e

by_tests : (one other d a : Bool) (m : ℕ) → nat_le (suc m) 256 ≡ one → nat_le m 256 ≡ other → 1 ≤ m
    → cond (one && (d && a)) (suc m) 0 ≡ cond d (more_links (cond (other && a) m 0)) 0
by_tests true true true true m e f low = sym (more_some m low (omega (arith, leb-true (suc m) 256 e)))
by_tests true true true false m e f low = refl
by_tests true true false a m e f low = refl
by_tests true false d a m e f low = absurd (omega (arith, leb-true (suc m) 256 e, leb-false m 256 f))
by_tests false true true true m e f low = sym (more_full m (omega (arith, leb-false (suc m) 256 e, leb-true m 256 f)))
by_tests false true true false m e f low = refl
by_tests false true false a m e f low = refl
by_tests false false true a m e f low = refl
by_tests false false false a m e f low = refl

no_more : (d : Bool) → ◌≡◌ {A = ℕ} (cond ((d && false) && true) 1 0) (cond d 0 0)
no_more true = refl
no_more false = refl

one_more : (d : Bool) → ◌≡◌ {A = ℕ} (cond ((d && true) && true) 1 0) (cond d 1 0)
one_more true = refl
one_more false = refl

counted_over : (code : CodeProgram) (earlier : Heap) (decl base : ℕ) (encl holder : Value) (class number : ℕ) (chain : List ℕ) → chain_of earlier class ≡ chain
    → kept (is_link code chain (Some (ClassCell decl base encl holder (Ref class))) && are_links code earlier chain) (number ∷ chain)
    ≡ cond (nat_lt decl (length code.classes)) (more_links (links_of code earlier class)) 0
counted_over code earlier decl base encl holder class number [] e =
    no_more (nat_lt decl (length code.classes)) ∙ ap (λ (n : ℕ). cond (nat_lt decl (length code.classes)) n 0) (sym none)
  where
    either : (b : Bool) → ◌≡◌ {A = ℕ} (cond b 0 0) 0
    either true = refl
    either false = refl

    none : more_links (links_of code earlier class) ≡ 0
    none = ap more_links (ap (λ (c : List ℕ). cond (has_chain code earlier class) (length c) 0) e ∙ either (has_chain code earlier class))
counted_over code earlier decl base encl holder class number (first ∷ rest) e =
    by_tests (nat_le (suc (length (first ∷ rest))) 256) (nat_le (length (first ∷ rest)) 256) (nat_lt decl (length code.classes)) (are_links code earlier (first ∷ rest))
    (length (first ∷ rest)) refl refl (omega arith)
    ∙ ap (λ (n : ℕ). cond (nat_lt decl (length code.classes)) (more_links n) 0) (sym links)
  where
    there : is_class (find_cell earlier class) ≡ true
    there = chain_starts earlier class 0 (omega (arith, ap length e))

    links : links_of code earlier class ≡ cond (nat_le (length (first ∷ rest)) 256 && are_links code earlier (first ∷ rest)) (length (first ∷ rest)) 0
    links =
        ap (λ (b : Bool). cond (b && (nat_le (length (chain_of earlier class)) 256 && are_links code earlier (chain_of earlier class))) (length (chain_of earlier class)) 0) there
        ∙ ap (λ (c : List ℕ). cond (nat_le (length c) 256 && are_links code earlier c) (length c) 0) e

counted : (code : CodeProgram) (earlier : Heap) (decl base : ℕ) (encl holder over : Value) (number : ℕ)
    → kept (is_link code (chain_above over (chain_of earlier)) (Some (ClassCell decl base encl holder over)) && are_links code earlier (chain_above over (chain_of earlier)))
    (number ∷ chain_above over (chain_of earlier))
    ≡ next_links code decl over (chain_over code earlier over).links
counted code earlier decl base encl holder (Ref class) number = counted_over code earlier decl base encl holder class number (chain_of earlier class) refl
counted code earlier decl base encl holder Nil number = no_more (nat_lt decl (length code.classes))
counted code earlier decl base encl holder True number = no_more (nat_lt decl (length code.classes))
counted code earlier decl base encl holder False number = no_more (nat_lt decl (length code.classes))
counted code earlier decl base encl holder (Int n) number = no_more (nat_lt decl (length code.classes))
counted code earlier decl base encl holder (Sym sel) number = no_more (nat_lt decl (length code.classes))
counted code earlier decl base encl holder (Kernel kernel.Object) number = one_more (nat_lt decl (length code.classes))
counted code earlier decl base encl holder (Kernel kernel.Array) number = no_more (nat_lt decl (length code.classes))

laid_over : (code : CodeProgram) (earlier : Heap) (over : Value)
    → entries_along earlier code (chain_above over (chain_of earlier)) ≡ (chain_over code earlier over).layout
laid_over code earlier (Ref class) = refl
laid_over code earlier Nil = refl
laid_over code earlier True = refl
laid_over code earlier False = refl
laid_over code earlier (Int n) = refl
laid_over code earlier (Sym sel) = refl
laid_over code earlier (Kernel class) = refl

-- the newest class has its chain by that of its superclass
pub newest : (code : CodeProgram) (earlier : Heap) (decl base : ℕ) (encl holder over : Value)
    → chain_at code (ClassCell decl base encl holder over ∷ earlier) (heap_size earlier) ≡ next_chain code decl over (chain_over code earlier over)
newest code earlier decl base encl holder over = ap (λ (n : ℕ). record { links = n; layout = layout_of heap code number }) links ∙ ap (λ (n : ℕ). record { links = next_links code decl over (chain_over code earlier over).links; layout = n }) layout
  where
    number : ℕ
    number = heap_size earlier

    cell : Cell
    cell = ClassCell decl base encl holder over

    heap : Heap
    heap = ClassCell decl base encl holder over ∷ earlier

    above : List ℕ
    above = chain_above over (chain_of earlier)

    all : Below (heap_size earlier) (chain_above over (chain_of earlier))
    all = below_over earlier over (chain_below earlier)

    found : find_cell heap number ≡ Some cell
    found = found_new earlier cell

    chain : chain_of heap number ≡ number ∷ above
    chain = rw (eq-eqb (heap_size earlier) (heap_size earlier) refl) refl

    links : links_of code heap number ≡ next_links code decl over (chain_over code earlier over).links
    links =
        ap (λ (c : List ℕ). cond (is_class (find_cell heap number) && (nat_le (length c) 256 && are_links code heap c)) (length c) 0) chain
        ∙ (ap (λ (o : Option Cell). cond (is_class o && (nat_le (length (number ∷ above)) 256 && (is_link code above o && are_links code heap above))) (length (number ∷ above)) 0) found
        ∙ (ap (λ (b : Bool). kept (is_link code above (Some cell) && b) (number ∷ above)) (links_in_more code cell earlier above all)
        ∙ counted code earlier decl base encl holder over number))

    layout : layout_of heap code number ≡ entries_of code decl + (chain_over code earlier over).layout
    layout =
        ap (entries_along heap code) chain
        ∙ (ap (λ (o : Option Cell). entries_of code (declaration_in (option_map_or shape_of o (Mirror Nil))) + entries_along heap code above) found
        ∙ ap (λ (n : ℕ). entries_of code decl + n) (entries_in_more code cell earlier above all ∙ laid_over code earlier over))

-- ---- links by the class itself

-- the superclass of the newest class was made before it
newest_before : (code : CodeProgram) (cell : Cell) (earlier : Heap) (over : Value)
    → links_before code (cell ∷ earlier) (heap_size earlier) over ≡ (chain_over code earlier over).links
newest_before code cell earlier (Ref class) = tested (ltb class (heap_size earlier)) refl
  where
    tested : (b : Bool) → ltb class (heap_size earlier) ≡ b → cond b (links_of code (cell ∷ earlier) class) 0 ≡ links_of code earlier class
    tested true t = ap (λ (c : Chain). c.links) (chain_stays code cell earlier class (ltb-true class (heap_size earlier) t))
    tested false t = sym (ap (λ (c : Chain). c.links) (none_past code earlier class (ltb-false class (heap_size earlier) t)))
newest_before code cell earlier Nil = refl
newest_before code cell earlier True = refl
newest_before code cell earlier False = refl
newest_before code cell earlier (Int n) = refl
newest_before code cell earlier (Sym sel) = refl
newest_before code cell earlier (Kernel class) = refl

-- so was that of an earlier one
earlier_before : (code : CodeProgram) (cell : Cell) (earlier : Heap) (number : ℕ) (over : Value) → number < heap_size earlier
    → links_before code (cell ∷ earlier) number over ≡ links_before code earlier number over
earlier_before code cell earlier number (Ref class) h = tested (ltb class number) refl
  where
    tested : (b : Bool) → ltb class number ≡ b → cond b (links_of code (cell ∷ earlier) class) 0 ≡ cond b (links_of code earlier class) 0
    tested true t = ap (λ (c : Chain). c.links) (chain_stays code cell earlier class (omega (arith, h, ltb-true class number t)))
    tested false t = refl
earlier_before code cell earlier number Nil h = refl
earlier_before code cell earlier number True h = refl
earlier_before code cell earlier number False h = refl
earlier_before code cell earlier number (Int n) h = refl
earlier_before code cell earlier number (Sym sel) h = refl
earlier_before code cell earlier number (Kernel class) h = refl

-- a class has a chain among more cells where it had one
pub has_stays : (code : CodeProgram) (cell : Cell) (earlier : Heap) (class : ℕ) → class < heap_size earlier
    → has_chain code (cell ∷ earlier) class ≡ has_chain code earlier class
has_stays code cell earlier class h =
    chain_told code (cell ∷ earlier) class ∙ (ap (λ (c : Chain). not (c.links == 0)) (chain_stays code cell earlier class h) ∙ sym (chain_told code earlier class))

-- a class has links by its own declaration and superclass
pub class_linked : (code : CodeProgram) (heap : Heap) (number decl : ℕ) (encl holder over : Value)
    → option_map cell_frozen (find_cell heap number) ≡ Some (plain.Class decl encl holder over)
    → not (next_links code decl over (links_before code heap number over) == 0) ≡ has_chain code heap number
class_linked code [] number decl encl holder over e = absurd (cc)
class_linked code (cell ∷ earlier) number decl encl holder over e = tested (eqb number (heap_size earlier)) refl e (class_linked code earlier number decl encl holder over)
  where
    Here : Cell → Type 0
    Here one = not (next_links code decl over (links_before code (one ∷ earlier) (heap_size earlier) over) == 0) ≡ has_chain code (one ∷ earlier) (heap_size earlier)

    made : (base : ℕ) (encl' holder' : Value) → Here (ClassCell decl base encl' holder' over)
    made base encl' holder' =
        ap (λ (n : ℕ). not (next_links code decl over n == 0)) (newest_before code (ClassCell decl base encl' holder' over) earlier over)
        ∙ (ap (λ (c : Chain). not (c.links == 0)) (sym (newest code earlier decl base encl' holder' over))
        ∙ sym (chain_told code (ClassCell decl base encl' holder' over ∷ earlier) (heap_size earlier)))

    here : (one : Cell) → Some (cell_frozen one) ≡ Some (plain.Class decl encl holder over) → Here one
    here (ClassCell decl' base encl' holder' over') e =
        let d : decl ≡ decl' = cc in
        let o : over ≡ over' = cc in
        subst (λ (n : ℕ). Here (ClassCell n base encl' holder' over')) d (subst (λ (v : Value). Here (ClassCell decl base encl' holder' v)) o (made base encl' holder'))
    here (ObjectCell class entries) e = absurd (cc)
    here (BlockCell body env home receiver holder') e = absurd (cc)
    here (EnvironmentCell parent locals) e = absurd (cc)
    here (ArrayCell items) e = absurd (cc)
    here (TextCell bytes) e = absurd (cc)
    here (FacetCell kind) e = absurd (cc)
    here (MirrorCell mirrored) e = absurd (cc)
    here (MessageCell sel args) e = absurd (cc)

    below : (o : Option Cell) → find_cell earlier number ≡ o → option_map cell_frozen o ≡ Some (plain.Class decl encl holder over) → number < heap_size earlier
    below None f e = absurd (cc)
    below (Some one) f e = found_below earlier number one f

    tested : (b : Bool) → eqb number (heap_size earlier) ≡ b
        → option_map cell_frozen (cond b (Some cell) (find_cell earlier number)) ≡ Some (plain.Class decl encl holder over)
        → (option_map cell_frozen (find_cell earlier number) ≡ Some (plain.Class decl encl holder over) → not (next_links code decl over (links_before code earlier number over) == 0) ≡ has_chain code earlier number)
        → not (next_links code decl over (links_before code (cell ∷ earlier) number over) == 0) ≡ has_chain code (cell ∷ earlier) number
    tested true t e before =
        subst (λ (n : ℕ). not (next_links code decl over (links_before code (cell ∷ earlier) n over) == 0) ≡ has_chain code (cell ∷ earlier) n)
        (sym (eqb-true number (heap_size earlier) t)) (here cell e)
    tested false t e before =
        let h : number < heap_size earlier = below (find_cell earlier number) refl e in
        ap (λ (n : ℕ). not (next_links code decl over n == 0)) (earlier_before code cell earlier number over h)
        ∙ (before e ∙ sym (has_stays code cell earlier number h))
