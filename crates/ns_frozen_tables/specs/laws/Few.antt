-- Laws of counts: a class of code that fits adds few entries, and so has a class of the heap.
use Rattle.std.proofs.Common.{◌≡◌, ℕ, ◌+◌, ◌*◌, ◌≤◌, [], ◌∷◌, length, slice_get, refl, ap, sym, ◌∙◌, subst, arith, Option, Some, None, Bool, true, false, eqb, ltb}
use Rattle.std.specs.Option.{option_map_or}
use Rattle.std.proofs.lemmas.Bool.{eqb-true, eq-eqb, ltb-true, ltb-false}
use Rattle.std.proofs.lemmas.Option.{slice_get_within, get_or_from_slice_get}
use Rattle.ns_code.specs.declared.program.CodeProgram.{CodeProgram}
use Rattle.ns_world.specs.declared.value.Value.{Value}
use Rattle.ns_world.specs.declared.value.Value.TheVariants.{Nil, True, False, Int, Sym, Kernel, Ref}
use Rattle.ns_world.specs.Cell.{Cell, ClassCell, ObjectCell, BlockCell, EnvironmentCell, ArrayCell, TextCell, FacetCell, MirrorCell, MessageCell}
use Rattle.ns_world.specs.Heap.{Heap, heap_size, is_class}
use Rattle.ns_world.specs.Layout.{entries_of, layout_of}
use Rattle.ns_code.specs.declared.class.ClassCode.{ClassCode}
use Rattle.ns_code.specs.Fits.{Fits, ClassFits}
use Rattle.ns_frozen_tables.specs.declared.chain.Chain.{Chain}
use Rattle.ns_frozen_tables.specs.Chain.{chain_over}
use Rattle.ns_frozen_tables.specs.laws.Linked.{chain_beside, newest, newest_other, none_past}

-- how many entries a class has at most, where each declaration adds at most so many
pub layout_few : (code : CodeProgram) → ((decl : ℕ) → entries_of code decl ≤ 131070) → (heap : Heap) (class : ℕ)
    → layout_of heap code class ≤ 131070 * (class + 1)
layout_few code few [] class = omega arith
layout_few code few (cell ∷ earlier) class = tested (eqb class (heap_size earlier)) refl (layout_few code few earlier)
  where
    Low : Type 0
    Low = (n : ℕ) → layout_of earlier code n ≤ 131070 * (n + 1)

    above_few : (above : ℕ) (b : Bool) → ltb above (heap_size earlier) ≡ b → Low → layout_of earlier code above ≤ 131070 * heap_size earlier
    above_few above true t low = omega (arith, low above, ltb-true above (heap_size earlier) t)
    above_few above false t low = omega (arith, ap (λ (c : Chain). c.layout) (none_past code earlier above (ltb-false above (heap_size earlier) t)))

    over_few : (over : Value) → Low → (chain_over code earlier over).layout ≤ 131070 * heap_size earlier
    over_few (Ref above) low = above_few above (ltb above (heap_size earlier)) refl low
    over_few Nil low = omega arith
    over_few True low = omega arith
    over_few False low = omega arith
    over_few (Int n) low = omega arith
    over_few (Sym sel) low = omega arith
    over_few (Kernel k) low = omega arith

    other : (one : Cell) → is_class (Some one) ≡ false → layout_of (one ∷ earlier) code (heap_size earlier) ≤ 131070 * (heap_size earlier + 1)
    other one e = omega (arith, ap (λ (c : Chain). c.layout) (newest_other code one earlier e))

    here : (one : Cell) → Low → layout_of (one ∷ earlier) code (heap_size earlier) ≤ 131070 * (heap_size earlier + 1)
    here (ClassCell decl base encl holder over) low =
        omega (arith, ap (λ (c : Chain). c.layout) (newest code earlier decl base encl holder over), few decl, over_few over low)
    here (ObjectCell class' entries) low = other (ObjectCell class' entries) refl
    here (BlockCell body env home receiver holder) low = other (BlockCell body env home receiver holder) refl
    here (EnvironmentCell parent locals) low = other (EnvironmentCell parent locals) refl
    here (ArrayCell items) low = other (ArrayCell items) refl
    here (TextCell bytes) low = other (TextCell bytes) refl
    here (FacetCell kind) low = other (FacetCell kind) refl
    here (MirrorCell mirrored) low = other (MirrorCell mirrored) refl
    here (MessageCell sel args) low = other (MessageCell sel args) refl

    tested : (b : Bool) → eqb class (heap_size earlier) ≡ b → Low → layout_of (cell ∷ earlier) code class ≤ 131070 * (class + 1)
    tested true t low = subst (λ (n : ℕ). layout_of (cell ∷ earlier) code n ≤ 131070 * (n + 1)) (sym (eqb-true class (heap_size earlier) t)) (here cell low)
    tested false t low =
        omega (arith, low class, ap (λ (c : Chain). c.layout) (chain_beside code cell earlier class (λ q. let x : true ≡ false = sym (eq-eqb class (heap_size earlier) q) ∙ t in cc)))

-- a class of code that fits has few slots and nested classes
pub class_few : (code : CodeProgram) (decl : ℕ) (class : ClassCode) → Fits code → slice_get code.classes decl ≡ Some class
    → (length class.slots ≤ 65535) × (length class.nested ≤ 65535)
class_few code decl class fits there =
    let one : ClassFits class = subst ClassFits (get_or_from_slice_get code.classes decl class class there) (fits.classes decl class (slice_get_within code.classes decl class there)) in
    (omega (arith, one.slot_count), omega (arith, one.nested_count))

-- so its declaration adds few entries
pub entries_few : (code : CodeProgram) → Fits code → (decl : ℕ) → entries_of code decl ≤ 131070
entries_few code fits decl = of (slice_get code.classes decl) refl
  where
    of : (o : Option ClassCode) → slice_get code.classes decl ≡ o → option_map_or (λ (class : ClassCode). length class.slots + length class.nested) o 0 ≤ 131070
    of None e = omega arith
    of (Some class) e = let few = class_few code decl class fits e in omega (arith, few.0, few.1)
