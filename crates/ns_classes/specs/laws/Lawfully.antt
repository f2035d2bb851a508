-- A class that is made, and an entry that is filled, keep a lawful world lawful.
use Rattle.std.proofs.Common.{◌≡◌, ℕ, ◌+◌, ◌<◌, ◌≤◌, length, slice_get, refl, ap, sym, ◌∙◌, subst, arith, Some, None, Contains, Bool, true, false, cond}
use Rattle.std.specs.Prelude.{nat_lt}
use Rattle.std.specs.Option.{option_map_or}
use Rattle.std.proofs.lemmas.Bool.{ltb-false}
use Rattle.std.proofs.lemmas.Option.{slice_get_within}
use Rattle.ns_code.specs.declared.program.CodeProgram.{CodeProgram}
use Rattle.ns_code.specs.declared.class.ClassCode.{ClassCode}
use Rattle.ns_code.specs.declared.class.NestedCode.{NestedCode}
use Rattle.ns_world.specs.declared.value.Value.{Value}
use Rattle.ns_world.specs.declared.value.Value.TheVariants.{Nil, True, False, Int, Sym, Kernel, Ref}
use Rattle.ns_world.specs.declared.value.KClass.TheVariants as kernel
use Rattle.ns_world.specs.Heap.{Heap, find_cell, is_class, is_superclass, is_chain_start, chain_of, chain_above}
use Rattle.ns_world.specs.World.{World, written}
use Rattle.ns_world.specs.Lawful.{IsLiveValue, IsKept, HasHolder, IsLawful, class_of_object}
use Rattle.ns_world.specs.Layout.{declaration_of, entries_of, entry_word}
use Rattle.ns_world.specs.laws.Writing.{writing_keeps, object_starts}
use Rattle.ns_classes.specs.declared.apply.MakeFault.TheVariants.{NotAClass, ChainLimit}
use Rattle.ns_classes.specs.Apply.{chain_fault, class_fault}
use Rattle.ns_classes.specs.lemmas.Apart.{meet}

-- What is known of a superclass without a fault.
pub record SuperclassFits (heap : Heap) (over : Value) : Type 0 where
  pub superclass : is_superclass heap over ≡ true
  pub short : length (chain_above over (chain_of heap)) ≤ 255

-- A superclass without a fault fits.
pub fits : (heap : Heap) (over : Value) → class_fault heap over ≡ None → SuperclassFits heap over
fits heap (Kernel kernel.Object) e = record { superclass = refl; short = omega arith }
fits heap (Kernel kernel.Array) e = absurd (cc)
fits heap (Ref class) e = tested (is_class (find_cell heap class)) refl e
  where
    short : (b : Bool) → nat_lt 255 (length (chain_of heap class)) ≡ b → cond b (Some ChainLimit) None ≡ None → length (chain_of heap class) ≤ 255
    short true t e = absurd (cc)
    short false t e = omega (arith, ltb-false 255 (length (chain_of heap class)) t)

    tested : (b : Bool) → is_class (find_cell heap class) ≡ b → cond b (chain_fault (chain_of heap class)) (Some NotAClass) ≡ None → SuperclassFits heap (Ref class)
    tested true t e = record { superclass = t; short = short (nat_lt 255 (length (chain_of heap class))) refl e }
    tested false t e = absurd (cc)
fits heap Nil e = absurd (cc)
fits heap True e = absurd (cc)
fits heap False e = absurd (cc)
fits heap (Int number) e = absurd (cc)
fits heap (Sym sel) e = absurd (cc)

-- an entry of a declaration that is there
entries_are : (code : CodeProgram) (decl : ℕ) (declared : ClassCode) → slice_get code.classes decl ≡ Some declared →
    entries_of code decl ≡ length declared.slots + length declared.nested
entries_are code decl declared e = ap (λ o. option_map_or (λ (class : ClassCode). length class.slots + length class.nested) o 0) e

-- an entry is written: no nested class of another holder, and none of another number, stands at its word
entry_written : (world : World) (code : CodeProgram) (object holder entry : ℕ) (declared : ClassCode) (value : Value) →
    IsLawful world code → HasHolder world.cells (Ref object) holder →
    slice_get code.classes (declaration_of world.cells holder) ≡ Some declared → entry < length declared.slots + length declared.nested →
    IsLiveValue world.cells code value →
    ((k : ℕ) (nested : NestedCode) → slice_get declared.nested k ≡ Some nested → entry ≡ length declared.slots + k → IsKept world.cells object holder nested.class value) →
    IsLawful (written world object (entry_word world.cells code holder entry) value) code
entry_written world code object holder entry declared value lawful has d inside live kept =
    writing_keeps world code object (entry_word world.cells code holder entry) value lawful (live, λ class c other contained found f k nested n w. same class c other contained found f k nested n w)
  where
    same : (class : ℕ) → class_of_object (find_cell world.cells object) ≡ Some class → (other : ℕ) → Contains (chain_of world.cells class) other → (found : ClassCode) → slice_get code.classes (declaration_of world.cells other) ≡ Some found → (k : ℕ) (nested : NestedCode) → slice_get found.nested k ≡ Some nested → entry_word world.cells code other (length found.slots + k) ≡ entry_word world.cells code holder entry → IsKept world.cells object other nested.class value
    same class c other contained found f k nested n w =
        let one = has.0 class c in
        let start : is_chain_start world.cells class ≡ true = object_starts world code object class lawful c in
        let there : entry < entries_of code (declaration_of world.cells holder) = omega (arith, inside, entries_are code (declaration_of world.cells holder) declared d) in
        let here : length found.slots + k < entries_of code (declaration_of world.cells other) = omega (arith, slice_get_within found.nested k nested n, entries_are code (declaration_of world.cells other) found f) in
        let m = meet world code one.0 contained.0 class holder other entry (length found.slots + k) lawful start one.1 one.2 contained.1 contained.2 there here (sym w) in
        let both : Some declared ≡ Some found = sym d ∙ (ap (λ h. slice_get code.classes (declaration_of world.cells h)) m.0 ∙ f) in
        let is : declared ≡ found = cc in
        subst (λ h. IsKept world.cells object h nested.class value) m.0
        (kept k nested (ap (λ (x : ClassCode). slice_get x.nested k) is ∙ n) (m.1 ∙ ap (λ (x : ClassCode). length x.slots + k) (sym is)))

-- a slot is filled
pub slot_filled : (world : World) (code : CodeProgram) (object holder entry : ℕ) (declared : ClassCode) (value : Value) →
    IsLawful world code → HasHolder world.cells (Ref object) holder →
    slice_get code.classes (declaration_of world.cells holder) ≡ Some declared → entry < length declared.slots →
    IsLiveValue world.cells code value → IsLawful (written world object (entry_word world.cells code holder entry) value) code
slot_filled world code object holder entry declared value lawful has d inside live =
    entry_written world code object holder entry declared value lawful has d (omega (arith, inside)) live (λ k nested n e. absurd (omega (arith, e, inside)))

-- a nested class is kept
pub class_kept : (world : World) (code : CodeProgram) (object holder k : ℕ) (declared : ClassCode) (nested : NestedCode) (value : Value) →
    IsLawful world code → HasHolder world.cells (Ref object) holder →
    slice_get code.classes (declaration_of world.cells holder) ≡ Some declared → slice_get declared.nested k ≡ Some nested →
    IsLiveValue world.cells code value → IsKept world.cells object holder nested.class value →
    IsLawful (written world object (entry_word world.cells code holder (length declared.slots + k)) value) code
class_kept world code object holder k declared nested value lawful has d n live kept =
    entry_written world code object holder (length declared.slots + k) declared value lawful has d (omega (arith, slice_get_within declared.nested k nested n)) live
    (λ j other o e.
    let same : k ≡ j = omega (arith, e) in
    let both : Some nested ≡ Some other = sym n ∙ (ap (slice_get declared.nested) same ∙ o) in
    let is : nested ≡ other = cc in
    subst (λ (x : NestedCode). IsKept world.cells object holder x.class value) is kept)
