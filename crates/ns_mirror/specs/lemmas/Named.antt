-- The names of slots and the selectors of methods are live, since the code has sound classes.
use Rattle.std.proofs.Common.{◌≡◌, ℕ, zero, suc, ◌+◌, ◌-◌, List, [], ◌∷◌, length, slice_get, refl, ap, sym, ◌∙◌, Option, Some, None, All, Bool, true, false, cond, eqb, not, ◌&&◌, ◌||◌}
use Rattle.std.specs.Prelude.{nat_lt}
use Rattle.std.specs.Option.{option_map_or}
use Rattle.std.specs.List.{list_any}
use Rattle.std.proofs.lemmas.Bool.{and_parts, or_parts, or_left, not-true, not-false, lt-ltb}
use Rattle.std.proofs.lemmas.List.Elements.{All-nil, All-cons, All-append}
use Rattle.std.proofs.lemmas.Option.{slice_get_within}
use Rattle.ns_base.specs.declared.selector.Sel.{Sel}
use Rattle.ns_base.specs.Spelling.{is_identifier}
use Rattle.ns_code.specs.declared.program.CodeProgram.{CodeProgram}
use Rattle.ns_code.specs.declared.class.ClassCode.{ClassCode}
use Rattle.ns_code.specs.declared.class.SlotCode.{SlotCode}
use Rattle.ns_code.specs.declared.class.MethodCode.{MethodCode}
use Rattle.ns_code.specs.Selector.{own_text_at, has_name}
use Rattle.ns_code.specs.Own.{own_texts}
use Rattle.ns_code.specs.Soundness.{is_name, is_identifier_name, has_bad_literal, has_bad_scope, are_classes_sound, has_sound_classes}
use Rattle.ns_world.specs.declared.value.Value.TheVariants.{Sym}
use Rattle.ns_world.specs.declared.cell.NewCell.{NewCell}
use Rattle.ns_world.specs.declared.cell.NewCell.TheVariants as new
use Rattle.ns_world.specs.Heap.{Heap, no_class}
use Rattle.ns_world.specs.Layout.{declaration_of}
use Rattle.ns_world.specs.Lawful.{IsLiveValue}
use Rattle.ns_mirror.specs.Slots.{declared_slots, slot_symbols, slot_names_along}
use Rattle.ns_mirror.specs.Selectors.{public_selectors, declared_methods, declared_side_methods, methods_of_class, methods_of_shape}

-- whether some slot of a list has no identifier as its name, and whether some selector of a method is no name
abbrev has_bad_slot : CodeProgram → List SlotCode → Bool
has_bad_slot code slots = list_any (λ (slot : SlotCode). not (is_identifier_name code slot.name)) slots

abbrev has_bad_method : CodeProgram → List MethodCode → Bool
has_bad_method code methods = list_any (λ (method : MethodCode). not (is_name code method.sel)) methods

-- What is known of the names of a class.
record HasNames (code : CodeProgram) (class : ClassCode) : Type 0 where
  slots : has_bad_slot code class.slots ≡ false
  methods : has_bad_method code class.methods ≡ false
  side_methods : has_bad_method code class.side_methods ≡ false

last_three : (a b c d e f : Bool) → (a || (b || (c || (d || (e || f))))) ≡ false → (d ≡ false) × (e ≡ false) × (f ≡ false)
last_three true b c d e f h = absurd (cc)
last_three false true c d e f h = absurd (cc)
last_three false false true d e f h = absurd (cc)
last_three false false false true e f h = absurd (cc)
last_three false false false false true f h = absurd (cc)
last_three false false false false false f h = (refl, refl, h)

good_names : (code : CodeProgram) (class : ClassCode) → has_bad_literal code class ≡ false → HasNames code class
good_names code class e =
    let l = last_three (not (is_identifier_name code class.name)) (not (is_name code class.factory)) (not (is_name code class.super_sel)) (has_bad_slot code class.slots) (has_bad_method code class.methods) (has_bad_method code class.side_methods) e in
    record { slots = l.0; methods = l.1; side_methods = l.2 }

good_literals : (code : CodeProgram) (number : ℕ) (classes : List ClassCode) (decl : ℕ) (class : ClassCode) →
    are_classes_sound code number classes ≡ true → slice_get classes decl ≡ Some class → has_bad_literal code class ≡ false
good_literals code number [] decl class s e = absurd (cc)
good_literals code number (first ∷ classes) zero class s e =
    let is : first ≡ class = cc in
    let here = and_parts (not (has_bad_scope code number first) && not (has_bad_literal code first)) (are_classes_sound code (number + 1) classes) s in
    let literal = and_parts (not (has_bad_scope code number first)) (not (has_bad_literal code first)) here.0 in
    ap (has_bad_literal code) (sym is) ∙ not-true (has_bad_literal code first) literal.1
good_literals code number (first ∷ classes) (suc decl) class s e =
    let here = and_parts (not (has_bad_scope code number first) && not (has_bad_literal code first)) (are_classes_sound code (number + 1) classes) s in
    good_literals code (number + 1) classes decl class here.1 e

sound_names : (code : CodeProgram) (decl : ℕ) (class : ClassCode) → has_sound_classes code ≡ true →
    slice_get code.classes decl ≡ Some class → HasNames code class
sound_names code decl class sound e =
    let sounds = and_parts (nat_lt 0 (length code.classes)) (are_classes_sound code 0 code.classes) sound in
    good_names code class (good_literals code 0 code.classes decl class sounds.1 e)

-- the symbol of a name is live
name_live : (heap : Heap) (code : CodeProgram) (sel : Sel) → is_name code sel ≡ true → IsLiveValue heap code (Sym sel)
name_live heap code sel e =
    (or_left (nat_lt sel.0 (length code.names)) (nat_lt (sel.0 - length code.names) (length own_texts) && not (has_name code (own_text_at (sel.0 - length code.names)))) e, refl)

-- and an identifier that is named is a name
identifier_named : (code : CodeProgram) (sel : Sel) → is_identifier_name code sel ≡ true → is_name code sel ≡ true
identifier_named code sel e = found (slice_get code.names sel.0) refl e
  where
    found : (o : Option (List ℕ)) → slice_get code.names sel.0 ≡ o → option_map_or is_identifier o false ≡ true → is_name code sel ≡ true
    found None f e = absurd (cc)
    found (Some name) f e = lt-ltb sel.0 (length code.names) (slice_get_within code.names sel.0 name f)

symbols_live : (heap : Heap) (code : CodeProgram) (slots : List SlotCode) → has_bad_slot code slots ≡ false →
    All (IsLiveValue heap code) (slot_symbols slots)
symbols_live heap code [] e = All-nil (IsLiveValue heap code)
symbols_live heap code (slot ∷ slots) e =
    let both = or_parts (not (is_identifier_name code slot.name)) (has_bad_slot code slots) e in
    All-cons (IsLiveValue heap code) (Sym slot.name) (slot_symbols slots) (name_live heap code slot.name (identifier_named code slot.name (not-false (is_identifier_name code slot.name) both.0))) (symbols_live heap code slots both.1)

selectors_live : (heap : Heap) (code : CodeProgram) (methods : List MethodCode) → has_bad_method code methods ≡ false →
    All (IsLiveValue heap code) (public_selectors methods)
selectors_live heap code [] e = All-nil (IsLiveValue heap code)
selectors_live heap code (method ∷ methods) e =
    let both = or_parts (not (is_name code method.sel)) (has_bad_method code methods) e in
    tested (eqb method.access 0) (not-false (is_name code method.sel) both.0) (selectors_live heap code methods both.1)
  where
    tested : (b : Bool) → is_name code method.sel ≡ true → All (IsLiveValue heap code) (public_selectors methods) → All (IsLiveValue heap code) (cond b (Sym method.sel ∷ public_selectors methods) (public_selectors methods))
    tested true named rest = All-cons (IsLiveValue heap code) (Sym method.sel) (public_selectors methods) (name_live heap code method.sel named) rest
    tested false named rest = rest

slots_of_live : (heap : Heap) (code : CodeProgram) (decl : ℕ) → has_sound_classes code ≡ true →
    All (IsLiveValue heap code) (slot_symbols (declared_slots code decl))
slots_of_live heap code decl sound = found (slice_get code.classes decl) refl
  where
    found : (o : Option ClassCode) → slice_get code.classes decl ≡ o → All (IsLiveValue heap code) (slot_symbols (option_map_or (λ (class : ClassCode). class.slots) o []))
    found None e = All-nil (IsLiveValue heap code)
    found (Some class) e = symbols_live heap code class.slots (sound_names code decl class sound e).slots

-- the names of the slots along a chain
pub slot_names_live : (heap : Heap) (code : CodeProgram) (chain : List ℕ) → has_sound_classes code ≡ true →
    All (IsLiveValue heap code) (slot_names_along heap code chain)
slot_names_live heap code [] sound = All-nil (IsLiveValue heap code)
slot_names_live heap code (class ∷ classes) sound =
    All-append (IsLiveValue heap code) (slot_names_along heap code classes) (slot_symbols (declared_slots code (declaration_of heap class))) (slot_names_live heap code classes sound) (slots_of_live heap code (declaration_of heap class) sound)

methods_live : (heap : Heap) (code : CodeProgram) (decl : ℕ) → has_sound_classes code ≡ true →
    All (IsLiveValue heap code) (public_selectors (declared_methods code decl))
methods_live heap code decl sound = found (slice_get code.classes decl) refl
  where
    found : (o : Option ClassCode) → slice_get code.classes decl ≡ o → All (IsLiveValue heap code) (public_selectors (option_map_or (λ (class : ClassCode). class.methods) o []))
    found None e = All-nil (IsLiveValue heap code)
    found (Some class) e = selectors_live heap code class.methods (sound_names code decl class sound e).methods

side_methods_live : (heap : Heap) (code : CodeProgram) (decl : ℕ) → has_sound_classes code ≡ true →
    All (IsLiveValue heap code) (public_selectors (declared_side_methods code decl))
side_methods_live heap code decl sound = found (slice_get code.classes decl) refl
  where
    found : (o : Option ClassCode) → slice_get code.classes decl ≡ o → All (IsLiveValue heap code) (public_selectors (option_map_or (λ (class : ClassCode). class.side_methods) o []))
    found None e = All-nil (IsLiveValue heap code)
    found (Some class) e = selectors_live heap code class.side_methods (sound_names code decl class sound e).side_methods

of_class_live : (heap : Heap) (code : CodeProgram) (class : ℕ) → has_sound_classes code ≡ true →
    All (IsLiveValue heap code) (public_selectors (methods_of_class heap code class))
of_class_live heap code class sound = tested (eqb class no_class)
  where
    tested : (b : Bool) → All (IsLiveValue heap code) (public_selectors (cond b [] (declared_methods code (declaration_of heap class))))
    tested true = All-nil (IsLiveValue heap code)
    tested false = methods_live heap code (declaration_of heap class) sound

-- the selectors that a mirror shows
pub shown_selectors_live : (heap : Heap) (code : CodeProgram) (shape : NewCell) → has_sound_classes code ≡ true →
    All (IsLiveValue heap code) (public_selectors (methods_of_shape heap code shape))
shown_selectors_live heap code (new.Object class words) sound = of_class_live heap code class sound
shown_selectors_live heap code (new.Class decl base encl holder over) sound = side_methods_live heap code decl sound
shown_selectors_live heap code (new.Block body env home receiver holder) sound = All-nil (IsLiveValue heap code)
shown_selectors_live heap code (new.Environment parent locals) sound = All-nil (IsLiveValue heap code)
shown_selectors_live heap code (new.Array size) sound = All-nil (IsLiveValue heap code)
shown_selectors_live heap code (new.Text bytes) sound = All-nil (IsLiveValue heap code)
shown_selectors_live heap code (new.Facet kind) sound = All-nil (IsLiveValue heap code)
shown_selectors_live heap code (new.Mirror mirrored) sound = All-nil (IsLiveValue heap code)
shown_selectors_live heap code (new.Message sel args) sound = All-nil (IsLiveValue heap code)
