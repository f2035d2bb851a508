-- The private members of a class of code are those of the class that is meant.
use Rattle.std.proofs.Common.{◌≡◌, ℕ, List, [], ◌∷◌, ◌++◌, refl, ap, ◌∙◌}
use Rattle.std.specs.Prelude.{Bool, true, false, Option, Some, None, slice_get, map, filter, flat_map, option_map, ◌==◌, if◌then◌else◌}
use Rattle.std.specs.Option.{option_map_or}
use Rattle.std.proofs.lemmas.Option.{slice_get-map}
use Rattle.ns_base.specs.Names.{has, place_of}
use Rattle.ns_tree.specs.declared.tree.Access.{Access}
use Rattle.ns_tree.specs.declared.tree.Access.TheVariants as a
use Rattle.ns_scope.specs.declared.scope.CodeSide.{CodeSide}
use Rattle.ns_scope.specs.declared.scope.CodeSide.TheVariants as side
use Rattle.ns_scope.specs.Resolve.{is_private}
use Rattle.ns_code.specs.declared.class.ClassCode.{ClassCode}
use Rattle.ns_code.specs.declared.class.SlotCode.{SlotCode}
use Rattle.ns_code.specs.declared.class.NestedCode.{NestedCode}
use Rattle.ns_code.specs.declared.class.MethodCode.{MethodCode}
use Rattle.ns_code.specs.Soundness as s
use Rattle.ns_verify_members.specs.Members.{private_selectors}
use Rattle.ns_code.specs.Access.{private_access}
use Rattle.ns_resolved.specs.Program as m
use Rattle.ns_resolved.specs.Tables.{class_names, class_code, slot_code, nested_code, method_code, access_number, side_number, names_of}
use Rattle.ns_resolved.specs.There as t
use Rattle.ns_gen_code.specs.Code.{code_of}
use Rattle.ns_gen_code.specs.Stated.{AreThere}
use Rattle.ns_gen_code.proofs.Named.{text_named, class_named}
use Rattle.ns_gen_code.specs.laws.Names.{left_there, right_there}

private_same : (access : Access) → (access_number access == private_access) ≡ is_private access
private_same a.Public = refl
private_same a.Protected = refl
private_same a.Private = refl

-- ---- slots

pub slot_same : (meant : m.Meant) (slot : m.Slot) → has (names_of meant) slot.name ≡ true →
    s.slot_selectors (code_of meant) (slot_code (names_of meant) slot) ≡ t.slot_selectors slot
slot_same meant slot h =
    ap (λ o. option_map_or (λ (name : List ℕ). name ∷ (if slot.mutable then (name ++ 58 ∷ []) ∷ [] else [])) o []) (text_named meant slot.name h)

slots_step : (meant : m.Meant) (b : Bool) (first : List (List ℕ)) (slot : SlotCode) (slots : List SlotCode) (mine : m.Slot) (others : List m.Slot) →
    s.slot_selectors (code_of meant) slot ≡ t.slot_selectors mine →
    s.all_slot_selectors (code_of meant) slots ≡ flat_map t.slot_selectors others →
    s.all_slot_selectors (code_of meant) (if b then slot ∷ slots else slots) ≡ flat_map t.slot_selectors (if b then mine ∷ others else others)
slots_step meant true first slot slots mine others e f =
    ap (λ x. x ++ s.all_slot_selectors (code_of meant) slots) e ∙ ap (t.slot_selectors mine ++◌) f
slots_step meant false first slot slots mine others e f = f

slots_same : (meant : m.Meant) (slots : List m.Slot) → AreThere (names_of meant) (map (λ slot. slot.name) slots) →
    s.all_slot_selectors (code_of meant) (filter (λ (slot : SlotCode). slot.access == private_access) (map (slot_code (names_of meant)) slots))
    ≡ flat_map t.slot_selectors (filter (λ (slot : m.Slot). is_private slot.access) slots)
slots_same meant [] h = refl
slots_same meant (slot ∷ slots) h =
    let kept = filter (λ (slot : SlotCode). slot.access == private_access) (map (slot_code (names_of meant)) slots) in
    ap (λ b. s.all_slot_selectors (code_of meant) (if b then slot_code (names_of meant) slot ∷ kept else kept)) (private_same slot.access)
    ∙ slots_step meant (is_private slot.access) [] (slot_code (names_of meant) slot) kept slot (filter (λ (slot : m.Slot). is_private slot.access) slots)
    (slot_same meant slot h.0) (slots_same meant slots h.1)

-- ---- methods

pub text_step : (meant : m.Meant) (name : List ℕ) (numbers : List ℕ) (names : List (List ℕ)) → has (names_of meant) name ≡ true →
    s.texts_of (code_of meant) numbers ≡ names → s.texts_of (code_of meant) (place_of (names_of meant) name ∷ numbers) ≡ name ∷ names
text_step meant name numbers names h e =
    ap (λ o. option_map_or (λ (n : List ℕ). n ∷ s.texts_of (code_of meant) numbers) o (s.texts_of (code_of meant) numbers)) (text_named meant name h)
    ∙ ap (name ∷◌) e

methods_step : (meant : m.Meant) (b : Bool) (method : m.Method) (kept : List MethodCode) (mine : List m.Method) →
    has (names_of meant) method.selector ≡ true →
    s.texts_of (code_of meant) (map (λ (method : MethodCode). method.sel.0) kept) ≡ map (λ (method : m.Method). method.selector) mine →
    s.texts_of (code_of meant) (map (λ (method : MethodCode). method.sel.0) (if b then method_code (names_of meant) method ∷ kept else kept))
    ≡ map (λ (method : m.Method). method.selector) (if b then method ∷ mine else mine)
methods_step meant true method kept mine h e =
    text_step meant method.selector (map (λ (method : MethodCode). method.sel.0) kept) (map (λ (method : m.Method). method.selector) mine) h e
methods_step meant false method kept mine h e = e

methods_same : (meant : m.Meant) (methods : List m.Method) → AreThere (names_of meant) (map (λ method. method.selector) methods) →
    s.texts_of (code_of meant) (map (λ (method : MethodCode). method.sel.0)
    (filter (λ (method : MethodCode). method.access == private_access) (map (method_code (names_of meant)) methods)))
    ≡ map (λ (method : m.Method). method.selector) (filter (λ (method : m.Method). is_private method.access) methods)
methods_same meant [] h = refl
methods_same meant (method ∷ methods) h =
    let kept = filter (λ (method : MethodCode). method.access == private_access) (map (method_code (names_of meant)) methods) in
    ap (λ b. s.texts_of (code_of meant) (map (λ (method : MethodCode). method.sel.0) (if b then method_code (names_of meant) method ∷ kept else kept)))
    (private_same method.access)
    ∙ methods_step meant (is_private method.access) method kept (filter (λ (method : m.Method). is_private method.access) methods) h.0
    (methods_same meant methods h.1)

-- ---- nested classes

-- the name of a class that may be there
nested_found : (meant : m.Meant) (class : Option m.Declaration) (numbers : List ℕ) (names : List (List ℕ)) →
    ((inner : m.Declaration) → class ≡ Some inner → has (names_of meant) inner.name ≡ true) → s.texts_of (code_of meant) numbers ≡ names →
    s.texts_of (code_of meant)
    (option_map_or (λ (inner : ClassCode). inner.name.0 ∷ numbers) (option_map (class_code (names_of meant)) class) numbers)
    ≡ option_map_or (λ (inner : m.Declaration). inner.name ∷ names) class names
nested_found meant None numbers names h e = e
nested_found meant (Some inner) numbers names h e = text_step meant inner.name numbers names (h inner refl) e

pub nested_one : (meant : m.Meant) (number : ℕ) (numbers : List ℕ) (names : List (List ℕ)) → s.texts_of (code_of meant) numbers ≡ names →
    s.texts_of (code_of meant)
    (option_map_or (λ (inner : ClassCode). inner.name.0 ∷ numbers) (slice_get (code_of meant).classes number) numbers)
    ≡ option_map_or (λ (inner : m.Declaration). inner.name ∷ names) (slice_get meant.classes number) names
nested_one meant number numbers names e =
    ap (λ o. s.texts_of (code_of meant) (option_map_or (λ (inner : ClassCode). inner.name.0 ∷ numbers) o numbers))
    (slice_get-map (class_code (names_of meant)) meant.classes number)
    ∙ nested_found meant (slice_get meant.classes number) numbers names (λ inner f. (class_named meant number inner f).0) e

nested_step : (meant : m.Meant) (b : Bool) (nested : m.Nested) (kept : List NestedCode) (mine : List m.Nested) →
    s.texts_of (code_of meant) (s.nested_names (code_of meant) kept) ≡ t.nested_names meant mine →
    s.texts_of (code_of meant) (s.nested_names (code_of meant) (if b then nested_code nested ∷ kept else kept))
    ≡ t.nested_names meant (if b then nested ∷ mine else mine)
nested_step meant true nested kept mine e =
    nested_one meant nested.class (s.nested_names (code_of meant) kept) (t.nested_names meant mine) e
nested_step meant false nested kept mine e = e

nested_same : (meant : m.Meant) (nested : List m.Nested) →
    s.texts_of (code_of meant) (s.nested_names (code_of meant) (filter (λ (nested : NestedCode). nested.access == private_access) (map nested_code nested)))
    ≡ t.nested_names meant (filter (λ (nested : m.Nested). is_private nested.access) nested)
nested_same meant [] = refl
nested_same meant (nested ∷ others) =
    let kept = filter (λ (nested : NestedCode). nested.access == private_access) (map nested_code others) in
    ap (λ b. s.texts_of (code_of meant) (s.nested_names (code_of meant) (if b then nested_code nested ∷ kept else kept))) (private_same nested.access)
    ∙ nested_step meant (is_private nested.access) nested kept (filter (λ (nested : m.Nested). is_private nested.access) others) (nested_same meant others)

-- ---- a class

pub three : (a b c x y z : List (List ℕ)) → a ≡ x → b ≡ y → c ≡ z → a ++ (b ++ c) ≡ x ++ (y ++ z)
three a b c x y z e f g = ap (λ l. l ++ (b ++ c)) e ∙ ap (λ l. x ++ (l ++ c)) f ∙ ap (λ l. x ++ (y ++ l)) g

pub privates_same : (meant : m.Meant) (class : m.Declaration) (looked : CodeSide) → AreThere (names_of meant) (class_names class) →
    private_selectors (code_of meant) (side_number looked) (class_code (names_of meant) class) ≡ t.private_members meant looked class
privates_same meant class side.Instance h =
    let names = names_of meant in
    let slots = map (λ (slot : m.Slot). slot.name) class.slots in
    let methods = map (λ (method : m.Method). method.selector) class.methods in
    let side_methods = map (λ (method : m.Method). method.selector) class.side_methods in
    let members = h.1.1.1 in
    let slots_there = left_there names slots (methods ++ side_methods) members in
    let methods_there = left_there names methods side_methods (right_there names slots (methods ++ side_methods) members) in
    three _ _ _ _ _ _ (slots_same meant class.slots slots_there) (nested_same meant class.nested) (methods_same meant class.methods methods_there)
privates_same meant class side.Class h =
    let names = names_of meant in
    let slots = map (λ (slot : m.Slot). slot.name) class.slots in
    let methods = map (λ (method : m.Method). method.selector) class.methods in
    let side_methods = map (λ (method : m.Method). method.selector) class.side_methods in
    let members = h.1.1.1 in
    methods_same meant class.side_methods (right_there names methods side_methods (right_there names slots (methods ++ side_methods) members))
