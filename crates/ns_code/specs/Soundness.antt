-- Which faults a class record has, by itself and among the others of its code.
use Rattle.std.specs.Prelude.{ℕ, ◌+◌, List, [], ◌∷◌, ◌++◌, Bool, true, false, ◌==◌, ◌&&◌, ◌||◌, not, nat_lt, Option, is_none, unwrap_or, slice_get, length, map, if◌then◌else◌}
use Rattle.std.specs.Option.{option_map_or}
use Rattle.std.specs.List.{list_any, list_all}
use Rattle.std.specs.Str.{bytes_eq}
use Rattle.ns_base.specs.declared.selector.Sel.{Sel}
use Rattle.ns_base.specs.Spelling.{is_identifier}
use Rattle.ns_code.specs.declared.program.CodeProgram.{CodeProgram}
use Rattle.ns_code.specs.declared.class.ClassCode.{ClassCode}
use Rattle.ns_code.specs.declared.class.SlotCode.{SlotCode}
use Rattle.ns_code.specs.declared.class.NestedCode.{NestedCode}
use Rattle.ns_code.specs.declared.class.MethodCode.{MethodCode}
use Rattle.ns_code.specs.declared.body.BodyCode.{BodyCode}
use Rattle.ns_code.specs.Selector.{selector_arity}

-- the kinds of bodies and the sides
abbrev pub method_kind : ℕ
method_kind = 0

abbrev pub block_kind : ℕ
block_kind = 1

abbrev pub initialiser_kind : ℕ
initialiser_kind = 2

abbrev pub clause_kind : ℕ
clause_kind = 3

abbrev pub instance_side : ℕ
instance_side = 0

abbrev pub class_side : ℕ
class_side = 1

-- the text of the name of that number, where it is one
abbrev pub name_text : CodeProgram → ℕ → Option (List ℕ)
name_text code number = slice_get code.names number

-- whether a number of a name is below the count of names
abbrev pub is_name : CodeProgram → Sel → Bool
is_name code sel = nat_lt sel.0 (length code.names)

-- whether a name, where its number is a name's, is an identifier
abbrev pub is_identifier_name : CodeProgram → Sel → Bool
is_identifier_name code sel = option_map_or is_identifier (name_text code sel.0) false

-- A name or text number isn't below its count, or a class's or slot's name isn't an identifier.
abbrev pub has_bad_literal : CodeProgram → ClassCode → Bool
has_bad_literal code class =
    not (is_identifier_name code class.name)
    || (not (is_name code class.factory)
    || (not (is_name code class.super_sel)
    || (list_any (λ (slot : SlotCode). not (is_identifier_name code slot.name)) class.slots
    || (list_any (λ (method : MethodCode). not (is_name code method.sel)) class.methods
    || list_any (λ (method : MethodCode). not (is_name code method.sel)) class.side_methods))))

-- whether a body is there, of this kind, class and side and with so many parameters; a selector
-- that is no name asks for no number
abbrev pub is_body_of : CodeProgram → ℕ → ℕ → ℕ → ℕ → (ℕ → Bool) → Bool
is_body_of code number kind side class has_params =
    option_map_or (λ (body : BodyCode). (body.kind == kind && body.side == side) && (body.class == class && has_params body.params))
    (slice_get code.bodies number) false

-- whether a method's parameters are those of its selector
abbrev pub has_params_of : CodeProgram → Sel → ℕ → Bool
has_params_of code sel params = not (is_name code sel) || params == selector_arity code sel.0

-- whether each method of a side names its body
abbrev pub have_bodies : CodeProgram → ℕ → ℕ → List MethodCode → Bool
have_bodies code side number methods =
    list_all (λ (method : MethodCode). is_body_of code method.body method_kind side number (has_params_of code method.sel)) methods

-- whether an outer declaration is an earlier class, and a clause stands only within one
abbrev pub has_place : ℕ → ClassCode → Bool
has_place number class =
    (if is_none class.outer then is_none class.clause else option_map_or (λ outer. nat_lt outer number) class.outer false)
    && (not (number == 0) || is_none class.outer)

-- whether each nested entry is a class with this class as its outer
abbrev pub has_nested : CodeProgram → ℕ → ClassCode → Bool
has_nested code number class =
    list_all
    (λ (nested : NestedCode). option_map_or (λ (inner : ClassCode). option_map_or (λ outer. outer == number) inner.outer false)
    (slice_get code.classes nested.class) false)
    class.nested

-- the selectors of a slot: its name, and with a colon behind it where it is mutable
abbrev pub slot_selectors : CodeProgram → SlotCode → List (List ℕ)
slot_selectors code slot =
    option_map_or (λ name. name ∷ (if slot.mutable then (name ++ 58 ∷ []) ∷ [] else [])) (name_text code slot.name.0) []

-- the texts of a list of names, without those that aren't there
abbrev pub texts_of : CodeProgram → List ℕ → List (List ℕ)
texts_of code [] = []
texts_of code (number ∷ numbers) = option_map_or (λ name. name ∷ texts_of code numbers) (name_text code number) (texts_of code numbers)

abbrev pub all_slot_selectors : CodeProgram → List SlotCode → List (List ℕ)
all_slot_selectors code [] = []
all_slot_selectors code (slot ∷ slots) = slot_selectors code slot ++ all_slot_selectors code slots

-- the names of nested classes
abbrev pub nested_names : CodeProgram → List NestedCode → List ℕ
nested_names code [] = []
nested_names code (nested ∷ rest) =
    option_map_or (λ (inner : ClassCode). inner.name.0 ∷ nested_names code rest) (slice_get code.classes nested.class) (nested_names code rest)

-- the selectors of the members of the instance side
abbrev pub instance_selectors : CodeProgram → ClassCode → List (List ℕ)
instance_selectors code class =
    all_slot_selectors code class.slots
    ++ (texts_of code (nested_names code class.nested) ++ texts_of code (map (λ (method : MethodCode). method.sel.0) class.methods))

-- the selectors of the members of the class side
abbrev pub side_selectors : CodeProgram → ClassCode → List (List ℕ)
side_selectors code class = texts_of code (map (λ (method : MethodCode). method.sel.0) class.side_methods)

-- whether no text comes twice
abbrev pub are_different : List (List ℕ) → Bool
are_different [] = true
are_different (text ∷ texts) = not (list_any (bytes_eq text) texts) && are_different texts

-- whether the bodies that a class names are those that their places ask for
abbrev pub has_bodies : CodeProgram → ℕ → ClassCode → Bool
has_bodies code number class =
    (is_body_of code class.init initialiser_kind instance_side number (λ params. params == class.params)
    && option_map_or (λ clause. is_body_of code clause clause_kind instance_side (unwrap_or class.outer number) (λ params. params == 0)) class.clause true)
    && (have_bodies code instance_side number class.methods && have_bodies code class_side number class.side_methods)

-- whether the factory takes as many arguments as the class has parameters, at most 63
abbrev pub has_params : CodeProgram → ClassCode → Bool
has_params code class = nat_lt class.params 64 && has_params_of code class.factory class.params

-- What a class names isn't there, is of another kind, or stands at a wrong place.
abbrev pub has_bad_scope : CodeProgram → ℕ → ClassCode → Bool
has_bad_scope code number class =
    not
    ((has_place number class && has_bodies code number class)
    && ((has_nested code number class && has_params code class)
    && (are_different (instance_selectors code class) && are_different (side_selectors code class))))

-- whether no class from that number on has a fault
abbrev pub are_classes_sound : CodeProgram → ℕ → List ClassCode → Bool
are_classes_sound code number [] = true
are_classes_sound code number (class ∷ classes) =
    (not (has_bad_scope code number class) && not (has_bad_literal code class)) && are_classes_sound code (number + 1) classes

-- There is a class, and none has a fault.
abbrev pub has_sound_classes : CodeProgram → Bool
has_sound_classes code = nat_lt 0 (length code.classes) && are_classes_sound code 0 code.classes

-- whether each body's parent is a body of a smaller number
abbrev pub are_parents_earlier : ℕ → List BodyCode → Bool
are_parents_earlier number [] = true
are_parents_earlier number (body ∷ bodies) =
    option_map_or (λ parent. nat_lt parent number) body.parent true && are_parents_earlier (number + 1) bodies
