-- The names of the members of a declaration that aren't private, by number.
use Rattle.std.specs.Prelude.{ℕ, List, [], ◌∷◌, ◌++◌, Bool, ◌==◌, ◌&&◌, not, Option, slice_get, if◌then◌else◌}
use Rattle.std.specs.Option.{option_map_or}
use Rattle.ns_code.specs.declared.class.ClassCode.{ClassCode}
use Rattle.ns_code.specs.declared.class.SlotCode.{SlotCode}
use Rattle.ns_code.specs.declared.class.NestedCode.{NestedCode}
use Rattle.ns_code.specs.declared.class.MethodCode.{MethodCode}
use Rattle.ns_code.specs.Access.{private_access}

-- whether a member of this access isn't private
abbrev pub is_visible : ℕ → Bool
is_visible access = not (access == private_access)

-- the name of a slot
abbrev pub slot_names : List SlotCode → List ℕ
slot_names [] = []
slot_names (slot ∷ slots) = if is_visible slot.access then slot.name.0 ∷ slot_names slots else slot_names slots

-- whether a slot has a setter that isn't private
abbrev pub has_setter : SlotCode → Bool
has_setter slot = is_visible slot.access && slot.mutable

-- the name of a slot that has a setter: with a colon behind it, it is the selector of that
abbrev pub mutable_names : List SlotCode → List ℕ
mutable_names [] = []
mutable_names (slot ∷ slots) = if has_setter slot then slot.name.0 ∷ mutable_names slots else mutable_names slots

-- the name of a class, if it is there
abbrev pub name_of : Option ClassCode → List ℕ
name_of class = option_map_or (λ (c : ClassCode). c.name.0 ∷ []) class []

-- a nested class is named as its class
abbrev pub nested_names : List ClassCode → List NestedCode → List ℕ
nested_names classes [] = []
nested_names classes (nested ∷ rest) =
    if is_visible nested.access then name_of (slice_get classes nested.class) ++ nested_names classes rest else nested_names classes rest

-- the selector of a method
abbrev pub method_names : List MethodCode → List ℕ
method_names [] = []
method_names (method ∷ methods) = if is_visible method.access then method.sel.0 ∷ method_names methods else method_names methods

-- the names of the members of the instance side, but for setters
abbrev pub instance_names : List ClassCode → ClassCode → List ℕ
instance_names classes class = slot_names class.slots ++ (nested_names classes class.nested ++ method_names class.methods)

-- the names of the members of the class side
abbrev pub side_names : ClassCode → List ℕ
side_names class = method_names class.side_methods

-- the names of the slots with a setter
abbrev pub setter_names : ClassCode → List ℕ
setter_names class = mutable_names class.slots
