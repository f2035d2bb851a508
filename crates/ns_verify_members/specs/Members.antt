-- The private members of a declaration.
use Rattle.std.specs.Prelude.{ℕ, List, ◌++◌, ◌==◌, ◌&&◌, Bool, filter, map, if◌then◌else◌}
use Rattle.std.specs.List.{list_any}
use Rattle.std.specs.Str.{bytes_eq}
use Rattle.ns_code.specs.Selector.{selector_text}
use Rattle.ns_code.specs.declared.program.CodeProgram.{CodeProgram}
use Rattle.ns_code.specs.declared.class.ClassCode.{ClassCode}
use Rattle.ns_code.specs.declared.class.SlotCode.{SlotCode}
use Rattle.ns_code.specs.declared.class.NestedCode.{NestedCode}
use Rattle.ns_code.specs.declared.class.MethodCode.{MethodCode}
use Rattle.ns_code.specs.Soundness.{instance_side, all_slot_selectors, texts_of, nested_names, are_different, instance_selectors, side_selectors}
use Rattle.ns_code.specs.Access.{private_access}

-- the selectors of slots, nested classes and methods
abbrev pub selectors_of : CodeProgram → List SlotCode → List NestedCode → List MethodCode → List (List ℕ)
selectors_of code slots nested methods =
    all_slot_selectors code slots
    ++ (texts_of code (nested_names code nested) ++ texts_of code (map (λ (method : MethodCode). method.sel.0) methods))

-- the selectors of the private members of the instance side
abbrev pub private_instance_selectors : CodeProgram → ClassCode → List (List ℕ)
private_instance_selectors code class =
    selectors_of code
    (filter (λ (slot : SlotCode). slot.access == private_access) class.slots)
    (filter (λ (nested : NestedCode). nested.access == private_access) class.nested)
    (filter (λ (method : MethodCode). method.access == private_access) class.methods)

-- the selectors of the private members of the class side
abbrev pub private_side_selectors : CodeProgram → ClassCode → List (List ℕ)
private_side_selectors code class =
    texts_of code (map (λ (method : MethodCode). method.sel.0) (filter (λ (method : MethodCode). method.access == private_access) class.side_methods))

-- the selectors of the private members of a side
abbrev pub private_selectors : CodeProgram → ℕ → ClassCode → List (List ℕ)
private_selectors code side class =
    if side == instance_side then private_instance_selectors code class else private_side_selectors code class

-- whether a selector is that of a private member of a side
abbrev pub has_private : CodeProgram → ℕ → ClassCode → ℕ → Bool
has_private code side class number = list_any (bytes_eq (selector_text code number)) (private_selectors code side class)

-- whether no two members of one side have one selector
abbrev pub has_different_members : CodeProgram → ClassCode → Bool
has_different_members code class = are_different (instance_selectors code class) && are_different (side_selectors code class)
