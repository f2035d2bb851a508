-- Which selectors something can answer: a class of the program by its name, its factory or a member, on whichever side and
-- with whichever access; or a class of the kernel by a row.
use Rattle.std.specs.Prelude.{ℕ, Bool, ◌||◌, List, [], ◌∷◌, ◌++◌, map, flat_map, is_some, codes, if◌then◌else◌}
use Rattle.std.specs.List.{list_any}
use Rattle.std.specs.Str.{bytes_eq}
use Rattle.ns_code.specs.declared.program.CodeProgram.{CodeProgram}
use Rattle.ns_code.specs.declared.class.ClassCode.{ClassCode}
use Rattle.ns_code.specs.declared.class.SlotCode.{SlotCode}
use Rattle.ns_code.specs.declared.class.MethodCode.{MethodCode}
use Rattle.ns_code.specs.Selector.{selector_text}
use Rattle.ns_world.specs.declared.kernel_class.KernelRow.{KernelRow}
use Rattle.ns_world.specs.KernelTable.{classes, row_called}

-- a slot by its name, and where it can be set by that with a colon
abbrev pub slot_texts : CodeProgram → SlotCode → List (List ℕ)
slot_texts code slot =
    if slot.mutable then selector_text code slot.name.0 ∷ (selector_text code slot.name.0 ++ 58 ∷ []) ∷ []
    else selector_text code slot.name.0 ∷ []

abbrev pub method_text : CodeProgram → MethodCode → List ℕ
method_text code method = selector_text code method.sel.0

-- what a class and its instances answer; a nested class is answered by its own name
abbrev pub class_texts : CodeProgram → ClassCode → List (List ℕ)
class_texts code class =
    selector_text code class.name.0 ∷ selector_text code class.factory.0
    ∷ (flat_map (slot_texts code) class.slots
    ++ (map (method_text code) class.methods ++ map (method_text code) class.side_methods))

-- what the classes of the program answer
abbrev pub program_texts : CodeProgram → List (List ℕ)
program_texts code = flat_map (class_texts code) code.classes

-- whether a class of the kernel has a row of that text
abbrev pub is_row : List ℕ → Bool
is_row text = list_any (λ (class : KernelRow). is_some (row_called class text)) classes

-- whether something answers a selector of that text
abbrev pub is_answered : CodeProgram → List ℕ → Bool
is_answered code text = list_any (bytes_eq text) (program_texts code) || is_row text
