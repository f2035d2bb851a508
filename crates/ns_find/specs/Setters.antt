-- Setters found by the number of the name before their colon.
use Rattle.std.specs.Prelude.{◌≡◌, ℕ, List, Option, IsTrue, All}
use Rattle.ns_code.specs.declared.program.CodeProgram.{CodeProgram}
use Rattle.ns_code.specs.declared.class.SlotCode.{SlotCode}
use Rattle.ns_code.specs.Fronts.{front_in}
use Rattle.ns_code.specs.Selector.{selector_text}
use Rattle.ns_code.specs.Soundness.{is_identifier_name}

-- The number of the name before the colon at the end of a selector, if there is one.
abbrev pub IsFrontOf : CodeProgram → ℕ → Option ℕ → Type 0
IsFrontOf code sel front = front ≡ front_in code.names (selector_text code sel)

-- Slots are named by identifiers that are names of the code.
abbrev pub AreNamed : CodeProgram → List SlotCode → Type 0
AreNamed code slots = All (λ (slot : SlotCode). IsTrue (is_identifier_name code slot.name)) slots
