-- The slots that a mirror shows, reads and writes.
use Rattle.std.specs.Prelude.{ℕ, ◌+◌, List, [], ◌∷◌, ◌++◌, ◌==◌, slice_get, Option, Some, None, Result, Ok, Err, if◌then◌else◌}
use Rattle.std.specs.Option.{option_map_or}
use Rattle.ns_base.specs.declared.selector.Sel.{Sel}
use Rattle.ns_code.specs.declared.program.CodeProgram.{CodeProgram}
use Rattle.ns_code.specs.declared.class.ClassCode.{ClassCode}
use Rattle.ns_code.specs.declared.class.SlotCode.{SlotCode}
use Rattle.ns_world.specs.declared.value.Value.{Value}
use Rattle.ns_world.specs.declared.value.Value.TheVariants.{Sym}
use Rattle.ns_world.specs.declared.ending.Fault.{Fault}
use Rattle.ns_world.specs.declared.ending.Fault.TheVariants.{Kind}
use Rattle.ns_world.specs.declared.ending.Kind.TheVariants as kind
use Rattle.ns_world.specs.Cell.{ArrayCell}
use Rattle.ns_world.specs.Heap.{Heap, chain_of, word_of_object}
use Rattle.ns_world.specs.Layout.{declaration_of, entry_word}
use Rattle.ns_world.specs.World.{World, stored}
use Rattle.ns_kdata.specs.Outcome.{RowOutcome, Answers, Fails, making, wrong_kind, out_of_range}
use Rattle.ns_mirror.specs.declared.slots.Entry.{Entry}
use Rattle.ns_mirror.specs.declared.slots.SlotPlace.{SlotPlace}
use Rattle.ns_mirror.specs.Looking.{object_class}

-- the slots of a declaration
abbrev pub declared_slots : CodeProgram → ℕ → List SlotCode
declared_slots code decl = option_map_or (λ (class : ClassCode). class.slots) (slice_get code.classes decl) []

-- their names as symbols
abbrev pub slot_symbols : List SlotCode → List Value
slot_symbols [] = []
slot_symbols (slot ∷ slots) = Sym slot.name ∷ slot_symbols slots

-- the names of the slots along a chain, those of the topmost class first
abbrev pub slot_names_along : Heap → CodeProgram → List ℕ → List Value
slot_names_along heap code [] = []
slot_names_along heap code (class ∷ classes) =
    slot_names_along heap code classes ++ slot_symbols (declared_slots code (declaration_of heap class))

-- `slotNames` of a value
abbrev pub slot_names : World → CodeProgram → Value → RowOutcome
slot_names world code value =
    making world (ArrayCell (slot_names_along world.cells code (chain_of world.cells (object_class world.cells value))))

-- the first slot of a name, with its number, counted from a number on
abbrev pub entry_of : List SlotCode → Sel → ℕ → Option Entry
entry_of [] sel number = None
entry_of (slot ∷ slots) sel number =
    if slot.name.0 == sel.0 then Some (record { number = number; mutable = slot.mutable }) else entry_of slots sel (number + 1)

-- the word of a slot of a holder
abbrev pub place_of : Heap → CodeProgram → ℕ → Option Entry → Option SlotPlace
place_of heap code holder None = None
place_of heap code holder (Some entry) = Some (record { word = entry_word heap code holder entry.number; mutable = entry.mutable })

-- the slot of a name that a holder declares
abbrev pub slot_in : Heap → CodeProgram → ℕ → Sel → Option SlotPlace
slot_in heap code holder sel = place_of heap code holder (entry_of (declared_slots code (declaration_of heap holder)) sel 0)

-- a slot, or else one further up
abbrev pub slot_or : Option SlotPlace → Option SlotPlace → Option SlotPlace
slot_or (Some place) above = Some place
slot_or None above = above

-- the first slot of a name along a chain
abbrev pub slot_along : Heap → CodeProgram → List ℕ → Sel → Option SlotPlace
slot_along heap code [] sel = None
slot_along heap code (holder ∷ holders) sel = slot_or (slot_in heap code holder sel) (slot_along heap code holders sel)

-- the slot of a name of a value; kernel values and classes have none
abbrev pub slot_of : Heap → CodeProgram → Value → Sel → Option SlotPlace
slot_of heap code value sel = slot_along heap code (chain_of heap (object_class heap value)) sel

-- what a slot holds; OutOfRange where there is none
abbrev pub read_slot : Heap → Value → Option SlotPlace → Result Value Fault
read_slot heap value None = Err out_of_range
read_slot heap value (Some place) = Ok (word_of_object heap value place.word)

-- `slot:`
abbrev pub slot : Heap → CodeProgram → Value → Value → Result Value Fault
slot heap code value (Sym sel) = read_slot heap value (slot_of heap code value sel)
slot heap code value other = Err wrong_kind

-- a value stored in a slot; OutOfRange where there is none, FixedSlot where it is immutable
abbrev pub write_slot : World → Value → Value → Option SlotPlace → RowOutcome
write_slot world object value None = Fails out_of_range
write_slot world object value (Some place) =
    if place.mutable then Answers value (stored world object place.word value) else Fails (Kind kind.FixedSlot)

-- `slot:put:`
abbrev pub slot_put : World → CodeProgram → Value → Value → Value → RowOutcome
slot_put world code object (Sym sel) value = write_slot world object value (slot_of world.cells code object sel)
slot_put world code object other value = Fails wrong_kind
