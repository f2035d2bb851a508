-- What slots hold is live.
use Rattle.std.proofs.Common.{◌≡◌, ℕ, [], get_or, refl, Option, Some, None, Bool, true, false, cond}
use Rattle.std.specs.Prelude.{IfOk}
use Rattle.std.specs.Option.{option_map_or}
use Rattle.ns_base.specs.declared.selector.Sel.{Sel}
use Rattle.ns_code.specs.declared.program.CodeProgram.{CodeProgram}
use Rattle.ns_world.specs.declared.value.Value.{Value}
use Rattle.ns_world.specs.declared.value.Value.TheVariants.{Nil, True, False, Int, Sym, Kernel, Ref}
use Rattle.ns_world.specs.declared.ending.Fault.TheVariants.{Kind}
use Rattle.ns_world.specs.declared.ending.Kind.TheVariants as kind
use Rattle.ns_world.specs.Cell.{Cell, cell_words, ObjectCell, ClassCell, BlockCell, EnvironmentCell, ArrayCell, TextCell, FacetCell, MirrorCell, MessageCell}
use Rattle.ns_world.specs.Heap.{find_cell, chain_of, word_of_object}
use Rattle.ns_world.specs.World.{World, stored}
use Rattle.ns_world.specs.Lawful.{IsLawful, IsLiveValue}
use Rattle.ns_kdata.specs.Outcome.{Answers, Fails}
use Rattle.ns_kdata.specs.Living.{AnswersLive}
use Rattle.ns_kdata.specs.laws.LivingItems.{get_live, stored_live}
use Rattle.ns_mirror.specs.declared.slots.SlotPlace.{SlotPlace}
use Rattle.ns_mirror.specs.Slots.{slot, slot_of, slot_along, slot_put, read_slot, write_slot}
use Rattle.ns_mirror.specs.lemmas.Found.{class_of, no_slot}

slot_cell_live : (world : World) (code : CodeProgram) (at : ℕ) (sel : Sel) (place : SlotPlace) → IsLawful world code → (o : Option Cell) →
    find_cell world.cells at ≡ o → slot_along world.cells code (chain_of world.cells (class_of o)) sel ≡ Some place →
    IsLiveValue world.cells code (get_or (option_map_or cell_words o []) place.word Nil)
slot_cell_live world code at sel place lawful (Some (ObjectCell class entries)) e f =
    get_live (IsLiveValue world.cells code) entries place.word ((lawful.cells at (ObjectCell class entries) e).1) (tt, refl)
slot_cell_live world code at sel place lawful None e f = absurd (no_slot world code sel place lawful f)
slot_cell_live world code at sel place lawful (Some (ClassCell decl base encl holder over)) e f =
    absurd (no_slot world code sel place lawful f)
slot_cell_live world code at sel place lawful (Some (BlockCell body env home receiver holder)) e f =
    absurd (no_slot world code sel place lawful f)
slot_cell_live world code at sel place lawful (Some (EnvironmentCell parent locals)) e f = absurd (no_slot world code sel place lawful f)
slot_cell_live world code at sel place lawful (Some (ArrayCell items)) e f = absurd (no_slot world code sel place lawful f)
slot_cell_live world code at sel place lawful (Some (TextCell bytes)) e f = absurd (no_slot world code sel place lawful f)
slot_cell_live world code at sel place lawful (Some (FacetCell kind)) e f = absurd (no_slot world code sel place lawful f)
slot_cell_live world code at sel place lawful (Some (MirrorCell shown)) e f = absurd (no_slot world code sel place lawful f)
slot_cell_live world code at sel place lawful (Some (MessageCell sel' args)) e f = absurd (no_slot world code sel place lawful f)

found_live : (world : World) (code : CodeProgram) (object : Value) (sel : Sel) (place : SlotPlace) → IsLawful world code →
    slot_of world.cells code object sel ≡ Some place → IsLiveValue world.cells code (word_of_object world.cells object place.word)
found_live world code Nil sel place lawful f = (tt, refl)
found_live world code True sel place lawful f = (tt, refl)
found_live world code False sel place lawful f = (tt, refl)
found_live world code (Int number) sel place lawful f = (tt, refl)
found_live world code (Sym sel') sel place lawful f = (tt, refl)
found_live world code (Kernel class) sel place lawful f = (tt, refl)
found_live world code (Ref at) sel place lawful f = slot_cell_live world code at sel place lawful (find_cell world.cells at) refl f

read_live : (world : World) (code : CodeProgram) (object : Value) (sel : Sel) → IsLawful world code → (o : Option SlotPlace) →
    slot_of world.cells code object sel ≡ o → IfOk (read_slot world.cells object o) (λ v. IsLiveValue world.cells code v)
read_live world code object sel lawful None e = tt
read_live world code object sel lawful (Some place) e = found_live world code object sel place lawful e

pub slot_live : (world : World) (code : CodeProgram) (object name : Value) → IsLawful world code →
    IfOk (slot world.cells code object name) (λ v. IsLiveValue world.cells code v)
slot_live world code object Nil lawful = tt
slot_live world code object True lawful = tt
slot_live world code object False lawful = tt
slot_live world code object (Int number) lawful = tt
slot_live world code object (Sym sel) lawful = read_live world code object sel lawful (slot_of world.cells code object sel) refl
slot_live world code object (Kernel class) lawful = tt
slot_live world code object (Ref at) lawful = tt

write_live : (world : World) (code : CodeProgram) (object value : Value) (o : Option SlotPlace) → IsLiveValue world.cells code value →
    AnswersLive code (write_slot world object value o)
write_live world code object value None live = tt
write_live world code object value (Some place) live = tested place.mutable
  where
    tested : (b : Bool) → AnswersLive code (cond b (Answers value (stored world object place.word value)) (Fails (Kind kind.FixedSlot)))
    tested true = stored_live world code object place.word value live
    tested false = tt

pub slot_put_live : (world : World) (code : CodeProgram) (object name value : Value) → IsLiveValue world.cells code value →
    AnswersLive code (slot_put world code object name value)
slot_put_live world code object Nil value live = tt
slot_put_live world code object True value live = tt
slot_put_live world code object False value live = tt
slot_put_live world code object (Int number) value live = tt
slot_put_live world code object (Sym sel) value live = write_live world code object value (slot_of world.cells code object sel) live
slot_put_live world code object (Kernel class) value live = tt
slot_put_live world code object (Ref at) value live = tt
