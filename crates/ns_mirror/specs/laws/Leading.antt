-- Rows of mirrors lead to worlds of which something holds that each new cell and each word of what is mirrored allows.
use Rattle.std.proofs.Common.{length, refl, Option, Some, None, Bool, true, false, cond, eqb}
use Rattle.ns_base.specs.declared.selector.Sel.{Sel}
use Rattle.ns_code.specs.declared.program.CodeProgram.{CodeProgram}
use Rattle.ns_code.specs.Selector.{selector_arity}
use Rattle.ns_world.specs.declared.value.Value.{Value}
use Rattle.ns_world.specs.declared.value.Value.TheVariants as value
use Rattle.ns_world.specs.declared.ending.Fault.TheVariants.{Kind}
use Rattle.ns_world.specs.declared.ending.Kind.TheVariants as kind
use Rattle.ns_world.specs.Cell.{ArrayCell, TextCell, MirrorCell}
use Rattle.ns_world.specs.Heap.{chain_of, cell_number}
use Rattle.ns_world.specs.Starts.{class_name_of}
use Rattle.ns_world.specs.World.{World, stored}
use Rattle.ns_kdata.specs.Outcome.{RowOutcome, Answers, Fails, making, unchanged, wrong_kind}
use Rattle.ns_kdata.specs.Arguments.{is_array, shape_of_value, items_of}
use Rattle.ns_world.specs.declared.kernel_parts.MirrorRow.{MirrorRow}
use Rattle.ns_world.specs.declared.kernel_parts.MirrorRow.TheVariants as row
use Rattle.ns_mirror.specs.declared.row.Mirrored.TheVariants.{Perform}
use Rattle.ns_mirror.specs.declared.slots.SlotPlace.{SlotPlace}
use Rattle.ns_mirror.specs.Looking.{object_class}
use Rattle.ns_mirror.specs.Naming.{class_name, class_text}
use Rattle.ns_mirror.specs.Selectors.{selectors, public_selectors, methods_of_shape}
use Rattle.ns_mirror.specs.Slots.{slot, slot_names, slot_names_along, write_slot, slot_put, slot_of}
use Rattle.ns_mirror.specs.Mirror.{Reflects, Refuses, reflected, perform, row_outcome}
use Rattle.ns_world.specs.Later.{IsLater}
use Rattle.ns_kdata.specs.Leading.{HoldsAfter}
use Rattle.ns_kdata.specs.laws.Leading.{Allows, Writes, allows_later, writes_later, cell_leads, unchanged_leads}
use Rattle.ns_mirror.specs.Leading.{ReflectsTo}

reflected_leads : (holds : World → Type 0) (outcome : RowOutcome) → HoldsAfter holds outcome → ReflectsTo holds (reflected outcome)
reflected_leads holds (Answers answer after) grown = grown
reflected_leads holds (Fails fault) grown = tt

slot_leads : (holds : World → Type 0) (world : World) (may : Allows holds world) (object item : Value) (place : Option SlotPlace) →
    Writes holds world object → HoldsAfter holds (write_slot world object item place)
slot_leads holds world may object item None has = tt
slot_leads holds world may object item (Some place) has = tested place.mutable
  where
    tested : (b : Bool) → HoldsAfter holds (cond b (Answers item (stored world object place.word item)) (Fails (Kind kind.FixedSlot)))
    tested true = has place.word item
    tested false = tt

put_slot_leads : (holds : World → Type 0) (world : World) (may : Allows holds world) (code : CodeProgram) (object name item : Value) →
    Writes holds world object → HoldsAfter holds (slot_put world code object name item)
put_slot_leads holds world may code object (value.Sym sel) item has =
    slot_leads holds world may object item (slot_of world.cells code object sel) has
put_slot_leads holds world may code object value.Nil item has = tt
put_slot_leads holds world may code object value.True item has = tt
put_slot_leads holds world may code object value.False item has = tt
put_slot_leads holds world may code object (value.Int number) item has = tt
put_slot_leads holds world may code object (value.Kernel class) item has = tt
put_slot_leads holds world may code object (value.Ref at) item has = tt

sent_leads :
    (holds : World → Type 0) (world : World) (may : Allows holds world) (code : CodeProgram) (object : Value) (sel : Sel) (args : Value) (b c : Bool) →
    ReflectsTo holds (cond b (cond c (Reflects (Perform object sel (cell_number args)) world) (Refuses (Kind kind.WrongArity))) (Refuses wrong_kind))
sent_leads holds world may code object sel args true true = may.same
sent_leads holds world may code object sel args true false = tt
sent_leads holds world may code object sel args false c = tt

perform_leads : (holds : World → Type 0) (world : World) (may : Allows holds world) (code : CodeProgram) (object sel args : Value) →
    ReflectsTo holds (perform world code object sel args)
perform_leads holds world may code object (value.Sym sel) args =
    sent_leads holds world may code object sel args (is_array world.cells args) (eqb (length (items_of world.cells args)) (selector_arity code sel.0))
perform_leads holds world may code object value.Nil args = tt
perform_leads holds world may code object value.True args = tt
perform_leads holds world may code object value.False args = tt
perform_leads holds world may code object (value.Int number) args = tt
perform_leads holds world may code object (value.Kernel class) args = tt
perform_leads holds world may code object (value.Ref at) args = tt

-- the rows of mirrors write what is mirrored
pub mirror_leads :
    (holds : World → Type 0) (world : World) (may : Allows holds world) (code : CodeProgram) (r : MirrorRow) (shown first second : Value) →
    Writes holds world shown → ReflectsTo holds (row_outcome world code r shown first second)
mirror_leads holds world may code row.On shown first second has =
    reflected_leads holds (making world (MirrorCell first)) (cell_leads holds world may (MirrorCell first) refl refl refl)
mirror_leads holds world may code row.ClassName shown first second has =
    reflected_leads holds (class_name world code shown) (cell_leads holds world may (TextCell (class_text code (class_name_of world.cells shown))) refl refl refl)
mirror_leads holds world may code row.SlotNames shown first second has =
    reflected_leads holds (slot_names world code shown) (cell_leads holds world may (ArrayCell (slot_names_along world.cells code (chain_of world.cells (object_class world.cells shown)))) refl refl refl)
mirror_leads holds world may code row.Slot shown first second has =
    reflected_leads holds (unchanged world (slot world.cells code shown first)) (unchanged_leads holds world may (slot world.cells code shown first))
mirror_leads holds world may code row.SlotPut shown first second has =
    reflected_leads holds (slot_put world code shown first second) (put_slot_leads holds world may code shown first second has)
mirror_leads holds world may code row.Selectors shown first second has =
    reflected_leads holds (selectors world code shown) (cell_leads holds world may (ArrayCell (public_selectors (methods_of_shape world.cells code (shape_of_value world.cells shown)))) refl refl refl)
mirror_leads holds world may code row.Enclosing shown first second has = may.same
mirror_leads holds world may code row.Perform shown first second has = perform_leads holds world may code shown first second

-- so each leads to a later world
pub rows_lead_on : (world : World) (code : CodeProgram) (r : MirrorRow) (shown first second : Value) →
    ReflectsTo (IsLater world) (row_outcome world code r shown first second)
rows_lead_on world code r shown first second =
    mirror_leads (IsLater world) world (allows_later world) code r shown first second (writes_later world shown)
