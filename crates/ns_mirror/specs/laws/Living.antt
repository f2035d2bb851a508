-- What a mirror's row answers is live.
use Rattle.std.proofs.Common.{◌≡◌, ℕ, List, length, refl, Option, Some, None, Bool, true, false, cond, eqb}
use Rattle.std.specs.Option.{option_map_or}
use Rattle.std.proofs.lemmas.Bool.{eqb-true}
use Rattle.ns_base.specs.declared.selector.Sel.{Sel}
use Rattle.ns_code.specs.declared.program.CodeProgram.{CodeProgram}
use Rattle.ns_code.specs.Selector.{is_selector_number, selector_arity}
use Rattle.ns_world.specs.declared.value.Value.{Value}
use Rattle.ns_world.specs.declared.value.Value.TheVariants.{Nil, True, False, Int, Sym, Kernel, Ref}
use Rattle.ns_world.specs.declared.cell.NewCell.TheVariants as new
use Rattle.ns_world.specs.declared.ending.Fault.TheVariants.{Kind}
use Rattle.ns_world.specs.declared.ending.Kind.TheVariants as kind
use Rattle.ns_world.specs.Cell.{Cell, shape_of, ObjectCell, ClassCell, BlockCell, EnvironmentCell, ArrayCell, TextCell, FacetCell, MirrorCell, MessageCell}
use Rattle.ns_world.specs.Heap.{Heap, find_cell, chain_of, cell_number}
use Rattle.ns_world.specs.Starts.{class_name_of}
use Rattle.ns_world.specs.World.{World}
use Rattle.ns_world.specs.Lawful.{IsLawful, IsLiveValue}
use Rattle.ns_kdata.specs.Outcome.{RowOutcome, Answers, Fails, making, unchanged, wrong_kind}
use Rattle.ns_kdata.specs.Arguments.{is_array, is_array_shape, items_of, array_items, shape_of_value}
use Rattle.ns_kdata.specs.Living.{AnswersLive}
use Rattle.ns_kdata.specs.laws.LivingValues.{making_live, unchanged_live}
use Rattle.ns_world.specs.declared.kernel_parts.MirrorRow.{MirrorRow}
use Rattle.ns_world.specs.declared.kernel_parts.MirrorRow.TheVariants as row
use Rattle.ns_mirror.specs.declared.row.Mirrored.TheVariants.{Perform}
use Rattle.ns_mirror.specs.Naming.{class_text}
use Rattle.ns_mirror.specs.Looking.{object_class}
use Rattle.ns_mirror.specs.Slots.{slot, slot_put, slot_names_along}
use Rattle.ns_mirror.specs.Selectors.{public_selectors, methods_of_shape}
use Rattle.ns_mirror.specs.Mirror.{Reflects, Refuses, reflected, performed_with, perform, row_outcome}
use Rattle.ns_mirror.specs.Living.{ReflectsLive}
use Rattle.ns_mirror.specs.lemmas.LivingSlots.{slot_live, slot_put_live}
use Rattle.ns_mirror.specs.lemmas.LivingEnclosing.{enclosing_live}

reflected_live : (code : CodeProgram) (outcome : RowOutcome) → AnswersLive code outcome → ReflectsLive code (reflected outcome)
reflected_live code (Answers value world) live = live
reflected_live code (Fails fault) live = tt

-- what is known of an array of arguments
abbrev Arguments : Heap → CodeProgram → Sel → ℕ → Type 0
Arguments heap code sel at =
    (items : List Value) × (find_cell heap at ≡ Some (ArrayCell items)) × (length items ≡ selector_arity code sel.0)

array_cell_live : (heap : Heap) (code : CodeProgram) (sel : Sel) (at : ℕ) → (o : Option Cell) → find_cell heap at ≡ o →
    is_array_shape (option_map_or shape_of o (new.Mirror Nil)) ≡ true → length (array_items o) ≡ selector_arity code sel.0 →
    Arguments heap code sel at
array_cell_live heap code sel at (Some (ArrayCell items)) e t h = (items, e, h)
array_cell_live heap code sel at None e t h = absurd (cc)
array_cell_live heap code sel at (Some (ObjectCell class entries)) e t h = absurd (cc)
array_cell_live heap code sel at (Some (ClassCell decl base encl holder over)) e t h = absurd (cc)
array_cell_live heap code sel at (Some (BlockCell body env home receiver holder)) e t h = absurd (cc)
array_cell_live heap code sel at (Some (EnvironmentCell parent locals)) e t h = absurd (cc)
array_cell_live heap code sel at (Some (TextCell bytes)) e t h = absurd (cc)
array_cell_live heap code sel at (Some (FacetCell kind)) e t h = absurd (cc)
array_cell_live heap code sel at (Some (MirrorCell shown)) e t h = absurd (cc)
array_cell_live heap code sel at (Some (MessageCell sel' args)) e t h = absurd (cc)

array_live : (heap : Heap) (code : CodeProgram) (sel : Sel) (args : Value) → is_array heap args ≡ true →
    length (items_of heap args) ≡ selector_arity code sel.0 → Arguments heap code sel (cell_number args)
array_live heap code sel Nil t h = absurd (cc)
array_live heap code sel True t h = absurd (cc)
array_live heap code sel False t h = absurd (cc)
array_live heap code sel (Int number) t h = absurd (cc)
array_live heap code sel (Sym sel') t h = absurd (cc)
array_live heap code sel (Kernel class) t h = absurd (cc)
array_live heap code sel (Ref at) t h = array_cell_live heap code sel at (find_cell heap at) refl t h

performed_live : (world : World) (code : CodeProgram) (receiver : Value) (sel : Sel) (args : Value) →
    IsLiveValue world.cells code receiver → is_selector_number code sel.0 ≡ true →
    ReflectsLive code (performed_with world code receiver sel args)
performed_live world code receiver sel args live named =
    tested (is_array world.cells args) refl (eqb (length (items_of world.cells args)) (selector_arity code sel.0)) refl
  where
    tested : (b : Bool) → is_array world.cells args ≡ b → (d : Bool) → eqb (length (items_of world.cells args)) (selector_arity code sel.0) ≡ d → ReflectsLive code (cond b (cond d (Reflects (Perform receiver sel (cell_number args)) world) (Refuses (Kind kind.WrongArity))) (Refuses wrong_kind))
    tested false t d e = tt
    tested true t false e = tt
    tested true t true e =
        let found = array_live world.cells code sel args t (eqb-true _ _ e) in (live, named, found.0, found.1, found.2)

perform_live : (world : World) (code : CodeProgram) (receiver name args : Value) → IsLiveValue world.cells code receiver →
    IsLiveValue world.cells code name → ReflectsLive code (perform world code receiver name args)
perform_live world code receiver Nil args live named = tt
perform_live world code receiver True args live named = tt
perform_live world code receiver False args live named = tt
perform_live world code receiver (Int number) args live named = tt
perform_live world code receiver (Sym sel) args live named = performed_live world code receiver sel args live (named.0)
perform_live world code receiver (Kernel class) args live named = tt
perform_live world code receiver (Ref at) args live named = tt

-- each row's answer is live, and so is what it is to send
pub rows_live : (world : World) (code : CodeProgram) (row : MirrorRow) (value first second : Value) → IsLawful world code →
    IsLiveValue world.cells code value → IsLiveValue world.cells code first → IsLiveValue world.cells code second →
    ReflectsLive code (row_outcome world code row value first second)
rows_live world code row.On value first second lawful live one two =
    reflected_live code (making world (MirrorCell first)) (making_live world code (MirrorCell first) refl)
rows_live world code row.ClassName value first second lawful live one two =
    let text = TextCell (class_text code (class_name_of world.cells value)) in reflected_live code (making world text) (making_live world code text refl)
rows_live world code row.SlotNames value first second lawful live one two =
    let array = ArrayCell (slot_names_along world.cells code (chain_of world.cells (object_class world.cells value))) in reflected_live code (making world array) (making_live world code array refl)
rows_live world code row.Slot value first second lawful live one two =
    reflected_live code (unchanged world (slot world.cells code value first)) (unchanged_live world code (slot world.cells code value first) (slot_live world code value first lawful))
rows_live world code row.SlotPut value first second lawful live one two =
    reflected_live code (slot_put world code value first second) (slot_put_live world code value first second two)
rows_live world code row.Selectors value first second lawful live one two =
    let array = ArrayCell (public_selectors (methods_of_shape world.cells code (shape_of_value world.cells value))) in reflected_live code (making world array) (making_live world code array refl)
rows_live world code row.Enclosing value first second lawful live one two = enclosing_live world code value lawful
rows_live world code row.Perform value first second lawful live one two = perform_live world code value first second live one
