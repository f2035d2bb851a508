-- The world that a mirror's row leaves is lawful.
use Rattle.std.proofs.Common.{length, refl, Bool, true, false, cond, eqb}
use Rattle.ns_base.specs.declared.selector.Sel.{Sel}
use Rattle.ns_code.specs.declared.program.CodeProgram.{CodeProgram}
use Rattle.ns_code.specs.Selector.{selector_arity}
use Rattle.ns_world.specs.declared.value.Value.{Value}
use Rattle.ns_world.specs.declared.value.Value.TheVariants.{Nil, True, False, Int, Sym, Kernel, Ref}
use Rattle.ns_world.specs.declared.ending.Fault.TheVariants.{Kind}
use Rattle.ns_world.specs.declared.ending.Kind.TheVariants as kind
use Rattle.ns_world.specs.Cell.{ArrayCell, TextCell, MirrorCell}
use Rattle.ns_world.specs.Heap.{chain_of, cell_number}
use Rattle.ns_world.specs.Starts.{class_name_of}
use Rattle.ns_world.specs.World.{World}
use Rattle.ns_world.specs.Lawful.{IsLawful, IsLiveValue}
use Rattle.ns_kdata.specs.Outcome.{RowOutcome, Answers, Fails, making, unchanged, wrong_kind}
use Rattle.ns_kdata.specs.Arguments.{is_array, items_of, shape_of_value}
use Rattle.ns_kdata.specs.Lawful.{LeavesLawful}
use Rattle.ns_kdata.specs.laws.Leaving.{making_lawful, unchanged_lawful, text_lawful, items_lawful}
use Rattle.ns_world.specs.declared.kernel_parts.MirrorRow.{MirrorRow}
use Rattle.ns_world.specs.declared.kernel_parts.MirrorRow.TheVariants as row
use Rattle.ns_mirror.specs.declared.row.Mirrored.TheVariants.{Perform}
use Rattle.ns_mirror.specs.Naming.{class_text}
use Rattle.ns_mirror.specs.Looking.{object_class}
use Rattle.ns_mirror.specs.Slots.{slot, slot_put, slot_names_along}
use Rattle.ns_mirror.specs.Selectors.{public_selectors, methods_of_shape}
use Rattle.ns_mirror.specs.Mirror.{Reflects, Refuses, reflected, performed_with, perform, row_outcome}
use Rattle.ns_mirror.specs.Lawful.{ReflectsLawful}
use Rattle.ns_mirror.specs.lemmas.Named.{slot_names_live, shown_selectors_live}
use Rattle.ns_mirror.specs.lemmas.Written.{slot_put_lawful}

reflected_lawful : (code : CodeProgram) (outcome : RowOutcome) → LeavesLawful code outcome → ReflectsLawful code (reflected outcome)
reflected_lawful code (Answers value world) lawful = lawful
reflected_lawful code (Fails fault) lawful = tt

performed_lawful : (world : World) (code : CodeProgram) (receiver : Value) (sel : Sel) (args : Value) → IsLawful world code →
    ReflectsLawful code (performed_with world code receiver sel args)
performed_lawful world code receiver sel args lawful =
    tested (is_array world.cells args) (eqb (length (items_of world.cells args)) (selector_arity code sel.0))
  where
    tested : (b c : Bool) → ReflectsLawful code (cond b (cond c (Reflects (Perform receiver sel (cell_number args)) world) (Refuses (Kind kind.WrongArity))) (Refuses wrong_kind))
    tested true true = lawful
    tested true false = tt
    tested false c = tt

perform_lawful : (world : World) (code : CodeProgram) (receiver name args : Value) → IsLawful world code →
    ReflectsLawful code (perform world code receiver name args)
perform_lawful world code receiver (Sym sel) args lawful = performed_lawful world code receiver sel args lawful
perform_lawful world code receiver Nil args lawful = tt
perform_lawful world code receiver True args lawful = tt
perform_lawful world code receiver False args lawful = tt
perform_lawful world code receiver (Int number) args lawful = tt
perform_lawful world code receiver (Kernel class) args lawful = tt
perform_lawful world code receiver (Ref at) args lawful = tt

-- each row leaves a lawful world, where the value that may be mirrored and the one that may be stored are live
pub rows_lawful : (world : World) (code : CodeProgram) (row : MirrorRow) (value first second : Value) → IsLawful world code →
    IsLiveValue world.cells code first → IsLiveValue world.cells code second →
    ReflectsLawful code (row_outcome world code row value first second)
rows_lawful world code row.On value first second lawful one two =
    reflected_lawful code (making world (MirrorCell first)) (making_lawful world code (MirrorCell first) lawful refl one tt)
rows_lawful world code row.ClassName value first second lawful one two =
    let text = class_text code (class_name_of world.cells value) in reflected_lawful code (making world (TextCell text)) (text_lawful world code text lawful)
rows_lawful world code row.SlotNames value first second lawful one two =
    let chain = chain_of world.cells (object_class world.cells value) in
    let names = slot_names_along world.cells code chain in
    reflected_lawful code (making world (ArrayCell names)) (items_lawful world code names lawful (slot_names_live world.cells code chain lawful.classes))
rows_lawful world code row.Slot value first second lawful one two =
    reflected_lawful code (unchanged world (slot world.cells code value first)) (unchanged_lawful world code (slot world.cells code value first) lawful)
rows_lawful world code row.SlotPut value first second lawful one two =
    reflected_lawful code (slot_put world code value first second) (slot_put_lawful world code value first second lawful two)
rows_lawful world code row.Selectors value first second lawful one two =
    let shape = shape_of_value world.cells value in
    let shown = public_selectors (methods_of_shape world.cells code shape) in
    reflected_lawful code (making world (ArrayCell shown)) (items_lawful world code shown lawful (shown_selectors_live world.cells code shape lawful.classes))
rows_lawful world code row.Enclosing value first second lawful one two = lawful
rows_lawful world code row.Perform value first second lawful one two = perform_lawful world code value first second lawful
