-- What each row of a mirror comes to.
use Rattle.std.specs.Prelude.{◌≡◌, ℕ, List, length, ◌==◌, Result, Ok, Err, if◌then◌else◌}
use Rattle.ns_base.specs.declared.selector.Sel.{Sel}
use Rattle.ns_code.specs.declared.program.CodeProgram.{CodeProgram}
use Rattle.ns_code.specs.Selector.{selector_arity}
use Rattle.ns_world.specs.declared.value.Value.{Value}
use Rattle.ns_world.specs.declared.value.Value.TheVariants.{Sym}
use Rattle.ns_world.specs.declared.ending.Fault.{Fault}
use Rattle.ns_world.specs.declared.ending.Fault.TheVariants.{Kind}
use Rattle.ns_world.specs.declared.ending.Kind.TheVariants as kind
use Rattle.ns_world.specs.Cell.{MirrorCell}
use Rattle.ns_world.specs.World.{World, WorldView, SameRoom}
use Rattle.ns_world.specs.Heap.{cell_number}
use Rattle.ns_kdata.specs.Outcome.{RowOutcome, Answers, Fails, making, unchanged, wrong_kind}
use Rattle.ns_kdata.specs.Arguments.{argument, is_array, items_of}
use Rattle.ns_world.specs.declared.kernel_parts.MirrorRow.{MirrorRow}
use Rattle.ns_world.specs.declared.kernel_parts.MirrorRow.TheVariants as row
use Rattle.ns_mirror.specs.declared.row.Mirrored.{Mirrored}
use Rattle.ns_mirror.specs.declared.row.Mirrored.TheVariants.{Answer, Perform}
use Rattle.ns_mirror.specs.Looking.{mirrored, enclosing}
use Rattle.ns_mirror.specs.Naming.{class_name}
use Rattle.ns_mirror.specs.Slots.{slot_names, slot, slot_put}
use Rattle.ns_mirror.specs.Selectors.{selectors}

-- what a mirror's row comes to: an answer or a send to be made, with the world after it, or a fault
pub data Reflected : Type 0 where
  Reflects : (answer : Mirrored) (world : World) → Reflected
  Refuses : (fault : Fault) → Reflected

-- an outcome as that of a mirror's row
abbrev pub reflected : RowOutcome → Reflected
reflected (Answers value world) = Reflects (Answer value) world
reflected (Fails fault) = Refuses fault

-- the send of a symbol with the elements of an array; WrongArity where there are more or fewer than it takes
abbrev pub performed : World → CodeProgram → Value → Sel → Value → Reflected
performed world code receiver sel args =
    if length (items_of world.cells args) == selector_arity code sel.0
    then Reflects (Perform receiver sel (cell_number args)) world
    else Refuses (Kind kind.WrongArity)

-- the same; WrongKind where the arguments aren't an Array
abbrev pub performed_with : World → CodeProgram → Value → Sel → Value → Reflected
performed_with world code receiver sel args =
    if is_array world.cells args then performed world code receiver sel args else Refuses wrong_kind

-- `perform:with:`; WrongKind first where it isn't a Symbol
abbrev pub perform : World → CodeProgram → Value → Value → Value → Reflected
perform world code receiver (Sym sel) args = performed_with world code receiver sel args
perform world code receiver other args = Refuses wrong_kind

-- the outcome of each row, by the value that is mirrored and the first two arguments
abbrev pub row_outcome : World → CodeProgram → MirrorRow → Value → Value → Value → Reflected
row_outcome world code row.On value first second = reflected (making world (MirrorCell first))
row_outcome world code row.ClassName value first second = reflected (class_name world code value)
row_outcome world code row.SlotNames value first second = reflected (slot_names world code value)
row_outcome world code row.Slot value first second = reflected (unchanged world (slot world.cells code value first))
row_outcome world code row.SlotPut value first second = reflected (slot_put world code value first second)
row_outcome world code row.Selectors value first second = reflected (selectors world code value)
row_outcome world code row.Enclosing value first second = reflected (Answers (enclosing world.cells value) world)
row_outcome world code row.Perform value first second = perform world code value first second

-- the outcome of a row of the mirror of that number, with a list of arguments
abbrev pub mirror : World → CodeProgram → MirrorRow → ℕ → List Value → Reflected
mirror world code row receiver args = row_outcome world code row (mirrored world.cells receiver) (argument args 0) (argument args 1)

-- A call gives an outcome: the answer or the send, and the world after it; or the fault, and nothing changes.
abbrev pub GivesMirrored : Reflected → WorldView → Result Mirrored Fault → WorldView → Type 0
GivesMirrored (Reflects answer world) old (Ok found) new = (found ≡ answer) × (new.world ≡ world) × SameRoom old new
GivesMirrored (Refuses fault) old (Err found) new = (found ≡ fault) × (new ≡ old)
GivesMirrored outcome old result new = ⊥
