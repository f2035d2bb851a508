-- Which outcomes of mirrors are live.
use Rattle.std.specs.Prelude.{◌≡◌, List, length, Some, IsTrue}
use Rattle.ns_code.specs.declared.program.CodeProgram.{CodeProgram}
use Rattle.ns_code.specs.Selector.{is_selector_number, selector_arity}
use Rattle.ns_world.specs.declared.value.Value.{Value}
use Rattle.ns_world.specs.Cell.{ArrayCell}
use Rattle.ns_world.specs.Heap.{find_cell}
use Rattle.ns_world.specs.Lawful.{IsLiveValue}
use Rattle.ns_mirror.specs.declared.row.Mirrored.TheVariants.{Answer, Perform}
use Rattle.ns_mirror.specs.Mirror.{Reflected, Reflects, Refuses}

-- An answer is live; a send that is to be made has a live receiver, a selector and an array of as many
-- arguments as it takes.
abbrev pub ReflectsLive : CodeProgram → Reflected → Type 0
ReflectsLive code (Reflects (Answer value) world) = IsLiveValue world.cells code value
ReflectsLive code (Reflects (Perform receiver sel args) world) =
    IsLiveValue world.cells code receiver
    × IsTrue (is_selector_number code sel.0)
    × (items : List Value) × (find_cell world.cells args ≡ Some (ArrayCell items)) × (length items ≡ selector_arity code sel.0)
ReflectsLive code (Refuses fault) = Unit {0}
