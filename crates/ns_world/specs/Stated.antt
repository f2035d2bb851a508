-- What the laws say of worlds that stay lawful, and of values that stay live.
use Rattle.std.specs.Prelude.{◌≡◌, ℕ, ◌≤◌, Some, IsTrue}
use Rattle.ns_base.specs.declared.limits.Limits.{Limits}
use Rattle.ns_base.specs.Limits.{InRange}
use Rattle.ns_code.specs.declared.program.CodeProgram.{CodeProgram}
use Rattle.ns_code.specs.Fits.{Fits}
use Rattle.ns_code.specs.Soundness.{has_sound_classes, are_parents_earlier}
use Rattle.ns_world.specs.declared.value.Value.{Value}
use Rattle.ns_world.specs.declared.cell.NewCell.{NewCell}
use Rattle.ns_world.specs.Cell.{fresh}
use Rattle.ns_world.specs.Heap.{Heap, has_superclass}
use Rattle.ns_world.specs.World.{World, empty_world, made, written}
use Rattle.ns_world.specs.Lawful.{IsLiveValue, IsLawful}
use Rattle.ns_world.specs.Keeping.{MayBeMade, MayBeWritten}

-- A lawful world in which a cell is made that may be made is lawful.
abbrev pub MakingKeepsLawful : Type 0
MakingKeepsLawful =
    (world after : World) (code : CodeProgram) (new : NewCell) → IsLawful world code
    → IsTrue (has_superclass world.cells (fresh new)) → MayBeMade world.cells code new → made world (fresh new) ≡ Some after
    → IsLawful after code

-- So is one in which a word is written that may be written.
abbrev pub WritingKeepsLawful : Type 0
WritingKeepsLawful =
    (world : World) (code : CodeProgram) (at word : ℕ) (value : Value) → IsLawful world code
    → MayBeWritten world.cells code at word value → IsLawful (written world at word value) code

-- A world without cells is lawful for each code that may run.
abbrev pub EmptyIsLawful : Type 0
EmptyIsLawful =
    (limits : Limits) (code : CodeProgram) → InRange limits → Fits code
    → IsTrue (are_parents_earlier 0 code.bodies) → IsTrue (has_sound_classes code) → IsLawful (empty_world limits) code

-- A lawful world stays lawful where its counters are set within the limits.
abbrev pub CountingKeepsLawful : Type 0
CountingKeepsLawful =
    (world : World) (code : CodeProgram) (steps depth : ℕ) → IsLawful world code
    → steps ≤ world.limits.steps → depth ≤ world.limits.depth → IsLawful (record world { steps = steps; depth = depth }) code

-- What is live in the cells of a lawful world is live in those that a change leaves.
abbrev pub StaysLive : (Heap → Heap) → Type 0
StaysLive change =
    (world : World) (code : CodeProgram) (value : Value) → IsLawful world code
    → IsLiveValue world.cells code value → IsLiveValue (change world.cells) code value
