-- What a new cell may hold, and which outcomes leave a lawful world.
use Rattle.std.specs.Prelude.{◌≡◌, All}
use Rattle.ns_code.specs.declared.program.CodeProgram.{CodeProgram}
use Rattle.ns_world.specs.declared.value.Value.{Value}
use Rattle.ns_world.specs.declared.value.Value.TheVariants.{Nil}
use Rattle.ns_world.specs.Cell.{Cell, ObjectCell, EnvironmentCell, ArrayCell}
use Rattle.ns_world.specs.Heap.{Heap}
use Rattle.ns_world.specs.Lawful.{IsLiveValue, IsLawful}
use Rattle.ns_kdata.specs.Outcome.{RowOutcome, Answers, Fails}

-- A new object's entries are nil; the locals of a new environment and the elements of a new array are live.
abbrev pub MayHold : Heap → CodeProgram → Cell → Type 0
MayHold heap code (ObjectCell class entries) = All (λ (value : Value). value ≡ Nil) entries
MayHold heap code (EnvironmentCell parent locals) = All (IsLiveValue heap code) locals
MayHold heap code (ArrayCell items) = All (IsLiveValue heap code) items
MayHold heap code cell = Unit {0}

-- The world after an answer is lawful.
abbrev pub LeavesLawful : CodeProgram → RowOutcome → Type 0
LeavesLawful code (Answers value world) = IsLawful world code
LeavesLawful code (Fails fault) = Unit {0}
