-- What a row of the kernel comes to.
use Rattle.std.specs.Prelude.{◌≡◌, Option, Some, None, ℕ, Result, Ok, Err}
use Rattle.ns_world.specs.declared.value.Value.{Value}
use Rattle.ns_world.specs.declared.value.Value.TheVariants.{Ref}
use Rattle.ns_world.specs.declared.ending.Fault.{Fault}
use Rattle.ns_world.specs.declared.ending.Fault.TheVariants.{Kind, Limit}
use Rattle.ns_world.specs.declared.ending.Kind.TheVariants as kind
use Rattle.ns_world.specs.declared.ending.LimitKind.TheVariants.{Cells}
use Rattle.ns_world.specs.Cell.{Cell}
use Rattle.ns_world.specs.Heap.{heap_size}
use Rattle.ns_world.specs.World.{World, WorldView, SameRoom, made}

-- an answer with the world after it, or a fault, which changes nothing
pub data RowOutcome : Type 0 where
  Answers : (value : Value) (world : World) → RowOutcome
  Fails : (fault : Fault) → RowOutcome

-- an argument that isn't of the kind that the row names
abbrev pub wrong_kind : Fault
wrong_kind = Kind kind.WrongKind

-- an index or a size outside the row's range
abbrev pub out_of_range : Fault
out_of_range = Kind kind.OutOfRange

-- what a row comes to that changes nothing
abbrev pub unchanged : World → Result Value Fault → RowOutcome
unchanged world (Ok value) = Answers value world
unchanged world (Err fault) = Fails fault

-- a new cell as the answer, or the limit on cells where there is no next world
abbrev pub made_as : ℕ → Option World → RowOutcome
made_as number (Some next) = Answers (Ref number) next
made_as number None = Fails (Limit Cells)

-- a new cell, or the limit on cells where its size would pass it
abbrev pub making : World → Cell → RowOutcome
making world cell = made_as (heap_size world.cells) (made world cell)

-- A call gives an outcome: it answers the value and leaves the world, or it answers the fault and
-- leaves all as it was.
abbrev pub Gives : RowOutcome → WorldView → Result Value Fault → WorldView → Type 0
Gives (Answers value world) old (Ok answer) new = (answer ≡ value) × (new.world ≡ world) × SameRoom old new
Gives (Fails fault) old (Err found) new = (found ≡ fault) × (new ≡ old)
Gives outcome old result new = ⊥
