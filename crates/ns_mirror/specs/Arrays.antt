-- How an array of values is made.
use Rattle.std.specs.Prelude.{◌≡◌, ℕ, ◌+◌, List, [], ◌∷◌, replicate, Some, None, Result, Ok, Err}
use Rattle.ns_world.specs.declared.value.Value.{Value}
use Rattle.ns_world.specs.declared.value.Value.TheVariants.{Nil}
use Rattle.ns_world.specs.declared.ending.Fault.{Fault}
use Rattle.ns_world.specs.declared.ending.Fault.TheVariants.{Limit}
use Rattle.ns_world.specs.declared.ending.LimitKind.TheVariants.{Cells}
use Rattle.ns_world.specs.Cell.{ArrayCell}
use Rattle.ns_world.specs.Heap.{heap_size}
use Rattle.ns_world.specs.World.{WorldView, SameRoom, made, written}

-- the world with values written into an array, from a place on
abbrev pub listed : WorldView → ℕ → ℕ → List Value → WorldView
listed view to place [] = view
listed view to place (value ∷ values) = listed (record view { world = written view.world to place value }) to (place + 1) values

-- A new array of so many nils; or the limit on cells, and nothing changes.
abbrev pub MakesArray : WorldView → ℕ → Result ℕ Fault → WorldView → Type 0
MakesArray old size (Ok number) new =
    (made old.world (ArrayCell (replicate size Nil)) ≡ Some new.world) × (number ≡ heap_size old.world.cells) × SameRoom old new
MakesArray old size (Err fault) new = (made old.world (ArrayCell (replicate size Nil)) ≡ None) × (fault ≡ Limit Cells) × (new ≡ old)
