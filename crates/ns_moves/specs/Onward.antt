-- What each action leaves of what was there.
use Rattle.std.specs.Prelude.{◌≡◌, ℕ, ◌≤◌, List, [], ◌∷◌, ◌++◌, IsSome, Contains}
use Rattle.ns_world.specs.declared.value.Value.{Value}
use Rattle.ns_world.specs.declared.value.Value.TheVariants.{Ref}
use Rattle.ns_world.specs.Heap.{Heap, heap_size, find_cell, cell_number}
use Rattle.ns_world.specs.World.{World}
use Rattle.ns_mirror.specs.Looking.{mirrored}
use Rattle.ns_moves.specs.Control.{Progress, After, Gives, Halts, Control, Now, Enter, Evaluate, Begin, Perform, PartControl, Skip, Stop, EnterPart, Waiting, Waits, Finishes}

-- No limit changed, no counter but depth fell, what was printed stands, and each cell that was there is as it
-- was, but those that are named.
pub record Grown (named : List Value) (old new : World) : Type 0 where
  pub limits : new.limits ≡ old.limits
  pub steps : old.steps ≤ new.steps
  pub cells : heap_size old.cells ≤ heap_size new.cells
  pub more : List ℕ
  pub printed : new.output ≡ old.output ++ more
  pub others : (number : ℕ) → IsSome (find_cell old.cells number) → (Contains named (Ref number) → ⊥) → find_cell new.cells number ≡ find_cell old.cells number

-- The same of a run, whose count of method activations didn't fall.
pub record Onward (named : List Value) (old new : Progress) : Type 0 where
  pub world : Grown named old.world new.world
  pub begun : old.begun ≤ new.begun

-- what the run has done by then
abbrev pub after_reached : After → Progress
after_reached (Gives value progress) = progress
after_reached (Halts ending progress) = progress

abbrev pub reached : Control → Progress
reached (Now after) = after_reached after
reached (Enter exit activation locals progress) = progress
reached (Evaluate block arguments site progress) = progress
reached (Begin method state site progress) = progress
reached (Perform receiver sel array site progress) = progress

abbrev pub part_reached : PartControl → Progress
part_reached (Skip progress) = progress
part_reached (Stop ending progress) = progress
part_reached (EnterPart activation locals progress) = progress

abbrev pub waiting_reached : Waiting → Progress
waiting_reached (Waits block arguments state progress) = progress
waiting_reached (Finishes after) = after_reached after

-- what a send to a receiver may change: the receiver, or what it mirrors
abbrev pub touched : Heap → Value → List Value
touched heap receiver = receiver ∷ mirrored heap (cell_number receiver) ∷ []
