-- What stays true of a machine's memory while a run goes on.
use Rattle.std.specs.Prelude.{◌≡◌, ℕ, ◌+◌, ◌*◌, ◌≤◌, List, [], ◌∷◌, length, max, All}
use Rattle.ns_code.specs.declared.program.CodeProgram.{CodeProgram}
use Rattle.ns_code.specs.Selector.{text_arity}
use Rattle.ns_find.specs.Memo.{PlaceIsRight}
use Rattle.ns_moves.specs.Room.{HasCellRoom, SameRest}
use Rattle.ns_machine_frames.specs.declared.registers.Registers.{Registers}
use Rattle.ns_machine_frames.specs.declared.stack.Stack.{Stack}
use Rattle.ns_machine_frames.specs.declared.frame.Pending.{Pending}
use Rattle.ns_machine_frames.specs.declared.frame.Pending.TheVariants as pending
use Rattle.ns_machine_frames.specs.Stack.{IsLaid, with_top}
use Rattle.ns_machine_frames.specs.Room.{FramesFitWithin, bound}
use Rattle.ns_machine_core.specs.declared.state.Core.{Core}
use Rattle.ns_machine_core.specs.declared.state.Next.{Next}
use Rattle.ns_machine_core.specs.declared.state.Next.TheVariants as next
use Rattle.ns_moves.specs.Bodies.{height_in, greatest_of}

-- the most arguments that a selector of these names takes, or one that the machine sends by itself
abbrev pub most_arguments : List (List ℕ) → ℕ
most_arguments [] = 2
most_arguments (name ∷ names) = max (text_arity name) (most_arguments names)

-- Memory was taken for all cells, all output, and as many frames as the limit on depth allows, with their values and one more,
-- which the block of a method of the kernel gets or a send gives; and for the arguments of a send or an evaluation that waits.
pub record HasRooms (code : CodeProgram) (core : Core) : Type 0 where
  pub cells : HasCellRoom core.run.world
  pub out : core.run.world.world.limits.out ≤ core.run.world.out_room
  pub frames : core.run.world.world.limits.depth ≤ core.stack.frames.room
  pub values : core.run.world.world.limits.depth * greatest_of code.bodies + 1 ≤ core.stack.values.room
  pub evaluations : 255 ≤ core.arguments.room
  pub sends : most_arguments code.names ≤ core.arguments.room

-- Frames stand on one another, and each has its part of the values.
pub record AreStanding (code : CodeProgram) (stack : Stack) (at : Registers) : Type 0 where
  pub laid : IsLaid stack at
  pub within : FramesFitWithin (height_in code) (greatest_of code.bodies) (length stack.values.items) stack.frames.items

-- There is room, and the frames stand.
pub record HasStandingFrames (code : CodeProgram) (core : Core) (at : Registers) : Type 0 where
  pub rooms : HasRooms code core
  pub frames : AreStanding code core.stack at

-- Arguments are in use from a place on, which is within what the frames reach, and the frames stand up to a floor below it.
pub record ArgumentsWait (code : CodeProgram) (stack : Stack) (at : Registers) (floor first : ℕ) : Type 0 where
  pub order : first ≤ at.top
  pub low : floor ≤ first
  pub reach : first ≤ bound (greatest_of code.bodies) stack.frames.items
  pub stands : AreStanding code stack (with_top floor at)

-- What stands where a send or an evaluation waits; arguments that are kept, or stand in an array, are not among the values in use.
abbrev pub Wait : CodeProgram → Pending → Stack → Registers → Type 0
Wait code pending.Nothing stack at = Unit {0}
Wait code (pending.Sending receiver sel site floor) stack at = ArgumentsWait code stack at floor floor
Wait code (pending.Performing receiver sel array site floor) stack at = ArgumentsWait code stack at floor floor
Wait code (pending.Evaluating block site floor first) stack at = ArgumentsWait code stack at floor first
Wait code (pending.EvaluatingKept block site floor) stack at = ArgumentsWait code stack at floor floor

-- The frames stand where the run goes next.
abbrev pub StandAt : CodeProgram → Core → Next → Type 0
StandAt code core (next.On at) = AreStanding code core.stack at
StandAt code core (next.Waits at) = AreStanding code core.stack at × Wait code core.waiting core.stack at
StandAt code core next.Ended = Unit {0}

-- What an action leaves of a machine: as much room, the same limits and the places of sites.
pub record KeepsRooms (old new : Core) : Type 0 where
  pub world : SameRest old.run.world new.run.world
  pub values : new.stack.values.room ≡ old.stack.values.room
  pub frames : new.stack.frames.room ≡ old.stack.frames.room
  pub places : new.places ≡ old.places
  pub arguments : new.arguments.room ≡ old.arguments.room

-- The lookups that a machine keeps are right in the world of another, which it was before.
abbrev pub KeepsRightIn : CodeProgram → Core → Core → Type 0
KeepsRightIn code old new = All (PlaceIsRight old.run.world.world.cells code) new.run.memo
