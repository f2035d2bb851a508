-- What the values and the frames of a machine show, with its registers.
use Rattle.std.specs.Prelude.{◌≡◌, ℕ, ◌+◌, ◌-◌, ◌<◌, ◌≤◌, List, [], ◌∷◌, ◌++◌, length, take, drop, replicate, slice_set}
use Rattle.ns_world.specs.declared.value.Value.{Value}
use Rattle.ns_world.specs.declared.value.Value.TheVariants.{Nil}
use Rattle.ns_machine_frames.specs.declared.frame.Frame.{Frame}
use Rattle.ns_machine_frames.specs.declared.frame.Frame.TheVariants.{Running, Looping}
use Rattle.ns_machine_frames.specs.declared.frame.RunningFrame.{RunningFrame}
use Rattle.ns_machine_frames.specs.declared.frame.Activation.{Activation}
use Rattle.ns_machine_frames.specs.declared.frame.Layout.{Layout}
use Rattle.ns_machine_frames.specs.declared.frame.Leaving.{Leaving}
use Rattle.ns_machine_frames.specs.declared.registers.Registers.{Registers}
use Rattle.ns_machine_frames.specs.declared.stack.Stack.{Stack}
use Rattle.ns_machine_frames.specs.Standing.{Stood, Runs, standing, AreLaid, at_next}

-- the values in use
abbrev pub in_use : Stack → Registers → List Value
in_use stack at = take at.top stack.values.items

-- the frames as they stand, where the registers have the next instruction of the topmost
abbrev pub stood : Stack → Registers → List Stood
stood stack at = standing (at_next at.next stack.frames.items) (in_use stack at)

-- the registers at another top
abbrev pub with_top : ℕ → Registers → Registers
with_top top at = record at { top = top }

-- where the registers say that the locals of the topmost frame begin, they do
abbrev pub HasBase : List Frame → ℕ → Type 0
HasBase [] base = Unit {0}
HasBase (Running frame ∷ frames) base = base ≡ frame.base
HasBase (Looping frame ∷ frames) base = Unit {0}

-- The frames stand on one another, the values in use are there, and 32 bits number all for which there is room.
pub record IsLaid (stack : Stack) (at : Registers) : Type 0 where
  pub frames : AreLaid stack.frames.items at.top
  pub base : HasBase stack.frames.items at.base
  pub filled : at.top ≤ length stack.values.items
  pub within : length stack.values.items ≤ stack.values.room
  pub small : stack.values.room ≤ 4294967295

-- What is laid stays so, with the same registers.
abbrev pub StaysLaid : Stack → Stack → Type 0
StaysLaid old new = (at : Registers) → IsLaid old at → IsLaid new at

-- a value is written at a place
abbrev pub put_at : ℕ → Value → Stack → Stack
put_at at value stack = record stack { values = record stack.values { items = slice_set stack.values.items at value } }

-- There is as much room as there was, and no fewer values stay filled.
pub record KeepsRoom (old new : Stack) : Type 0 where
  pub values : new.values.room ≡ old.values.room
  pub frames : new.frames.room ≡ old.frames.room
  pub filled : length old.values.items ≤ length new.values.items

-- ---- entering

-- Frames can begin at a floor: where the values of the frames below are to end they do, and there is room for one frame more.
pub record FramesCanBegin (stack : Stack) (at : Registers) (floor : ℕ) : Type 0 where
  pub laid : IsLaid stack at
  pub waits : IsLaid stack (with_top floor at)
  pub low : floor ≤ at.top
  pub frames : length stack.frames.items < stack.frames.room

-- A body's arguments, which end at a top, begin behind the caller's values and are among its locals, and there is room for these and its operands.
pub record FitsLayout (layout : Layout) (top room : ℕ) : Type 0 where
  pub floor : layout.floor ≤ layout.base
  pub arguments : layout.base ≤ top
  pub locals : top ≤ layout.base + layout.locals
  pub enough : layout.base + layout.locals + layout.height ≤ room

-- the frame of a body that has just been entered
abbrev pub entered_frame : Leaving → Activation → Layout → RunningFrame
entered_frame leaving activation layout = record {
  leaving = leaving;
  activation = activation;
  next = 0;
  floor = layout.floor;
  base = layout.base;
  operands = layout.base + layout.locals;
}

-- its locals: what stands from its base on, and nils
abbrev pub locals_at : Stack → Registers → Layout → List Value
locals_at stack at layout = drop layout.base (in_use stack at) ++ replicate (layout.base + layout.locals - at.top) Nil

-- A frame of these locals has been entered, and so many operands fit: it stands on the frames below its floor, of which the topmost waits.
pub record IsEntered (old : Stack) (at : Registers) (new : Stack) (to : Registers) (frame : RunningFrame) (locals : List Value) (height : ℕ) : Type 0 where
  pub stands : stood new to ≡ Runs frame locals [] ∷ stood old (with_top frame.floor at)
  pub laid : IsLaid new to
  pub frames : new.frames.items ≡ Running frame ∷ at_next at.next old.frames.items
  pub filled : frame.operands + height ≤ length new.values.items
  pub room : KeepsRoom old new
  pub registers : to ≡ record { next = 0; top = frame.operands; base = frame.base }
