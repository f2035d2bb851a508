-- Frames as they stand: each with its own locals and operands, which are cut out of one row of values.
use Rattle.std.specs.Prelude.{ℕ, ◌-◌, ◌≤◌, List, [], ◌∷◌, ◌++◌, take, drop, reverse, slice_set}
use Rattle.ns_world.specs.declared.value.Value.{Value}
use Rattle.ns_kcode.specs.declared.state.KState.{KState}
use Rattle.ns_machine_frames.specs.declared.frame.Frame.{Frame}
use Rattle.ns_machine_frames.specs.declared.frame.Frame.TheVariants.{Running, Looping}
use Rattle.ns_machine_frames.specs.declared.frame.RunningFrame.{RunningFrame}
use Rattle.ns_machine_frames.specs.declared.frame.LoopingFrame.{LoopingFrame}

-- a body's frame with its locals and its operands, the topmost first; or one of a method of the kernel, which has none
pub data Stood : Type 0 where
  Runs : (frame : RunningFrame) (locals stack : List Value) → Stood
  Loops : (frame : LoopingFrame) → Stood

-- the frames of values that end with those of the topmost one, which comes first
abbrev pub standing : List Frame → List Value → List Stood
standing [] values = []
standing (Running frame ∷ frames) values =
    Runs frame (take (frame.operands - frame.base) (drop frame.base values)) (reverse (drop frame.operands values))
    ∷ standing frames (take frame.floor values)
standing (Looping frame ∷ frames) values = Loops frame ∷ standing frames (take frame.floor values)

-- Frames stand on one another, the topmost first: each begins where those below end, with its locals before its operands.
abbrev pub AreLaid : List Frame → ℕ → Type 0
AreLaid [] top = Unit {0}
AreLaid (Running frame ∷ frames) top =
    (frame.floor ≤ frame.base) × (frame.base ≤ frame.operands) × (frame.operands ≤ top) × AreLaid frames frame.floor
AreLaid (Looping frame ∷ frames) top = (frame.floor ≤ top) × AreLaid frames frame.floor

-- ---- frames alone

-- the frames below the topmost
abbrev pub below : {A : Type 0} → List A → List A
below [] = []
below (frame ∷ frames) = frames

-- a frame with the number of its next instruction, and one with the state of its method of the kernel
abbrev pub with_next : ℕ → Frame → Frame
with_next next (Running frame) = Running (record frame { next = next })
with_next next (Looping frame) = Looping frame

abbrev pub with_state : KState → Frame → Frame
with_state state (Running frame) = Running frame
with_state state (Looping frame) = Looping (record frame { state = state })

-- the topmost of frames with these
abbrev pub at_next : ℕ → List Frame → List Frame
at_next next [] = []
at_next next (frame ∷ frames) = with_next next frame ∷ frames

abbrev pub in_state : KState → List Frame → List Frame
in_state state [] = []
in_state state (frame ∷ frames) = with_state state frame ∷ frames

-- ---- what comes to the frames that stand

-- values are put on the operands of the topmost, the last of them on top
abbrev pub pushed_all : List Value → List Stood → List Stood
pushed_all values [] = []
pushed_all values (Runs frame locals stack ∷ stood) = Runs frame locals (reverse values ++ stack) ∷ stood
pushed_all values (Loops frame ∷ stood) = Loops frame ∷ stood

-- one value
abbrev pub pushed : Value → List Stood → List Stood
pushed value [] = []
pushed value (Runs frame locals stack ∷ stood) = Runs frame locals (value ∷ stack) ∷ stood
pushed value (Loops frame ∷ stood) = Loops frame ∷ stood

-- a local of the topmost is stored
abbrev pub stored : ℕ → Value → List Stood → List Stood
stored index value [] = []
stored index value (Runs frame locals stack ∷ stood) = Runs frame (slice_set locals index value) stack ∷ stood
stored index value (Loops frame ∷ stood) = Loops frame ∷ stood

-- the locals of the topmost, and its operands
abbrev pub locals_in : List Stood → List Value
locals_in [] = []
locals_in (Runs frame locals stack ∷ stood) = locals
locals_in (Loops frame ∷ stood) = []

abbrev pub operands_in : List Stood → List Value
operands_in [] = []
operands_in (Runs frame locals stack ∷ stood) = stack
operands_in (Loops frame ∷ stood) = []
