-- How far frames reach in the row of values, so that a body's heights and the limit on depth give room for all of them.
use Rattle.std.specs.Prelude.{◌≡◌, ℕ, ◌+◌, ◌*◌, ◌<◌, ◌≤◌, List, [], ◌∷◌, length}
use Rattle.ns_world.specs.declared.value.Value.{Value}
use Rattle.ns_kcode.specs.declared.state.KState.{KState}
use Rattle.ns_machine_frames.specs.declared.frame.Frame.{Frame}
use Rattle.ns_machine_frames.specs.declared.frame.Frame.TheVariants.{Running, Looping}
use Rattle.ns_machine_frames.specs.declared.frame.RunningFrame.{RunningFrame}
use Rattle.ns_machine_frames.specs.declared.registers.Registers.{Registers}
use Rattle.ns_machine_frames.specs.declared.stack.Stack.{Stack}
use Rattle.ns_machine_frames.specs.Standing.{operands_in, below, at_next, in_state}
use Rattle.ns_machine_frames.specs.Leaving.{with_answer}
use Rattle.ns_machine_frames.specs.Stack.{stood, IsLaid, IsEntered}

-- where a frame's values end at most, by how many operands each body has at most
abbrev pub reach : (ℕ → ℕ) → Frame → ℕ
reach height (Running frame) = frame.operands + height frame.activation.body
reach height (Looping frame) = frame.floor

-- as much as the greatest frame for each
abbrev pub bound : ℕ → List Frame → ℕ
bound greatest [] = 0
bound greatest (frame ∷ frames) = greatest + bound greatest frames

-- Each frame reaches no further than the values that are filled, and than so much for it and for each frame below it.
abbrev pub FramesFitWithin : (ℕ → ℕ) → ℕ → ℕ → List Frame → Type 0
FramesFitWithin height greatest filled [] = Unit {0}
FramesFitWithin height greatest filled (frame ∷ frames) =
    (reach height frame ≤ filled) × (reach height frame ≤ bound greatest (frame ∷ frames)) × FramesFitWithin height greatest filled frames

-- A body that runs on top with fewer operands than it has at most has a place for one more.
abbrev pub OneMoreFits : (ℕ → ℕ) → ℕ → Type 0
OneMoreFits height greatest =
    (stack : Stack) (at : Registers) (frame : RunningFrame) (frames : List Frame) → IsLaid stack at
    → FramesFitWithin height greatest (length stack.values.items) stack.frames.items → stack.frames.items ≡ Running frame ∷ frames
    → length (operands_in (stood stack at)) < height frame.activation.body → at.top < length stack.values.items

-- With no more operands than it has at most, its values end within what is reached.
abbrev pub TopIsWithin : (ℕ → ℕ) → ℕ → Type 0
TopIsWithin height greatest =
    (stack : Stack) (at : Registers) (frame : RunningFrame) (frames : List Frame) → IsLaid stack at
    → FramesFitWithin height greatest (length stack.values.items) stack.frames.items → stack.frames.items ≡ Running frame ∷ frames
    → length (operands_in (stood stack at)) ≤ height frame.activation.body → at.top ≤ bound greatest stack.frames.items

-- A frame that begins within what the others reach, and is no greater than the greatest, keeps this.
abbrev pub EnteringKeeps : (ℕ → ℕ) → ℕ → Type 0
EnteringKeeps height greatest =
    (old new : Stack) (at to : Registers) (frame : RunningFrame) (locals : List Value) (most : ℕ) → IsEntered old at new to frame locals most
    → FramesFitWithin height greatest (length old.values.items) old.frames.items → height frame.activation.body ≤ most
    → frame.base ≤ bound greatest old.frames.items → frame.operands + most ≤ frame.base + greatest
    → FramesFitWithin height greatest (length new.values.items) new.frames.items

-- There is room for such a frame under the limit on depth.
abbrev pub DepthGivesRoom : ℕ → Type 0
DepthGivesRoom greatest =
    (depth place size : ℕ) (frames : List Frame) → length frames < depth → place ≤ bound greatest frames → size ≤ greatest
    → place + size ≤ depth * greatest

-- More values that are filled, fewer frames, and what changes in the topmost keep it.
abbrev pub OthersKeep : (ℕ → ℕ) → ℕ → Type 0
OthersKeep height greatest =
    (filled more next : ℕ) (state : KState) (value : Value) (frames : List Frame) → filled ≤ more → FramesFitWithin height greatest filled frames
    → FramesFitWithin height greatest more frames × FramesFitWithin height greatest filled (below frames)
    × FramesFitWithin height greatest filled (at_next next frames) × FramesFitWithin height greatest filled (in_state state frames)
    × FramesFitWithin height greatest filled (with_answer value frames)
