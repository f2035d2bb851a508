-- What stays where a part of a machine changes, and the operands of the body that runs.
use Rattle.std.proofs.Common.{◌≡◌, ℕ, ◌+◌, ◌-◌, ◌≤◌, List, [], ◌∷◌, length, take, drop, reverse, ap, ◌∙◌, refl, arith, true, length-take-le}
use Rattle.std.proofs.lemmas.List.{length-drop, length-reverse}
use Rattle.ns_code.specs.declared.program.CodeProgram.{CodeProgram}
use Rattle.ns_code.specs.declared.instruction.Instr.{Instr}
use Rattle.ns_code.specs.Table.{takes, leaves, goes_on}
use Rattle.ns_world.specs.declared.value.Value.{Value}
use Rattle.ns_machine_frames.specs.declared.frame.Frame.{Frame}
use Rattle.ns_machine_frames.specs.declared.frame.Frame.TheVariants.{Running, Looping}
use Rattle.ns_machine_frames.specs.declared.frame.RunningFrame.{RunningFrame}
use Rattle.ns_machine_frames.specs.declared.registers.Registers.{Registers}
use Rattle.ns_machine_frames.specs.declared.stack.Stack.{Stack}
use Rattle.ns_machine_frames.specs.Standing.{Stood, Runs, standing, at_next, below, AreLaid}
use Rattle.ns_machine_frames.specs.Stack.{stood}
use Rattle.ns_machine_frames.specs.Room.{FramesFitWithin}
use Rattle.ns_machine_frames.specs.declared.frame.Pending.{Pending}
use Rattle.ns_world.specs.declared.ending.Ending.{Ending}
use Rattle.ns_machine_core.specs.declared.state.Core.{Core}
use Rattle.ns_machine_core.specs.Shown.{progress_in}
use Rattle.ns_machine_core.specs.Standing.{KeepsRooms}
use Rattle.ns_moves.specs.Bodies.{height_in, greatest_of}
use Rattle.ns_machine_core.specs.Doing.{Finds, CanDo, IsRunning}

-- what stays where the stack alone has changed
pub stack_stays : (core : Core) (stack : Stack) → stack.values.room ≡ core.stack.values.room → stack.frames.room ≡ core.stack.frames.room
    → KeepsRooms core (record core { stack = stack })
stack_stays core stack values frames = record {
  world = record { limits = refl; room = (refl, refl) };
  values = values;
  frames = frames;
  places = refl;
  arguments = refl;
}

-- or where a run has ended, or something waits in it
pub ended_stays : (core : Core) (ending : Ending) → KeepsRooms core (record core { ending = ending })
ended_stays core ending =
    record { world = record { limits = refl; room = (refl, refl) }; values = refl; frames = refl; places = refl; arguments = refl }

-- All but what waits stays where what waits is set.
pub waiting_stays : (core : Core) (waiting : Pending) → KeepsRooms core (record core { waiting = waiting })
waiting_stays core waiting =
    record { world = record { limits = refl; room = (refl, refl) }; values = refl; frames = refl; places = refl; arguments = refl }

-- how many operands the topmost frame has
pub operands_count : (from top : ℕ) (items : List Value) → top ≤ length items → length (reverse (drop from (take top items))) ≡ top - from
operands_count from top items filled =
    let n = length-take-le top items filled in
    length-reverse (drop from (take top items)) ∙ (length-drop from (take top items) ∙ ap (λ k. k - from) n)

-- the operands that an instruction takes are there, and those that it leaves have their places
pub one_more : (code : CodeProgram) (core : Core) (at : Registers) (instr : Instr) → CanDo code core at instr → goes_on instr ≡ true
    → (takes instr ≤ at.top) × (at.top - takes instr + leaves instr ≤ length core.stack.values.items)
one_more code core at instr can on = by_frames core.stack.frames.items can.stands.frames.laid.frames can.stands.frames.within can.finds
  where
    by_frames : (frames : List Frame) → AreLaid frames at.top
        → FramesFitWithin (height_in code) (greatest_of code.bodies) (length core.stack.values.items) frames
        → Finds code core.places instr (standing (at_next at.next frames) (take at.top core.stack.values.items)) (progress_in core)
        → (takes instr ≤ at.top) × (at.top - takes instr + leaves instr ≤ length core.stack.values.items)
    by_frames [] laid within finds = absurd finds
    by_frames (Looping frame ∷ frames) laid within finds = absurd finds
    by_frames (Running frame ∷ frames) laid within finds =
        let count = operands_count frame.operands at.top core.stack.values.items can.stands.frames.laid.filled in
        let enough = finds.enough in
        let room = finds.room on in
        let low = laid.2 in
        let reach = within.0 in
        (omega (arith, count, enough, low), omega (arith, count, enough, room, low, reach))

-- a body runs where an instruction can be done
pub runs : (code : CodeProgram) (core : Core) (at : Registers) (instr : Instr) → CanDo code core at instr →
    IsRunning core.stack.frames.items
runs code core at instr can = by_frames core.stack.frames.items can.finds
  where
    by_frames : (frames : List Frame) → Finds code core.places instr (standing (at_next at.next frames) (take at.top core.stack.values.items)) (progress_in core)
        → IsRunning frames
    by_frames [] finds = absurd finds
    by_frames (Looping frame ∷ frames) finds = absurd finds
    by_frames (Running frame ∷ frames) finds = tt

-- the frame that stands on top is the topmost one, at the registers' next instruction
pub top_stands : (core : Core) (at : Registers) (running frame : RunningFrame) (locals stack : List Value) (others : List Stood)
    → core.stack.frames.items ≡ Running running ∷ below core.stack.frames.items → Runs frame locals stack ∷ others ≡ stood core.stack at
    → frame ≡ record running { next = at.next }
top_stands core at running frame locals stack others top e =
    let whole : Runs frame locals stack ∷ others ≡ standing (at_next at.next (Running running ∷ below core.stack.frames.items)) (take at.top core.stack.values.items) =
    e ∙ ap (λ (frames : List Frame). standing (at_next at.next frames) (take at.top core.stack.values.items)) top in
    cc
