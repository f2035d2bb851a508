-- An evaluation for which a method of the kernel waits.
use Rattle.std.proofs.Common.{◌≡◌, ℕ, ◌≤◌, List, ◌∷◌, ◌++◌, length, take, drop, refl, ap, sym, ◌∙◌, subst, arith, Option}
use Rattle.std.proofs.lemmas.List.{take-take, length-take-le}
use Rattle.std.proofs.Math.Seq.{take-append_seam, drop-append_seam}
use Rattle.ns_code.specs.declared.program.CodeProgram.{CodeProgram}
use Rattle.ns_world.specs.declared.value.Value.{Value}
use Rattle.ns_kcode.specs.declared.state.KState.{KState}
use Rattle.ns_moves.specs.Blocks.{listed}
use Rattle.ns_moves.specs.State.{Pends, Evaluating}
use Rattle.ns_machine_frames.specs.declared.frame.Frame.{Frame}
use Rattle.ns_machine_frames.specs.declared.frame.Frame.TheVariants.{Looping}
use Rattle.ns_machine_frames.specs.declared.frame.LoopingFrame.{LoopingFrame}
use Rattle.ns_machine_frames.specs.declared.frame.Pending.TheVariants as pending
use Rattle.ns_machine_frames.specs.declared.registers.Registers.{Registers}
use Rattle.ns_machine_frames.specs.declared.stack.Stack.{Stack}
use Rattle.ns_machine_frames.specs.Row.{FrameRow}
use Rattle.ns_machine_frames.specs.Standing.{Stood, Loops, standing, at_next, in_state, below, AreLaid}
use Rattle.ns_machine_frames.specs.Stack.{stood, in_use, with_top, IsLaid, KeepsRoom}
use Rattle.ns_machine_frames.specs.Leaving.{turned}
use Rattle.ns_machine_frames.specs.Room.{bound, FramesFitWithin}
use Rattle.ns_machine_frames.specs.View.{site_shown, frames_shown}
use Rattle.ns_machine_frames.specs.laws.Room.{within_more}
use Rattle.ns_machine_core.specs.declared.state.Core.{Core}
use Rattle.ns_machine_core.specs.declared.state.Next.TheVariants as next
use Rattle.ns_machine_core.specs.Shown.{phase_shown, progress_in}
use Rattle.ns_machine_core.specs.Standing.{HasStandingFrames}
use Rattle.ns_moves.specs.Bodies.{height_in, greatest_of}
use Rattle.ns_machine_returns.specs.Acting.{Awaits}

-- a method on top needs no values above its floor
pub laid_at_floor : (stack : Stack) (at : Registers) (looping : LoopingFrame) (others : List Frame) →
    stack.frames.items ≡ Looping looping ∷ others
    → IsLaid stack at → IsLaid stack (with_top looping.floor at)
laid_at_floor stack at looping others top laid =
    let frames = subst (λ (all : List Frame). AreLaid all at.top) top laid.frames in
    let low = frames.0 in
    let filled = laid.filled in
    record {
      frames = subst (λ (all : List Frame). AreLaid all looping.floor) (sym top) (omega arith, frames.1);
      base = laid.base;
      filled = omega (arith, low, filled);
      within = laid.within;
      small = laid.small;
    }

floor_low : (core : Core) (at : Registers) (looping : LoopingFrame) →
    core.stack.frames.items ≡ Looping looping ∷ below core.stack.frames.items
    → IsLaid core.stack at → looping.floor ≤ at.top
floor_low core at looping top laid = (subst (λ (all : List Frame). AreLaid all at.top) top laid.frames).0

-- The stack with the argument, if there is one, above the floor of the method, which is in a new state.
pub record IsArgued (core : Core) (at : Registers) (looping : LoopingFrame) (argument : Option Value) (state : KState) (stack : Stack) (above : Registers) : Type 0 where
  pub used : in_use stack above ≡ take looping.floor core.stack.values.items ++ listed argument
  pub laid : IsLaid stack above
  pub frames : stack.frames ≡ record core.stack.frames { items = in_state state core.stack.frames.items }
  pub room : KeepsRoom core.stack stack
  pub top : looping.floor ≤ above.top

pub awaits : (code : CodeProgram) (core : Core) (at above : Registers) (looping : LoopingFrame) (block : Value) (argument : Option Value) (state : KState)
    (stack : Stack) → HasStandingFrames code core at → core.stack.frames.items ≡ Looping looping ∷ below core.stack.frames.items
    → IsArgued core at looping argument state stack above
    → Awaits code core at looping block argument state
    (record core { stack = stack; waiting = pending.Evaluating block looping.site looping.floor looping.floor }) (next.Waits above)
awaits code core at above looping block argument state stack stands top argued = record {
  is = ap (λ (arguments : List Value). Pends (phase_shown core.phase) (Evaluating block arguments (site_shown core.places looping.site))
      (frames_shown code core.places (stood stack (with_top looping.floor above))) (progress_in core)) arguments_are
      ∙ ap (λ (s : List Stood). Pends (phase_shown core.phase) (Evaluating block (listed argument) (site_shown core.places looping.site))
      (frames_shown code core.places s) (progress_in core)) stood_are;
  stand = (
    record { laid = argued.laid; within = within },
    record {
      order = argued.top;
      low = omega arith;
      reach = subst (λ (frames : List Frame). looping.floor ≤ bound (greatest_of code.bodies) frames) (sym items)
          (subst (FramesFitWithin (height_in code) (greatest_of code.bodies) (length stack.values.items)) items within).1;
      stands = record { laid = laid_at_floor stack above (record looping { state = state }) (below core.stack.frames.items) items argued.laid; within = within };
    },
  );
  run = refl;
  stays = record { world = record { limits = refl; room = (refl, refl) }; values = argued.room.values; frames = argued.room.frames; places = refl; arguments = refl };
}
  where
    items : stack.frames.items ≡ Looping (record looping { state = state }) ∷ below core.stack.frames.items
    items = ap (λ (row : FrameRow). row.items) argued.frames ∙ ap (in_state state) top

    low : looping.floor ≤ at.top
    low = floor_low core at looping top stands.frames.laid

    filled : looping.floor ≤ length core.stack.values.items
    filled = let a = low in let b = stands.frames.laid.filled in omega (arith, a, b)

    below_long : length (take looping.floor core.stack.values.items) ≡ looping.floor
    below_long = length-take-le looping.floor core.stack.values.items filled

    arguments_are : drop looping.floor (in_use stack above) ≡ listed argument
    arguments_are =
        ap (drop looping.floor) argued.used
        ∙ (ap (λ (n : ℕ). drop n (take looping.floor core.stack.values.items ++ listed argument)) (sym below_long)
        ∙ drop-append_seam (take looping.floor core.stack.values.items) (listed argument))

    same_below : take looping.floor stack.values.items ≡ take looping.floor core.stack.values.items
    same_below =
        sym (take-take looping.floor above.top stack.values.items argued.top)
        ∙ (ap (take looping.floor) argued.used
        ∙ (ap (λ (n : ℕ). take n (take looping.floor core.stack.values.items ++ listed argument)) (sym below_long)
        ∙ take-append_seam (take looping.floor core.stack.values.items) (listed argument)))

    twice : take looping.floor (take looping.floor core.stack.values.items) ≡ take looping.floor (take at.top core.stack.values.items)
    twice = let same : looping.floor ≤ looping.floor = omega arith in
        take-take looping.floor looping.floor core.stack.values.items same ∙ sym (take-take looping.floor at.top core.stack.values.items low)

    stood_are : stood stack (with_top looping.floor above) ≡ turned state (stood core.stack at)
    stood_are =
        ap (λ (frames : List Frame). standing (at_next above.next frames) (take looping.floor stack.values.items)) items
        ∙ (ap (λ (values : List Value). standing (Looping (record looping { state = state }) ∷ below core.stack.frames.items) values) same_below
        ∙ (ap (λ (values : List Value). Loops (record looping { state = state }) ∷ standing (below core.stack.frames.items) values) twice
        ∙ ap (λ (frames : List Frame). turned state (standing (at_next at.next frames) (take at.top core.stack.values.items))) (sym top)))

    within : FramesFitWithin (height_in code) (greatest_of code.bodies) (length stack.values.items) stack.frames.items
    within =
        subst (FramesFitWithin (height_in code) (greatest_of code.bodies) (length stack.values.items)) (sym items)
        (within_more (height_in code) (greatest_of code.bodies) (length core.stack.values.items) (length stack.values.items)
        (Looping (record looping { state = state }) ∷ below core.stack.frames.items) argued.room.filled
        (subst (FramesFitWithin (height_in code) (greatest_of code.bodies) (length core.stack.values.items)) top stands.frames.within))
