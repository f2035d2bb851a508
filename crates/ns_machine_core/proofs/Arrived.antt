-- Frames that begin where an action led.
use Rattle.std.proofs.Common.{◌≡◌, ℕ, List, [], ◌∷◌, length, drop, ap, sym, ◌∙◌, refl, subst, arith}
use Rattle.ns_base.specs.declared.place.Place.{Place as SourcePlace}
use Rattle.ns_code.specs.declared.program.CodeProgram.{CodeProgram}
use Rattle.ns_world.specs.declared.value.Value.{Value}
use Rattle.ns_moves.specs.declared.control.Exit.{Exit}
use Rattle.ns_moves.specs.declared.control.Entered.{Entered}
use Rattle.ns_moves.specs.declared.control.Given.TheVariants as given
use Rattle.ns_moves.specs.declared.control.Reached.TheVariants as reached
use Rattle.ns_moves.specs.Shown.{reached_shown}
use Rattle.ns_moves.specs.State.{Phase, Going}
use Rattle.ns_machine_frames.specs.declared.calls.BodyShape.{BodyShape}
use Rattle.ns_machine_frames.specs.declared.calls.Call.{Call}
use Rattle.ns_machine_frames.specs.declared.frame.Frame.{Frame}
use Rattle.ns_machine_frames.specs.declared.frame.Frame.TheVariants.{Looping}
use Rattle.ns_machine_frames.specs.declared.frame.KeptSite.{KeptSite}
use Rattle.ns_machine_frames.specs.declared.frame.LoopingFrame.{LoopingFrame}
use Rattle.ns_machine_frames.specs.declared.frame.Pending.TheVariants as pending
use Rattle.ns_machine_frames.specs.declared.registers.Registers.{Registers}
use Rattle.ns_machine_frames.specs.declared.stack.Stack.{Stack}
use Rattle.ns_machine_frames.specs.Row.{ValueRow}
use Rattle.ns_machine_frames.specs.Standing.{Stood, Runs, Loops, at_next}
use Rattle.ns_machine_frames.specs.Stack.{in_use, stood, with_top, IsLaid, IsEntered}
use Rattle.ns_machine_frames.specs.Room.{FramesFitWithin, EnteringKeeps}
use Rattle.ns_machine_frames.specs.Calls.{leaving_of, arguments_of, locals_for, frame_for}
use Rattle.ns_machine_frames.specs.Arriving.{BodiesBegin}
use Rattle.ns_machine_frames.specs.View.{site_shown, frames_shown}
use Rattle.ns_machine_frames.specs.laws.Room.{bound_next, within_next}
use Rattle.ns_machine_core.specs.declared.state.Core.{Core}
use Rattle.ns_machine_core.specs.declared.state.Next.TheVariants as next
use Rattle.ns_machine_core.specs.Shown.{phase_shown, progress_in}
use Rattle.ns_machine_core.specs.Standing.{AreStanding, ArgumentsWait}
use Rattle.ns_moves.specs.Bodies.{height_in, greatest_of}
use Rattle.ns_machine_core.specs.Arriving.{shape_of, CanBegin, CanEnter, Arrives}
use Rattle.ns_machine_core.specs.laws.Pushed.{stack_stays, waiting_stays}
use Rattle.ns_machine_core.specs.laws.Sizes.{size_fits, frame_floor, frame_base, frame_size}

-- ---- how far frames reach

-- ---- methods of the kernel

pub method_begins : (code : CodeProgram) (core : Core) (at to : Registers) (stack : Stack) (looping : LoopingFrame) →
    CanBegin code core at looping.floor looping.floor
    → stood stack to ≡ Loops looping ∷ stood core.stack (with_top looping.floor at) → IsLaid stack to
    → stack.frames.items ≡ Looping looping ∷ at_next at.next core.stack.frames.items → stack.values ≡ core.stack.values
    → stack.frames.room ≡ core.stack.frames.room
    → Arrives code core at looping.floor (reached_shown code (site_shown core.places looping.site) [] (reached.Begins looping.method looping.state) (progress_in core))
    (record core { stack = stack }) (next.On to)
method_begins code core at to stack looping can is laid frames values room = record {
  state = ap (λ (s : List Stood). Going (phase_shown core.phase) (frames_shown code core.places s) (progress_in core)) is;
  stand = record {
    laid = laid;
    within = subst (λ (all : List Frame). FramesFitWithin (height_in code) (greatest_of code.bodies) (length stack.values.items) all) (sym frames)
        (subst (λ (v : ValueRow). FramesFitWithin (height_in code) (greatest_of code.bodies) (length v.items) (Looping looping ∷ at_next at.next core.stack.frames.items)) (sym values)
        (let low = can.begins.waits.filled in
        let high = can.reach in
        let same = bound_next (greatest_of code.bodies) at.next core.stack.frames.items in
        (low, omega (arith, high, same), within_next (height_in code) (greatest_of code.bodies) (length core.stack.values.items) at.next core.stack.frames.items can.within)));
  };
  run = refl;
  stays = stack_stays core stack (ap (λ (v : ValueRow). v.room) values) room;
}

frame_body : (shape : BodyShape) (call : Call) (entered : Entered) → (frame_for shape call entered).activation.body ≡ entered.body
frame_body shape call entered = refl

pub body_begins : ((code : CodeProgram) (places : List SourcePlace) (phase : Phase) → BodiesBegin code places phase)
    → ((height : ℕ → ℕ) (greatest : ℕ) → EnteringKeeps height greatest)
    → (code : CodeProgram) (core : Core) (at to : Registers) (stack : Stack) (call : Call) (exit : Exit) (entered : Entered) → call.leaving ≡ leaving_of exit
    → CanEnter code core at call exit entered
    → IsEntered core.stack at stack to (frame_for (shape_of code entered.body) call entered) (locals_for (shape_of code entered.body) call entered.given core.stack at)
    (height_in code entered.body)
    → Arrives code core at call.floor (reached_shown code (site_shown core.places call.site) (arguments_of call core.stack at) (reached.Enters exit entered) (progress_in core))
    (record core { stack = stack }) (next.On to)
body_begins bodies_begin entering code core at to stack call exit entered leaving can is = record {
  state = ap (λ (s : List Stood). Going (phase_shown core.phase) (frames_shown code core.places s) (progress_in core))
      (is.stands ∙ ap (λ (floor : ℕ). Runs (frame_for (shape_of code entered.body) call entered) (locals_for (shape_of code entered.body) call entered.given core.stack at) [] ∷ stood core.stack (with_top floor at))
      (frame_floor (shape_of code entered.body) call entered))
      ∙ sym (bodies_begin code core.places (phase_shown core.phase) (shape_of code entered.body) call exit entered (arguments_of call core.stack at) (arguments_of call core.stack at)
      (stood core.stack (with_top call.floor at)) (progress_in core) (record { params = refl; locals = refl; environment = refl }) leaving can.given);
  stand = record {
    laid = is.laid;
    within =
        let low = frame_base (shape_of code entered.body) call entered can.fits.floor in
        let reach = can.begins.reach in
        entering (height_in code) (greatest_of code.bodies) core.stack stack at to (frame_for (shape_of code entered.body) call entered)
        (locals_for (shape_of code entered.body) call entered.given core.stack at) (height_in code entered.body) is can.begins.within (omega arith) (omega (arith, low, reach))
        (frame_size (shape_of code entered.body) call entered (greatest_of code.bodies) (size_fits code entered.body));
  };
  run = refl;
  stays = stack_stays core stack is.room.values is.room.frames;
}

-- the same, by the shape that was told
pub entered_by : ((code : CodeProgram) (places : List SourcePlace) (phase : Phase) → BodiesBegin code places phase)
    → ((height : ℕ → ℕ) (greatest : ℕ) → EnteringKeeps height greatest)
    → (code : CodeProgram) (core : Core) (at to : Registers) (stack : Stack) (call : Call) (exit : Exit) (entered : Entered) (told : BodyShape)
    → told ≡ shape_of code entered.body → call.leaving ≡ leaving_of exit → CanEnter code core at call exit entered
    → IsEntered core.stack at stack to (frame_for told call entered) (locals_for told call entered.given core.stack at) told.height
    → Arrives code core at call.floor (reached_shown code (site_shown core.places call.site) (arguments_of call core.stack at) (reached.Enters exit entered) (progress_in core))
    (record core { stack = stack }) (next.On to)
entered_by bodies_begin entering code core at to stack call exit entered told same leaving can is =
    body_begins bodies_begin entering code core at to stack call exit entered leaving can
    (subst (λ (s : BodyShape). IsEntered core.stack at stack to (frame_for s call entered) (locals_for s call entered.given core.stack at) s.height) same is)

-- ---- what waits

pub block_waits : (code : CodeProgram) (core : Core) (at : Registers) (block : Value) (site : KeptSite) (floor first : ℕ) →
    AreStanding code core.stack at
    → ArgumentsWait code core.stack at floor first
    → Arrives code core at floor (reached_shown code (site_shown core.places site) (drop first (in_use core.stack at)) (reached.Evaluates block given.Listed) (progress_in core))
    (record core { waiting = pending.Evaluating block site floor first }) (next.Waits at)
block_waits code core at block site floor first stands waits = record {
  state = refl;
  stand = (stands, waits);
  run = refl;
  stays = waiting_stays core (pending.Evaluating block site floor first);
}

-- The same with the arguments that are kept.
pub block_waits_kept : (code : CodeProgram) (core : Core) (at : Registers) (block : Value) (site : KeptSite) (floor : ℕ) →
    AreStanding code core.stack at
    → ArgumentsWait code core.stack at floor floor
    → Arrives code core at floor (reached_shown code (site_shown core.places site) core.arguments.items (reached.Evaluates block given.Listed) (progress_in core))
    (record core { waiting = pending.EvaluatingKept block site floor }) (next.Waits at)
block_waits_kept code core at block site floor stands waits = record {
  state = refl;
  stand = (stands, waits);
  run = refl;
  stays = waiting_stays core (pending.EvaluatingKept block site floor);
}
