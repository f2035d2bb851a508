-- The initialiser of a superclass that is entered.
use Rattle.std.proofs.Common.{◌≡◌, ℕ, List, [], ◌∷◌, drop, refl, ap, sym, ◌∙◌, subst, arith}
use Rattle.ns_base.specs.declared.place.Place.{Place as SourcePlace}
use Rattle.ns_code.specs.declared.program.CodeProgram.{CodeProgram}
use Rattle.ns_moves.specs.declared.control.Entered.{Entered}
use Rattle.ns_moves.specs.declared.control.Exit.TheVariants as exit
use Rattle.ns_moves.specs.State.{Phase, Going}
use Rattle.ns_machine_frames.specs.declared.calls.BodyShape.{BodyShape}
use Rattle.ns_machine_frames.specs.declared.frame.KeptSite.{KeptSite}
use Rattle.ns_machine_frames.specs.declared.registers.Registers.{Registers}
use Rattle.ns_machine_frames.specs.declared.stack.Stack.{Stack}
use Rattle.ns_machine_frames.specs.Standing.{Stood, Runs}
use Rattle.ns_machine_frames.specs.Stack.{in_use, stood, with_top, IsEntered}
use Rattle.ns_machine_frames.specs.Room.{EnteringKeeps}
use Rattle.ns_machine_frames.specs.Calls.{locals_for, frame_for}
use Rattle.ns_machine_frames.specs.Arriving.{PartsBegin}
use Rattle.ns_machine_frames.specs.View.{frames_shown}
use Rattle.ns_machine_core.specs.declared.state.Core.{Core}
use Rattle.ns_machine_core.specs.declared.state.Next.TheVariants as next
use Rattle.ns_machine_core.specs.Shown.{phase_shown, progress_in}
use Rattle.ns_moves.specs.Bodies.{height_in, greatest_of}
use Rattle.ns_machine_core.specs.Arriving.{shape_of, CanEnter}
use Rattle.ns_machine_core.specs.laws.Sizes.{size_fits, frame_floor, frame_base, frame_size}
use Rattle.ns_machine_core.specs.laws.Pushed.{stack_stays}
use Rattle.ns_machine_returns.specs.Parts.{part_call, listed, PartBegins}

begins : ((code : CodeProgram) (places : List SourcePlace) (phase : Phase) → PartsBegin code places phase)
    → ((height : ℕ → ℕ) (greatest : ℕ) → EnteringKeeps height greatest)
    → (code : CodeProgram) (core : Core) (at to : Registers) (stack : Stack) (first : ℕ) (site : KeptSite) (entered : Entered)
    → CanEnter code core at (part_call site first) exit.Body (listed entered)
    → IsEntered core.stack at stack to (frame_for (shape_of code entered.body) (part_call site first) (listed entered))
    (locals_for (shape_of code entered.body) (part_call site first) (listed entered).given core.stack at) (height_in code entered.body)
    → PartBegins code core at first site entered (record core { stack = stack }) (next.On to)
begins parts_begin entering code core at to stack first site entered can is = record {
  state = ap (λ (s : List Stood). Going (phase_shown core.phase) (frames_shown code core.places s) (progress_in core))
      (is.stands ∙ ap (λ (floor : ℕ). Runs (frame_for (shape_of code entered.body) (part_call site first) (listed entered))
      (locals_for (shape_of code entered.body) (part_call site first) (listed entered).given core.stack at) [] ∷ stood core.stack (with_top floor at))
      (frame_floor (shape_of code entered.body) (part_call site first) (listed entered)))
      ∙ sym (parts_begin code core.places (phase_shown core.phase) (shape_of code entered.body) (part_call site first) (listed entered)
      (drop first (in_use core.stack at)) (drop first (in_use core.stack at)) (stood core.stack (with_top first at)) (progress_in core)
      (record { params = refl; locals = refl; environment = refl }) refl refl);
  stand = record {
    laid = is.laid;
    within =
        let low = frame_base (shape_of code entered.body) (part_call site first) (listed entered) can.fits.floor in
        let reach = can.begins.reach in
        entering (height_in code) (greatest_of code.bodies) core.stack stack at to (frame_for (shape_of code entered.body) (part_call site first) (listed entered))
        (locals_for (shape_of code entered.body) (part_call site first) (listed entered).given core.stack at) (height_in code entered.body) is can.begins.within (omega arith)
        (omega (arith, low, reach))
        (frame_size (shape_of code entered.body) (part_call site first) (listed entered) (greatest_of code.bodies) (size_fits code entered.body));
  };
  run = refl;
  stays = stack_stays core stack is.room.values is.room.frames;
}

-- the same, by the shape that was told
pub part_begins : ((code : CodeProgram) (places : List SourcePlace) (phase : Phase) → PartsBegin code places phase)
    → ((height : ℕ → ℕ) (greatest : ℕ) → EnteringKeeps height greatest)
    → (code : CodeProgram) (core : Core) (at to : Registers) (stack : Stack) (first : ℕ) (site : KeptSite) (entered : Entered) (told : BodyShape)
    → told ≡ shape_of code entered.body → CanEnter code core at (part_call site first) exit.Body (listed entered)
    → IsEntered core.stack at stack to (frame_for told (part_call site first) (listed entered))
    (locals_for told (part_call site first) (listed entered).given core.stack at) told.height
    → PartBegins code core at first site entered (record core { stack = stack }) (next.On to)
part_begins parts_begin entering code core at to stack first site entered told same can is =
    begins parts_begin entering code core at to stack first site entered can
    (subst (λ (s : BodyShape). IsEntered core.stack at stack to (frame_for s (part_call site first) (listed entered))
    (locals_for s (part_call site first) (listed entered).given core.stack at) s.height) same is)
