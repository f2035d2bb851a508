-- A send that waits on the values alone.
use Rattle.std.proofs.Common.{◌≡◌, ℕ, ◌≤◌, List, [], length, refl, ap, sym, subst, ◌∙◌, arith, slice_get}
use Rattle.ns_base.specs.declared.place.Place.{Place as SourcePlace}
use Rattle.ns_base.specs.declared.selector.Sel.{Sel}
use Rattle.ns_code.specs.declared.program.CodeProgram.{CodeProgram}
use Rattle.ns_world.specs.declared.value.Value.{Value}
use Rattle.ns_world.specs.Starts.{class_name_of}
use Rattle.ns_moves.specs.State as state
use Rattle.ns_machine_frames.specs.declared.frame.Frame.{Frame}
use Rattle.ns_machine_frames.specs.declared.frame.KeptSite.{KeptSite}
use Rattle.ns_machine_frames.specs.declared.frame.Pending.TheVariants as pending
use Rattle.ns_machine_frames.specs.declared.registers.Registers.{Registers}
use Rattle.ns_machine_frames.specs.declared.stack.Stack.{Stack}
use Rattle.ns_machine_frames.specs.Room.{FramesFitWithin}
use Rattle.ns_machine_frames.specs.Stack.{in_use, with_top, IsLaid}
use Rattle.ns_machine_frames.specs.Standing.{standing, at_next, AreLaid}
use Rattle.ns_machine_frames.specs.View.{site_shown, frames_shown}
use Rattle.ns_machine_core.specs.declared.state.Core.{Core}
use Rattle.ns_machine_core.specs.declared.state.Next.TheVariants as next
use Rattle.ns_machine_core.specs.Shown.{phase_shown, progress_in}
use Rattle.ns_machine_core.specs.Standing.{AreStanding}
use Rattle.ns_moves.specs.Bodies.{height_in, greatest_of}
use Rattle.ns_machine.specs.Waiting.{HostSendWaits}

-- without frames none are shown, and those that there are stand wherever their values end
none_shown : (code : CodeProgram) (places : List SourcePlace) (frames : List Frame) (next : ℕ) (values : List Value) → frames ≡ []
    → frames_shown code places (standing (at_next next frames) values) ≡ []
none_shown code places frames next values none = ap (λ (f : List Frame). frames_shown code places (standing (at_next next f) values)) none

none_within : (code : CodeProgram) (filled : ℕ) (frames : List Frame) → frames ≡ [] →
    FramesFitWithin (height_in code) (greatest_of code.bodies) filled frames
none_within code filled frames none = subst (FramesFitWithin (height_in code) (greatest_of code.bodies) filled) (sym none) tt

none_standing : (code : CodeProgram) (stack : Stack) (at : Registers) (top : ℕ) → stack.frames.items ≡ [] → IsLaid stack at → top ≤ at.top
    → AreStanding code stack (with_top top at)
none_standing code stack at top none laid low = record {
  laid = record {
    frames = subst (λ (f : List Frame). AreLaid f top) (sym none) tt;
    base = laid.base;
    filled = omega (arith, low, laid.filled);
    within = laid.within;
    small = laid.small;
  };
  within = none_within code (length stack.values.items) stack.frames.items none;
}

pub send_waits : (code : CodeProgram) (core : Core) (stack : Stack) (at : Registers) (receiver : Value) (sel : Sel) (site : KeptSite) (place : ℕ) (arguments : List Value)
    → site ≡ record { place = place; class = class_name_of core.run.world.world.cells receiver; sel = sel }
    → stack.frames.items ≡ [] → IsLaid stack at → stack.values.room ≡ core.stack.values.room → stack.frames.room ≡ core.stack.frames.room
    → HostSendWaits code core receiver sel (slice_get core.places place) arguments
    (record core { stack = stack; waiting = pending.Sending receiver sel site 0; arguments = record core.arguments { items = arguments } }) (next.Waits at)
send_waits code core stack at receiver sel site place arguments site_is none laid values frames = record {
  state =
      ap (λ (f : List state.Frame). state.Pends (phase_shown core.phase) (state.Sending receiver sel arguments (site_shown core.places site)) f (progress_in core))
      (none_shown code core.places stack.frames.items at.next (in_use stack (with_top 0 at)) none)
      ∙ ap (λ (s : KeptSite). state.Pends (phase_shown core.phase) (state.Sending receiver sel arguments (site_shown core.places s)) [] (progress_in core)) site_is;
  stand = (
    none_standing code stack at at.top none laid (omega arith),
    record {
      order = omega arith;
      low = omega arith;
      reach = omega arith;
      stands = none_standing code stack at 0 none laid (omega arith);
    },
  );
  run = refl;
  stays = record { world = record { limits = refl; room = (refl, refl) }; values = values; frames = frames; places = refl; arguments = refl };
}
