-- Sends from their step on.
use Rattle.std.proofs.Common.{◌≡◌, List, length, ap, sym, ◌∙◌, subst, Option, Some, All}
use Rattle.ns_base.specs.declared.place.Place.{Place as SourcePlace}
use Rattle.ns_base.specs.declared.selector.Sel.{Sel}
use Rattle.ns_code.specs.declared.program.CodeProgram.{CodeProgram}
use Rattle.ns_world.specs.declared.value.Value.{Value}
use Rattle.ns_world.specs.declared.value.Value.TheVariants.{Nil}
use Rattle.ns_world.specs.declared.ending.LimitKind.TheVariants.{Steps}
use Rattle.ns_world.specs.declared.kernel.ClassName.{ClassName}
use Rattle.ns_world.specs.Heap.{Heap}
use Rattle.ns_world.specs.Starts.{class_name_of}
use Rattle.ns_world.specs.World.{World, WorldView, SameRoom, stepped}
use Rattle.ns_find.specs.Memo.{PlaceIsRight}
use Rattle.ns_moves.specs.declared.site.Site.{Site}
use Rattle.ns_moves.specs.Control.{Progress, Activation, Control, halts, charged}
use Rattle.ns_moves.specs.Lawful.{FitsTarget}
use Rattle.ns_moves.specs.Sends.{Target, receiver_of, site_at, sent}
use Rattle.ns_moves.specs.Arrivals.{arrived}
use Rattle.ns_moves.specs.Answered.{answered}
use Rattle.ns_moves.specs.Running.{nowhere}
use Rattle.ns_machine_frames.specs.declared.registers.Registers.{Registers}
use Rattle.ns_machine_frames.specs.Stack.{stood, with_top}
use Rattle.ns_machine_frames.specs.View.{site_shown, frames_shown}
use Rattle.ns_machine_core.specs.declared.state.Core.{Core}
use Rattle.ns_machine_core.specs.declared.state.Next.{Next}
use Rattle.ns_machine_core.specs.Shown.{phase_shown, progress_in}
use Rattle.ns_machine_core.specs.Standing.{KeepsRooms, KeepsRightIn}
use Rattle.ns_machine_core.specs.laws.Charged.{step_is}
use Rattle.ns_machine_core.specs.laws.Worlds.{in_other}
use Rattle.ns_machine_sends.specs.declared.sent.Sent.{Sent}
use Rattle.ns_machine_sends.specs.Going.{arguments_in, ControlGoesOn}
use Rattle.ns_machine_sends.specs.Sending.{CanSend, looked_up, sent_at, Sends}
use Rattle.ns_machine_sends.specs.laws.Goes.{SendsKnown, send_goes}

-- the site of a send is the one that its receiver gives
pub site_is : (code : CodeProgram) (core : Core) (at : Registers) (sent : Sent) (receiver : Value) →
    sent.site.class ≡ class_name_of core.run.world.world.cells receiver
    → site_at core.run.world.world.cells (site_shown core.places sent.site).place receiver sent.site.sel ≡ site_shown core.places sent.site
site_is code core at sent receiver named =
    ap (λ (c : ClassName). let site : Site = record { place = (site_shown core.places sent.site).place; class = c; sel = sent.site.sel } in site) (sym named)

abbrev pub StepAndAnswer : Type 0
StepAndAnswer =
    (code : CodeProgram) (activation : Activation) (target : Target) (sel : Sel) (values : List Value) (place : Option SourcePlace) (progress : Progress)
    → sent code activation target sel values place progress
    ≡ charged halts Steps (stepped progress.world) progress
    (answered code activation target sel values (site_at progress.world.cells place (receiver_of progress.world.cells activation target) sel))

-- a send is its step, and what its lookup answers then
pub sent_stepped : StepAndAnswer →
    (code : CodeProgram) (core : Core) (at : Registers) (sent : Sent) (receiver : Value) (activation : Activation) (target : Target)
    (world : WorldView) → stepped core.run.world.world ≡ Some world.world → receiver_of core.run.world.world.cells activation target ≡ receiver
    → sent.site.class ≡ class_name_of core.run.world.world.cells receiver
    → sent_at code core at sent activation target ≡ looked_up code (in_other core world) at sent activation target
sent_stepped steps code core at sent receiver activation target world e to named =
    steps code activation target sent.site.sel (arguments_in core at sent) (site_shown core.places sent.site).place (progress_in core)
    ∙ (ap (λ (r : Value). charged halts Steps (stepped core.run.world.world) (progress_in core)
    (answered code activation target sent.site.sel (arguments_in core at sent)
    (site_at core.run.world.world.cells (site_shown core.places sent.site).place r sent.site.sel))) to
    ∙ (ap (λ (s : Site). charged halts Steps (stepped core.run.world.world) (progress_in core)
    (answered code activation target sent.site.sel (arguments_in core at sent) s)) (site_is code core at sent receiver named)
    ∙ ap (λ (o : Option World). charged halts Steps o (progress_in core)
    (answered code activation target sent.site.sel (arguments_in core at sent) (site_shown core.places sent.site))) e))

-- what its lookup answers can go on
pub step_goes : SendsKnown → StepAndAnswer →
    (code : CodeProgram) (core : Core) (at : Registers) (sent : Sent) (receiver : Value) (activation : Activation) (target : Target)
    (world : WorldView) → stepped core.run.world.world ≡ Some world.world → receiver_of core.run.world.world.cells activation target ≡ receiver
    → FitsTarget core.run.world.world.cells code activation target → CanSend code core at sent receiver
    → ControlGoesOn code (length core.stack.frames.items) (looked_up code (in_other core world) at sent activation target)
step_goes known steps code core at sent receiver activation target world e to fits can =
    subst (λ (c : Control). ControlGoesOn code (length core.stack.frames.items) c)
    (sent_stepped steps code core at sent receiver activation target world e to can.named)
    (send_goes known code activation target sent.site.sel (arguments_in core at sent) (site_shown core.places sent.site).place (length core.stack.frames.items)
    (progress_in core) can.lawful fits can.selector can.few can.depth)

-- what stays after its step stays
pub step_stays : (core new : Core) (world : WorldView) → stepped core.run.world.world ≡ Some world.world → SameRoom core.run.world world
    → KeepsRooms (in_other core world) new → KeepsRooms core new
step_stays core new world e room stays = record {
  world = record {
    limits = stays.world.limits ∙ ap (λ (w : World). w.limits) (step_is core.run.world.world world.world e);
    room = (stays.world.room.0 ∙ room.0, stays.world.room.1 ∙ room.1);
  };
  values = stays.values;
  frames = stays.frames;
  places = stays.places;
  arguments = stays.arguments;
}

pub step_kept : (code : CodeProgram) (core new : Core) (world : WorldView) → stepped core.run.world.world ≡ Some world.world
    → KeepsRightIn code (in_other core world) new → KeepsRightIn code core new
step_kept code core new world e kept =
    subst (λ (h : Heap). All (PlaceIsRight h code) new.run.memo) (ap (λ (w : World). w.cells) (step_is core.run.world.world world.world e)) kept

-- with the step it is the send
pub step_sends : StepAndAnswer →
    (code : CodeProgram) (core new : Core) (at : Registers) (sent : Sent) (receiver : Value) (activation : Activation) (target : Target)
    (world : WorldView) (next : Next) → stepped core.run.world.world ≡ Some world.world → SameRoom core.run.world world
    → receiver_of core.run.world.world.cells activation target ≡ receiver → CanSend code core at sent receiver
    → Sends code (in_other core world) at sent.floor (looked_up code (in_other core world) at sent activation target) new next
    → Sends code core at sent.floor (sent_at code core at sent activation target) new next
step_sends steps code core new at sent receiver activation target world next e room to can is = record {
  state = is.state
      ∙ ap (λ (c : Control). arrived code (phase_shown core.phase) c (frames_shown code core.places (stood core.stack (with_top sent.floor at))))
      (sym (sent_stepped steps code core at sent receiver activation target world e to can.named));
  stand = is.stand;
  stays = step_stays core new world e room is.stays;
  kept = step_kept code core new world e is.kept;
}

-- code that runs nowhere, for a send that no code is asked for
pub no_one : Activation
no_one = record { self = Nil; holder = 0; body = 0; home = 0; env = Nil; site = nowhere }
