-- What a lookup leaves: the lookups that are kept, and all else as it was.
use Rattle.std.proofs.Common.{◌≡◌, ℕ, ap, ◌∙◌, subst, length, All}
use Rattle.ns_code.specs.declared.program.CodeProgram.{CodeProgram}
use Rattle.ns_world.specs.declared.value.Value.{Value}
use Rattle.ns_world.specs.Starts.{start_of}
use Rattle.ns_world.specs.World.{WorldView}
use Rattle.ns_find.specs.declared.found.Found.{Found}
use Rattle.ns_find.specs.declared.found.Sending.{Sending}
use Rattle.ns_find.specs.Find.{found_from}
use Rattle.ns_find.specs.Memo.{PlaceIsRight}
use Rattle.ns_moves.specs.Control.{Progress, Activation, Control}
use Rattle.ns_moves.specs.Sends.{Target}
use Rattle.ns_moves.specs.Arrivals.{arrived}
use Rattle.ns_moves.specs.declared.run.Run.{Run}
use Rattle.ns_moves.specs.Answered.{answered}
use Rattle.ns_moves.specs.Run.{progress_of}
use Rattle.ns_machine_frames.specs.declared.registers.Registers.{Registers}
use Rattle.ns_machine_frames.specs.Stack.{stood, with_top}
use Rattle.ns_machine_frames.specs.View.{site_shown, frames_shown}
use Rattle.ns_machine_core.specs.declared.state.Core.{Core}
use Rattle.ns_machine_core.specs.declared.state.Next.{Next}
use Rattle.ns_machine_core.specs.Shown.{phase_shown}
use Rattle.ns_machine_sends.specs.declared.sent.Sent.{Sent}
use Rattle.ns_machine_sends.specs.Going.{arguments_in, ControlGoesOn}
use Rattle.ns_machine_sends.specs.Sending.{CanSend, looked_up, Sends}
use Rattle.ns_machine_sends.specs.laws.Looked.{looked}
use Rattle.ns_machine_sends.proofs.Stepped.{left_in}

world_same : (core : Core) (run : Run) → looked core run → run.world ≡ core.run.world
world_same core run rest = ap (λ (r : Run). r.world) rest

-- so a send can still be made
pub looked_can : (code : CodeProgram) (core : Core) (at : Registers) (sent : Sent) (receiver : Value) (run : Run) → looked core run
    → All (PlaceIsRight core.run.world.world.cells code) run.memo → CanSend code core at sent receiver → CanSend code (record core { run = run }) at sent receiver
looked_can code core at sent receiver run rest kept can = record {
  left = left_in code core at sent run
      (record { limits = ap (λ (w : WorldView). w.world.limits) same; room = (ap (λ (w : WorldView). w.cell_room) same, ap (λ (w : WorldView). w.out_room) same) })
      can.left;
  runs = can.runs;
  lawful = rw same can.lawful;
  begun = rw (same, begun) can.begun;
  kept = rw same kept;
  depth = rw same can.depth;
  live = rw same can.live;
  named = rw same can.named;
  selector = rw same can.selector;
  few = can.few;
}
  where
    same : run.world ≡ core.run.world
    same = world_same core run rest

    begun : run.begun ≡ core.run.begun
    begun = ap (λ (r : Run). r.begun) rest

-- and answers the same
pub looked_same :
    (code : CodeProgram) (core : Core) (at : Registers) (sent : Sent) (run : Run) (activation : Activation) (target : Target) →
    looked core run
    → looked_up code (record core { run = run }) at sent activation target ≡ looked_up code core at sent activation target
looked_same code core at sent run activation target rest =
    ap (λ (p : Progress). answered code activation target sent.site.sel (arguments_in core at sent) (site_shown core.places sent.site) p) (ap progress_of rest)

pub looked_goes :
    (code : CodeProgram) (core : Core) (at : Registers) (sent : Sent) (run : Run) (activation : Activation) (target : Target) →
    looked core run
    → ControlGoesOn code (length core.stack.frames.items) (looked_up code core at sent activation target)
    → ControlGoesOn code (length core.stack.frames.items) (looked_up code (record core { run = run }) at sent activation target)
looked_goes code core at sent run activation target rest goes =
    rw (looked_same code core at sent run activation target rest) goes

-- what was found is what is found there
pub looked_found : (code : CodeProgram) (core : Core) (run : Run) (receiver : Value) (sel : ℕ) (kind : Sending) (member : Found) →
    looked core run
    → member ≡ found_from core.run.world.world.cells code (start_of core.run.world.world.cells receiver) sel kind
    → member ≡ found_from run.world.world.cells code (start_of run.world.world.cells receiver) sel kind
looked_found code core run receiver sel kind member rest e = rw (world_same core run rest) e

-- what it leads to is where it led before
pub looked_sends : (code : CodeProgram) (core new : Core) (at : Registers) (sent : Sent) (run : Run) (activation : Activation) (target : Target) (next : Next)
    → looked core run → Sends code (record core { run = run }) at sent.floor (looked_up code (record core { run = run }) at sent activation target) new next
    → Sends code core at sent.floor (looked_up code core at sent activation target) new next
looked_sends code core new at sent run activation target next rest is = record {
  state = is.state
      ∙ ap (λ (c : Control). arrived code (phase_shown core.phase) c (frames_shown code core.places (stood core.stack (with_top sent.floor at))))
      (looked_same code core at sent run activation target rest);
  stand = is.stand;
  stays = record {
    world = record {
      limits = is.stays.world.limits ∙ ap (λ (w : WorldView). w.world.limits) same;
      room = (is.stays.world.room.0 ∙ ap (λ (w : WorldView). w.cell_room) same, is.stays.world.room.1 ∙ ap (λ (w : WorldView). w.out_room) same);
    };
    values = is.stays.values;
    frames = is.stays.frames;
    places = is.stays.places;
    arguments = is.stays.arguments;
  };
  kept = subst (λ (w : WorldView). All (PlaceIsRight w.world.cells code) new.run.memo) same is.kept;
}
  where
    same : run.world ≡ core.run.world
    same = world_same core run rest
