-- What a lookup leaves, and where what it answered leads.
use Rattle.std.proofs.Common.{◌≡◌, List, length, ap, sym, ◌∙◌, subst, Option, All}
use Rattle.ns_code.specs.declared.program.CodeProgram.{CodeProgram}
use Rattle.ns_world.specs.declared.value.Value.{Value}
use Rattle.ns_find.specs.declared.memo.Kept.{Kept}
use Rattle.ns_find.specs.Memo.{PlaceIsRight}
use Rattle.ns_moves.specs.Control.{Control}
use Rattle.ns_moves.specs.Arrivals.{arrived}
use Rattle.ns_moves.specs.declared.run.Run.{Run}
use Rattle.ns_moves.specs.declared.sends.Answered.{Answered}
use Rattle.ns_moves.specs.Room.{SameRest}
use Rattle.ns_machine_frames.specs.declared.registers.Registers.{Registers}
use Rattle.ns_machine_frames.specs.Stack.{stood, with_top}
use Rattle.ns_machine_frames.specs.View.{frames_shown}
use Rattle.ns_machine_core.specs.declared.state.Core.{Core}
use Rattle.ns_machine_core.specs.declared.state.Next.{Next}
use Rattle.ns_machine_core.specs.Shown.{phase_shown}
use Rattle.ns_machine_core.specs.Arriving.{Arrives}
use Rattle.ns_machine_sends.specs.declared.sent.Sent.{Sent}
use Rattle.ns_machine_sends.specs.Going.{ControlGoesOn, answered_at, Leads}
use Rattle.ns_machine_sends.specs.Sending.{Sends}

-- nothing but the lookups that are kept has changed
abbrev pub looked : Core → Run → Type 0
looked core run = run ≡ record core.run { memo = run.memo }

-- Where control has arrived it has led, and the lookups that are kept stay.
pub comes_leads : (code : CodeProgram) (old new : Core) (at : Registers) (sent : Sent) (control : Control) (next : Next)
    → Arrives code old at sent.floor control new next → Leads code old at sent.floor control new next
comes_leads code old new at sent control next is =
    record { state = is.state; stand = is.stand; memo = ap (λ r. r.memo) is.run; stays = is.stays }

-- What a lookup answered can go on where control can, and has led there.
pub answer_goes : (code : CodeProgram) (core : Core) (at : Registers) (sent : Sent) (receiver : Value) (run : Run) (answer : Answered) (control : Control)
    → answered_at code (record core { run = run }) at sent receiver answer ≡ control → ControlGoesOn code (length core.stack.frames.items) control
    → ControlGoesOn code (length core.stack.frames.items) (answered_at code (record core { run = run }) at sent receiver answer)
answer_goes code core at sent receiver run answer control e goes =
    subst (λ (c : Control). ControlGoesOn code (length core.stack.frames.items) c) (sym e) goes

pub answer_sends : (code : CodeProgram) (core new : Core) (at : Registers) (sent : Sent) (receiver : Value) (run : Run) (answer : Answered) (control : Control) (next : Next)
    → answered_at code (record core { run = run }) at sent receiver answer ≡ control → SameRest core.run.world run.world
    → All (PlaceIsRight core.run.world.world.cells code) run.memo
    → Leads code (record core { run = run }) at sent.floor (answered_at code (record core { run = run }) at sent receiver answer) new next
    → Sends code core at sent.floor control new next
answer_sends code core new at sent receiver run answer control next e rest kept is = record {
  state = is.state
      ∙ ap (λ (c : Control). arrived code (phase_shown core.phase) c (frames_shown code core.places (stood core.stack (with_top sent.floor at)))) e;
  stand = is.stand;
  stays = record {
    world = record {
      limits = is.stays.world.limits ∙ rest.limits;
      room = (is.stays.world.room.0 ∙ rest.room.0, is.stays.world.room.1 ∙ rest.room.1);
    };
    values = is.stays.values;
    frames = is.stays.frames;
    places = is.stays.places;
    arguments = is.stays.arguments;
  };
  kept = subst (λ (memo : List (Option Kept)). All (PlaceIsRight core.run.world.world.cells code) memo) (sym is.memo) kept;
}
