-- What a send came to, and where that leads.
use Rattle.std.proofs.Common.{◌≡◌, ℕ, List, length, ap, sym, ◌∙◌, subst}
use Rattle.ns_code.specs.declared.program.CodeProgram.{CodeProgram}
use Rattle.ns_world.specs.declared.value.Value.{Value}
use Rattle.ns_world.specs.Heap.{Heap}
use Rattle.ns_world.specs.World.{WorldView, SameRoom}
use Rattle.ns_facets.specs.declared.board.Board.{Board}
use Rattle.ns_world.specs.declared.kernel_row.Row.{Row}
use Rattle.ns_moves.specs.declared.control.Reached.{Reached}
use Rattle.ns_moves.specs.declared.control.Reached.TheVariants as reached
use Rattle.ns_moves.specs.Control.{Control}
use Rattle.ns_world.specs.KernelTable.{row_at}
use Rattle.ns_moves.specs.Kernel.{row_reached}
use Rattle.ns_moves.specs.Arrivals.{arrived}
use Rattle.ns_moves.specs.declared.sends.Answered.TheVariants as answers
use Rattle.ns_moves.specs.Plain.{IsPlain}
use Rattle.ns_kernel_rows.specs.Asked.{CanBeAsked}
use Rattle.ns_kernel_rows.specs.Plain.{IsOfRow}
use Rattle.ns_kernel_rows.specs.Reaching.{CallReaches}
use Rattle.ns_machine_frames.specs.declared.frame.Frame.{Frame}
use Rattle.ns_machine_frames.specs.declared.registers.Registers.{Registers}
use Rattle.ns_machine_frames.specs.Stack.{stood, with_top}
use Rattle.ns_machine_frames.specs.View.{site_shown, frames_shown}
use Rattle.ns_machine_core.specs.declared.state.Core.{Core}
use Rattle.ns_machine_core.specs.declared.state.Next.{Next}
use Rattle.ns_machine_core.specs.Shown.{phase_shown, progress_in}
use Rattle.ns_machine_core.specs.Standing.{HasRooms}
use Rattle.ns_machine_core.specs.Arriving.{Arrives}
use Rattle.ns_machine_core.specs.Doing.{IsRunning}
use Rattle.ns_machine_sends.specs.declared.sent.Sent.{Sent}
use Rattle.ns_machine_sends.specs.Going.{arguments_in, control_at, ControlGoesOn, IsLeft, ComesToBody, IsGiven, answered_at, CanAsk, Leads}

-- ---- what comes of it

pub plain_given : (heap : Heap) (r : Reached) → IsPlain r → IsGiven heap r
plain_given heap (reached.Gives value) is = is
plain_given heap (reached.Fails fault) is = is
plain_given heap (reached.Refused sel) is = is
plain_given heap (reached.Enters exit entered) is = is
plain_given heap (reached.Evaluates block given) is = absurd is
plain_given heap (reached.Begins method state) is = is
plain_given heap (reached.Performs receiver sel array) is = is

pub row_given : (heap : Heap) (r : Reached) → IsOfRow heap r → IsGiven heap r
row_given heap (reached.Gives value) is = is
row_given heap (reached.Fails fault) is = is
row_given heap (reached.Refused sel) is = is
row_given heap (reached.Enters exit entered) is = absurd is
row_given heap (reached.Evaluates block given) is = is
row_given heap (reached.Begins method state) is = is
row_given heap (reached.Performs receiver sel array) is = is

pub runs_body : (r : Reached) (frames : List Frame) → IsRunning frames → ComesToBody r frames
runs_body (reached.Gives value) frames runs = runs
runs_body (reached.Fails fault) frames runs = tt
runs_body (reached.Refused sel) frames runs = tt
runs_body (reached.Enters exit entered) frames runs = tt
runs_body (reached.Evaluates block given) frames runs = tt
runs_body (reached.Begins method state) frames runs = tt
runs_body (reached.Performs receiver sel array) frames runs = tt

-- ---- rows

-- the machine in another world, with another board
abbrev pub with_world : Core → WorldView → Board → Core
with_world core world board = record core { run = record core.run { world = world; board = board } }

pub row_asked : (code : CodeProgram) (core : Core) (at : Registers) (sent : Sent) (receiver : Value) (number : ℕ) → IsLeft code core at sent
    → CanAsk code core at sent receiver number → CanBeAsked code core.run.world receiver (arguments_in core at sent)
row_asked code core at sent receiver number left can = record {
  lawful = can.lawful;
  room = record { cells = left.rooms.cells; out = left.rooms.out };
  live = can.live;
  all_live = can.all_live;
}

pub rooms_same : (code : CodeProgram) (core : Core) (world : WorldView) (board : Board) → world.world.limits ≡ core.run.world.world.limits →
    SameRoom core.run.world world
    → HasRooms code core → HasRooms code (with_world core world board)
rooms_same code core world board limits room rooms = record {
  cells = rw (limits, room.0) rooms.cells;
  out = rw (limits, room.1) rooms.out;
  frames = rw limits rooms.frames;
  values = rw limits rooms.values;
  evaluations = rooms.evaluations;
  sends = rooms.sends;
}

pub row_left : (code : CodeProgram) (core : Core) (at : Registers) (sent : Sent) (world : WorldView) (board : Board) →
    world.world.limits ≡ core.run.world.world.limits
    → SameRoom core.run.world world → IsLeft code core at sent → IsLeft code (with_world core world board) at sent
row_left code core at sent world board limits room left = record {
  sound = left.sound;
  rooms = rooms_same code core world board limits room left.rooms;
  depth = rw limits left.depth;
  stands = left.stands;
  waits = left.waits;
  place = left.place;
}

pub row_control : (code : CodeProgram) (core : Core) (at : Registers) (sent : Sent) (receiver : Value) (number : ℕ) (row : Row) (world : WorldView) (board : Board) (r : Reached)
    → row ≡ row_at number
    → CallReaches code (arguments_in core at sent) (row_reached code row sent.site.sel receiver (arguments_in core at sent)) core.run.world core.run.board r world board
    → control_at code (with_world core world board) at sent r ≡ answered_at code core at sent receiver (answers.Row number)
row_control code core at sent receiver number row world board r same reaches =
    reaches (site_shown core.places sent.site) core.run.begun
    ∙ ap (λ (w : Row). row_reached code w sent.site.sel receiver (arguments_in core at sent) (site_shown core.places sent.site) (progress_in core)) same

pub row_goes : (code : CodeProgram) (core : Core) (at : Registers) (sent : Sent) (receiver : Value) (number : ℕ) (row : Row) (world : WorldView) (board : Board) (r : Reached)
    → row ≡ row_at number
    → CallReaches code (arguments_in core at sent) (row_reached code row sent.site.sel receiver (arguments_in core at sent)) core.run.world core.run.board r world board
    → ControlGoesOn code (length core.stack.frames.items) (answered_at code core at sent receiver (answers.Row number))
    → ControlGoesOn code (length core.stack.frames.items) (control_at code (with_world core world board) at sent r)
row_goes code core at sent receiver number row world board r same reaches goes =
    subst (λ (c : Control). ControlGoesOn code (length core.stack.frames.items) c) (sym (row_control code core at sent receiver number row world board r same reaches)) goes

pub row_leads : (code : CodeProgram) (core new : Core) (at : Registers) (sent : Sent) (receiver : Value) (number : ℕ) (row : Row) (world : WorldView) (board : Board) (r : Reached)
    (next : Next) → row ≡ row_at number
    → CallReaches code (arguments_in core at sent) (row_reached code row sent.site.sel receiver (arguments_in core at sent)) core.run.world core.run.board r world board
    → world.world.limits ≡ core.run.world.world.limits → SameRoom core.run.world world
    → Arrives code (with_world core world board) at sent.floor (control_at code (with_world core world board) at sent r) new next
    → Leads code core at sent.floor (answered_at code core at sent receiver (answers.Row number)) new next
row_leads code core new at sent receiver number row world board r next same reaches limits room is = record {
  state = is.state
      ∙ ap (λ (c : Control). arrived code (phase_shown core.phase) c (frames_shown code core.places (stood core.stack (with_top sent.floor at))))
      (row_control code core at sent receiver number row world board r same reaches);
  stand = is.stand;
  memo = ap (λ r. r.memo) is.run;
  stays = record {
    world = record {
      limits = is.stays.world.limits ∙ limits;
      room = (is.stays.world.room.0 ∙ room.0, is.stays.world.room.1 ∙ room.1);
    };
    values = is.stays.values;
    frames = is.stays.frames;
    places = is.stays.places;
    arguments = is.stays.arguments;
  };
}
