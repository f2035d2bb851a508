-- What stands after a send's step, and after its lookup.
use Rattle.std.proofs.Common.{◌≡◌, List, subst}
use Rattle.ns_code.specs.declared.program.CodeProgram.{CodeProgram}
use Rattle.ns_world.specs.declared.value.Value.{Value}
use Rattle.ns_find.specs.declared.found.Found.{Found}
use Rattle.ns_moves.specs.Control.{Activation}
use Rattle.ns_moves.specs.Sends.{Target}
use Rattle.ns_moves.specs.Suiting.{FoundSuits}
use Rattle.ns_moves.specs.declared.run.Run.{Run}
use Rattle.ns_moves.specs.declared.sends.Answered.{Answered}
use Rattle.ns_moves.specs.declared.sends.Answered.TheVariants as answers
use Rattle.ns_moves.specs.Answered.{answered_shown, answered, IsAnswered}
use Rattle.ns_moves.specs.Room.{SameRest}
use Rattle.ns_moves.specs.Run.{progress_of, IsReady}
use Rattle.ns_machine_frames.specs.declared.registers.Registers.{Registers}
use Rattle.ns_machine_frames.specs.View.{site_shown}
use Rattle.ns_machine_core.specs.declared.state.Core.{Core}
use Rattle.ns_machine_core.specs.Shown.{progress_in}
use Rattle.ns_machine_core.specs.Standing.{HasRooms}
use Rattle.ns_machine_sends.specs.declared.sent.Sent.{Sent}
use Rattle.ns_machine_sends.specs.Going.{arguments_in, IsLeft, answered_at, CanAnswer}
use Rattle.ns_machine_sends.specs.Sending.{CanSend, looked_up}

-- ---- the world after a step

pub rooms_in : (code : CodeProgram) (core : Core) (run : Run) → SameRest core.run.world run.world → HasRooms code core →
    HasRooms code (record core { run = run })
rooms_in code core run rest rooms = record {
  cells = rw (rest.limits, rest.room.0) rooms.cells;
  out = rw (rest.limits, rest.room.1) rooms.out;
  frames = rw rest.limits rooms.frames;
  values = rw rest.limits rooms.values;
  evaluations = rooms.evaluations;
  sends = rooms.sends;
}

pub left_in : (code : CodeProgram) (core : Core) (at : Registers) (sent : Sent) (run : Run) → SameRest core.run.world run.world →
    IsLeft code core at sent
    → IsLeft code (record core { run = run }) at sent
left_in code core at sent run rest left = record {
  sound = left.sound;
  rooms = rooms_in code core run rest left.rooms;
  depth = rw rest.limits left.depth;
  stands = left.stands;
  waits = left.waits;
  place = left.place;
}

-- ---- the lookup

pub ready : (code : CodeProgram) (core : Core) (at : Registers) (sent : Sent) (receiver : Value) → CanSend code core at sent receiver →
    IsReady code core.run
ready code core at sent receiver can = record { lawful = can.lawful; room = can.left.rooms.cells; begun = can.begun }

pub answer_can : (code : CodeProgram) (core : Core) (at : Registers) (sent : Sent) (receiver : Value) (run : Run) (member : Found) (answer : Answered)
    → CanSend code core at sent receiver → FoundSuits core.run.world.world.cells receiver member → IsAnswered member core.run.world answer run.world
    → CanAnswer code (record core { run = run }) at sent receiver answer
answer_can code core at sent receiver run member (answers.Comes reached) can suits is = is
answer_can code core at sent receiver run member (answers.Row number) can suits is = record {
  lawful = rw is.1 can.lawful;
  live = rw is.1 can.live;
  all_live = rw is.1 can.selector.live;
  suits = rw is.1 (subst (λ (f : Found). FoundSuits core.run.world.world.cells receiver f) is.0 suits);
}

-- what a send came to with the values that stand there
pub with_values : (code : CodeProgram) (core : Core) (at : Registers) (sent : Sent) (receiver : Value) (run : Run) (answer : Answered) (activation : Activation) (target : Target)
    (values : List Value) → values ≡ arguments_in core at sent
    → answered_shown code sent.site.sel receiver (site_shown core.places sent.site) values answer (progress_of run)
    ≡ answered code activation target sent.site.sel values (site_shown core.places sent.site) (progress_in core)
    → answered_at code (record core { run = run }) at sent receiver answer ≡ looked_up code core at sent activation target
with_values code core at sent receiver run answer activation target values same e =
    subst (λ (vs : List Value). answered_shown code sent.site.sel receiver (site_shown core.places sent.site) vs answer (progress_of run)
    ≡ answered code activation target sent.site.sel vs (site_shown core.places sent.site) (progress_in core)) same e
