-- What an action has reached, and how it can go on from there.
use Rattle.std.specs.Prelude.{◌≡◌, ℕ, ◌<◌, ◌≤◌, List, length, drop, All}
use Rattle.ns_code.specs.declared.program.CodeProgram.{CodeProgram}
use Rattle.ns_verify.specs.Verify.{IsSound}
use Rattle.ns_world.specs.declared.value.Value.{Value}
use Rattle.ns_moves.specs.declared.control.Given.{Given}
use Rattle.ns_moves.specs.declared.control.Given.TheVariants as given
use Rattle.ns_moves.specs.declared.control.Exit.{Exit}
use Rattle.ns_moves.specs.declared.control.Exit.TheVariants as exit
use Rattle.ns_moves.specs.declared.control.Reached.{Reached}
use Rattle.ns_moves.specs.declared.control.Reached.TheVariants as reached
use Rattle.ns_world.specs.Heap.{Heap}
use Rattle.ns_world.specs.Lawful.{IsLawful, IsLiveValue}
use Rattle.ns_world.specs.KernelTable.{row_at}
use Rattle.ns_moves.specs.Suiting.{RowSuits}
use Rattle.ns_moves.specs.Control.{Control, Now, Enter, Evaluate, Begin, Perform}
use Rattle.ns_moves.specs.Shown.{given_values, passed}
use Rattle.ns_moves.specs.Lawful.{LawfulControl}
use Rattle.ns_moves.specs.Fitting.{FitsNext}
use Rattle.ns_moves.specs.Arrivals.{arrived}
use Rattle.ns_moves.specs.declared.sends.Answered.{Answered}
use Rattle.ns_moves.specs.declared.sends.Answered.TheVariants as answers
use Rattle.ns_moves.specs.Answered.{answered_shown}
use Rattle.ns_moves.specs.Plain.{IsOwnGiven, IsPlain}
use Rattle.ns_kernel_rows.specs.Plain.{IsGivenThere}
use Rattle.ns_machine_frames.specs.declared.frame.Frame.{Frame}
use Rattle.ns_machine_frames.specs.declared.registers.Registers.{Registers}
use Rattle.ns_machine_frames.specs.Calls.{arguments_for}
use Rattle.ns_machine_frames.specs.Stack.{in_use, stood, with_top}
use Rattle.ns_machine_frames.specs.View.{site_shown, frames_shown}
use Rattle.ns_machine_core.specs.declared.state.Core.{Core}
use Rattle.ns_machine_core.specs.declared.state.Next.{Next}
use Rattle.ns_machine_core.specs.Shown.{phase_shown, progress_in, shown}
use Rattle.ns_machine_core.specs.Standing.{HasRooms, AreStanding, ArgumentsWait, StandAt, KeepsRooms}
use Rattle.ns_machine_core.specs.Arriving.{reached_at}
use Rattle.ns_machine_core.specs.Doing.{IsRunning}
use Rattle.ns_machine_sends.specs.declared.sent.Sent.{Sent}

-- the arguments, and where control goes with what was reached with them
abbrev pub arguments_in : Core → Registers → Sent → List Value
arguments_in core at sent = drop sent.first (in_use core.stack at)

abbrev pub control_at : CodeProgram → Core → Registers → Sent → Reached → Control
control_at code core at sent reached = reached_at code core sent.site (arguments_in core at sent) reached

-- A frame that is entered is within the limit on depth, and a block is evaluated with at most 255 arguments.
abbrev pub HasRoomAbove : ℕ → Control → Type 0
HasRoomAbove frames (Now after) = Unit {0}
HasRoomAbove frames (Enter exit activation locals progress) = frames < progress.world.limits.depth
HasRoomAbove frames (Evaluate block arguments site progress) = length arguments ≤ 255
HasRoomAbove frames (Begin method state site progress) = frames < progress.world.limits.depth
HasRoomAbove frames (Perform receiver sel array site progress) = Unit {0}

-- Control can go on above so many frames: the run is lawful, and what goes on fits and has room.
pub record ControlGoesOn (code : CodeProgram) (frames : ℕ) (control : Control) : Type 0 where
  pub own : ℕ
  pub lawful : LawfulControl code control
  pub fits : FitsNext own code control
  pub room : HasRoomAbove frames control

-- The caller's values end at a floor, behind which the arguments stand, and there is a place for an answer.
pub record IsLeft (code : CodeProgram) (core : Core) (at : Registers) (sent : Sent) : Type 0 where
  pub sound : IsSound code
  pub rooms : HasRooms code core
  pub depth : length core.stack.frames.items ≤ core.run.world.world.limits.depth
  pub stands : AreStanding code core.stack at
  pub waits : ArgumentsWait code core.stack at sent.floor sent.first
  pub place : sent.floor < length core.stack.values.items

-- A value comes to a body that runs.
abbrev pub ComesToBody : Reached → List Frame → Type 0
ComesToBody (reached.Gives value) frames = IsRunning frames
ComesToBody (reached.Fails fault) frames = Unit {0}
ComesToBody (reached.Refused sel) frames = Unit {0}
ComesToBody (reached.Enters exit entered) frames = Unit {0}
ComesToBody (reached.Evaluates block given) frames = Unit {0}
ComesToBody (reached.Begins method state) frames = Unit {0}
ComesToBody (reached.Performs receiver sel array) frames = Unit {0}

-- A body is entered on the arguments of its send or on a Message, and a block is evaluated with those or with the elements of an
-- array that is there.
abbrev pub IsGiven : Heap → Reached → Type 0
IsGiven heap (reached.Gives value) = Unit {0}
IsGiven heap (reached.Fails fault) = Unit {0}
IsGiven heap (reached.Refused sel) = Unit {0}
IsGiven heap (reached.Enters exit entered) = IsOwnGiven entered.given
IsGiven heap (reached.Evaluates block given) = IsGivenThere heap given
IsGiven heap (reached.Begins method state) = Unit {0}
IsGiven heap (reached.Performs receiver sel array) = Unit {0}

-- A body is entered on no argument of its send: on a Message, or it is a clause's.
abbrev pub TakesNone : Given → Exit → Type 0
TakesNone (given.Message at) exit = Unit {0}
TakesNone (given.Items at) exit = ⊥
TakesNone given.Listed exit.Method = ⊥
TakesNone given.Listed exit.Body = ⊥
TakesNone given.Listed (exit.Clause class) = Unit {0}

-- The arguments that stand there are those with which a body is entered.
abbrev pub ArgumentsStand : Core → Exit → Given → List Value → Type 0
ArgumentsStand core exit given there = arguments_for there given ≡ given_values core.run.world.world.cells (passed exit there) given

-- Values stand as arguments from the floor on, and all else is as it was.
pub record ArePlaced (code : CodeProgram) (old : Core) (at : Registers) (floor : ℕ) (values : List Value) (new : Core) (to : Registers) : Type 0 where
  pub below : stood new.stack (with_top floor to) ≡ stood old.stack (with_top floor at)
  pub arguments : drop floor (in_use new.stack to) ≡ values
  pub frames : new.stack.frames ≡ old.stack.frames
  pub filled : length old.stack.values.items ≤ length new.stack.values.items
  pub stands : AreStanding code new.stack to
  pub waits : ArgumentsWait code new.stack to floor floor
  pub run : new.run ≡ old.run
  pub phase : new.phase ≡ old.phase
  pub stays : KeepsRooms old new

-- what a send came to, at its site
abbrev pub answered_at : CodeProgram → Core → Registers → Sent → Value → Answered → Control
answered_at code core at sent receiver answer =
    answered_shown code sent.site.sel receiver (site_shown core.places sent.site) (arguments_in core at sent) answer (progress_in core)

-- A row of the kernel is asked with a receiver that it suits, and with live arguments.
pub record CanAsk (code : CodeProgram) (core : Core) (at : Registers) (sent : Sent) (receiver : Value) (number : ℕ) : Type 0 where
  pub lawful : IsLawful core.run.world.world code
  pub live : IsLiveValue core.run.world.world.cells code receiver
  pub all_live : All (IsLiveValue core.run.world.world.cells code) (arguments_in core at sent)
  pub suits : RowSuits core.run.world.world.cells receiver (row_at number)

-- What a send came to can be done: it is plain, or its row can be asked.
abbrev pub CanAnswer : CodeProgram → Core → Registers → Sent → Value → Answered → Type 0
CanAnswer code core at sent receiver (answers.Comes reached) = IsPlain reached
CanAnswer code core at sent receiver (answers.Row number) = CanAsk code core at sent receiver number

-- Control is where an action led it, from frames that stand at a floor; lookups are kept as they were.
pub record Leads (code : CodeProgram) (old : Core) (at : Registers) (floor : ℕ) (control : Control) (new : Core) (next : Next) : Type 0 where
  pub state : shown code new next ≡ arrived code (phase_shown old.phase) control (frames_shown code old.places (stood old.stack (with_top floor at)))
  pub stand : StandAt code new next
  pub memo : new.run.memo ≡ old.run.memo
  pub stays : KeepsRooms old new
