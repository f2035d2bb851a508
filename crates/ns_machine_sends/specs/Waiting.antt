-- What waits, with room for an answer.
use Rattle.std.specs.Prelude.{◌≡◌, ◌<◌, ◌≤◌, ℕ, List, length, IsTrue, All}
use Rattle.ns_base.specs.declared.selector.Sel.{Sel}
use Rattle.ns_verify.specs.Verify.{IsSound}
use Rattle.ns_world.specs.Lawful.{IsLawful, IsLiveValue}
use Rattle.ns_world.specs.Starts.{start_of}
use Rattle.ns_find.specs.declared.found.Sending.TheVariants.{Plain}
use Rattle.ns_find.specs.Find.{found_from}
use Rattle.ns_moves.specs.declared.control.Reached.{Reached}
use Rattle.ns_moves.specs.declared.control.Reached.TheVariants as reached
use Rattle.ns_moves.specs.Control.{Control, gives}
use Rattle.ns_moves.specs.Lawful.{FitsSelector}
use Rattle.ns_moves.specs.Sends.{answered_by, sent_from}
use Rattle.ns_moves.specs.Blocks.{is_block, evaluated}
use Rattle.ns_code.specs.declared.program.CodeProgram.{CodeProgram}
use Rattle.ns_facets.specs.declared.row.Grants.{Grants}
use Rattle.ns_world.specs.declared.value.Value.{Value}
use Rattle.ns_machine_frames.specs.declared.frame.Pending.TheVariants as pending
use Rattle.ns_machine_frames.specs.declared.registers.Registers.{Registers}
use Rattle.ns_machine_frames.specs.Stack.{in_use, stood, with_top}
use Rattle.ns_machine_frames.specs.View.{site_shown}
use Rattle.ns_machine_core.specs.declared.state.Core.{Core}
use Rattle.ns_machine_core.specs.Shown.{progress_in}
use Rattle.ns_machine_core.specs.declared.state.Next.TheVariants as next
use Rattle.ns_machine_core.specs.Ready.{MachineIsReady}
use Rattle.ns_machine_core.specs.Standing.{AreStanding, ArgumentsWait, KeepsRooms, KeepsRightIn}
use Rattle.ns_machine_sends.specs.declared.sent.Sent.{Sent}
use Rattle.ns_machine_sends.specs.declared.led.Led.{Led}
use Rattle.ns_machine_sends.specs.declared.led.Led.TheVariants as led
use Rattle.ns_machine_sends.specs.Going.{IsLeft, Leads}
use Rattle.ns_machine_sends.specs.Sending.{Sends}

-- a machine in which the evaluation of a block waits
abbrev pub with_block : Sent → Value → Core → Core
with_block sent block core = record core { waiting = pending.Evaluating block sent.site sent.floor sent.first }

-- The evaluation of a block waits in a machine that is ready.
pub record BlockWaits (code : CodeProgram) (grants : Grants) (core : Core) (at : Registers) (sent : Sent) (block : Value) : Type 0 where
  pub is : core.waiting ≡ pending.Evaluating block sent.site sent.floor sent.first
  pub ready : MachineIsReady code grants core (next.Waits at)

-- So it does with the arguments that are kept.
pub record BlockWaitsKept (code : CodeProgram) (grants : Grants) (core : Core) (at : Registers) (sent : Sent) (block : Value) : Type 0 where
  pub is : core.waiting ≡ pending.EvaluatingKept block sent.site sent.floor
  pub first : sent.first ≡ sent.floor
  pub ready : MachineIsReady code grants core (next.Waits at)

-- There is a place at the floor, and nothing that is in use has changed.
pub record HasMadePlace (code : CodeProgram) (old : Core) (at : Registers) (sent : Sent) (new : Core) : Type 0 where
  pub used : in_use new.stack at ≡ in_use old.stack at
  pub below : stood new.stack (with_top sent.floor at) ≡ stood old.stack (with_top sent.floor at)
  pub frames : new.stack.frames ≡ old.stack.frames
  pub stands : AreStanding code new.stack at
  pub waits : ArgumentsWait code new.stack at sent.floor sent.first
  pub place : sent.floor < length new.stack.values.items
  pub run : new.run ≡ old.run
  pub phase : new.phase ≡ old.phase
  pub arguments : new.arguments ≡ old.arguments
  pub stays : KeepsRooms old new

-- What is known where the evaluation of a block waits with these arguments.
pub record IsWaiting (code : CodeProgram) (core : Core) (arguments : List Value) (block : Value) : Type 0 where
  pub sound : IsSound code
  pub lawful : IsLawful core.run.world.world code
  pub depth : core.run.world.world.depth ≡ length core.stack.frames.items
  pub block_is : IsTrue (is_block core.run.world.world.cells block)
  pub few : length arguments ≤ 255
  pub live : All (IsLiveValue core.run.world.world.cells code) arguments

-- What an evaluation has reached: a body is entered, or the run ends.
abbrev pub EntersOrEnds : Reached → Type 0
EntersOrEnds (reached.Gives value) = ⊥
EntersOrEnds (reached.Fails fault) = Unit {0}
EntersOrEnds (reached.Refused sel) = Unit {0}
EntersOrEnds (reached.Enters exit entered) = Unit {0}
EntersOrEnds (reached.Evaluates block given) = ⊥
EntersOrEnds (reached.Begins method state) = ⊥
EntersOrEnds (reached.Performs receiver sel array) = ⊥

-- where its evaluation leads
abbrev pub evaluated_with : CodeProgram → Core → Sent → List Value → Value → Control
evaluated_with code core sent arguments block = evaluated code block arguments (site_shown core.places sent.site) (progress_in core)

-- A send that waited can be made: its selector takes as many live arguments as are kept, and there is as much depth as frames.
-- Its site may name another selector.
pub record CanSendOn (code : CodeProgram) (core : Core) (at : Registers) (sent : Sent) (receiver : Value) (sel : Sel) : Type 0 where
  pub left : IsLeft code core at sent
  pub lawful : IsLawful core.run.world.world code
  pub begun : core.run.begun ≤ core.run.world.world.steps
  pub kept : KeepsRightIn code core core
  pub depth : core.run.world.world.depth ≡ length core.stack.frames.items
  pub live : IsLiveValue core.run.world.world.cells code receiver
  pub selector : FitsSelector core.run.world.world.cells code sel core.arguments.items

-- where it leads, with its step and after it
abbrev pub sent_on_at : CodeProgram → Core → Sent → Value → Sel → Control
sent_on_at code core sent receiver sel =
    sent_from code receiver sel core.arguments.items (site_shown core.places sent.site) (progress_in core)

abbrev pub looked_on : CodeProgram → Core → Sent → Value → Sel → Control
looked_on code core sent receiver sel =
    answered_by code (found_from core.run.world.world.cells code (start_of core.run.world.world.cells receiver) sel.0 Plain) sel receiver
    core.arguments.items (site_shown core.places sent.site) (progress_in core)

-- A value is given that is yet to be taken; nothing but the run has changed.
pub record IsGivenOn (code : CodeProgram) (old : Core) (control : Control) (new : Core) (value : Value) : Type 0 where
  pub control_is : control ≡ gives value (progress_in new)
  pub stack : new.stack ≡ old.stack
  pub phase : new.phase ≡ old.phase
  pub stays : KeepsRooms old new
  pub kept : KeepsRightIn code old new

-- A send went on where control is, or gives a value.
abbrev pub SendLeadsTo : CodeProgram → Core → Registers → ℕ → Control → Core → Led → Type 0
SendLeadsTo code old at floor control new (led.Goes next) = Sends code old at floor control new next
SendLeadsTo code old at floor control new (led.Gives value) = IsGivenOn code old control new value

-- The same of an action that keeps lookups as they were.
pub record IsGivenKept (code : CodeProgram) (old : Core) (control : Control) (new : Core) (value : Value) : Type 0 where
  pub control_is : control ≡ gives value (progress_in new)
  pub stack : new.stack ≡ old.stack
  pub phase : new.phase ≡ old.phase
  pub stays : KeepsRooms old new
  pub memo : new.run.memo ≡ old.run.memo

abbrev pub LeadsKept : CodeProgram → Core → Registers → ℕ → Control → Core → Led → Type 0
LeadsKept code old at floor control new (led.Goes next) = Leads code old at floor control new next
LeadsKept code old at floor control new (led.Gives value) = IsGivenKept code old control new value
