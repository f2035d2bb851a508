-- Sends to Booleans, by the quick way. Where one isn't made nothing has changed, since nothing is looked up.
use Rattle.std.specs.Prelude.{◌≡◌, ℕ, List, length, Option, Some, None, slice_get}
use Rattle.ns_base.specs.declared.place.Place.{Place as SourcePlace}
use Rattle.ns_base.specs.declared.selector.Sel.{Sel}
use Rattle.ns_code.specs.declared.program.CodeProgram.{CodeProgram}
use Rattle.ns_code.specs.declared.instruction.Instr.{Instr}
use Rattle.ns_world.specs.declared.value.Value.{Value}
use Rattle.ns_world.specs.declared.value.Value.TheVariants.{Nil, True, False}
use Rattle.ns_find.specs.declared.found.Sending.{Sending}
use Rattle.ns_world.specs.declared.kernel_parts.KMethod.{KMethod}
use Rattle.ns_world.specs.declared.kernel_parts.KMethod.TheVariants.{And, Or, IfTrue, IfFalse}
use Rattle.ns_moves.specs.Control.{Activation, Control}
use Rattle.ns_moves.specs.Sends.{To, sent}
use Rattle.ns_moves.specs.Arrivals.{arrived}
use Rattle.ns_machine_frames.specs.declared.registers.Registers.{Registers}
use Rattle.ns_machine_frames.specs.Standing.{Stood, pushed, pushed_all}
use Rattle.ns_machine_frames.specs.Stack.{stood, with_top}
use Rattle.ns_machine_frames.specs.View.{frames_shown}
use Rattle.ns_machine_core.specs.declared.led.Led.{Led}
use Rattle.ns_machine_core.specs.declared.led.Led.TheVariants.{Charged, On as OnTop, Answered, Nowhere}
use Rattle.ns_machine_core.specs.declared.state.Core.{Core}
use Rattle.ns_machine_core.specs.declared.state.Next.{Next}
use Rattle.ns_machine_core.specs.declared.state.Next.TheVariants.{On}
use Rattle.ns_machine_core.specs.Doing.{IsDone}
use Rattle.ns_machine_core.specs.Passing.{Passes, DoesTwice}
use Rattle.ns_machine_core.specs.Straight.{GoesStraight}
use Rattle.ns_machine_core.specs.Shown.{phase_shown, progress_in}
use Rattle.ns_machine_sends.specs.declared.sent.Sent.{Sent}
use Rattle.ns_machine_sends.specs.Operands.{topmost, SendsToTop}
use Rattle.ns_machine_sends.specs.Sending.{sent_at, Sends}

-- a value, where the receiver is true, and where it is false
abbrev pub where_true : Value → Value → Option Value
where_true True value = Some value
where_true receiver value = None

abbrev pub where_false : Value → Value → Option Value
where_false False value = Some value
where_false receiver value = None

-- what a method of Boolean answers without evaluating a block, where it does so
abbrev pub answer_at_once : KMethod → Value → Option Value
answer_at_once And receiver = where_false receiver False
answer_at_once Or receiver = where_true receiver True
answer_at_once IfTrue receiver = where_false receiver Nil
answer_at_once IfFalse receiver = where_true receiver Nil
answer_at_once method receiver = None

-- Control has led somewhere, and the move from there was made too.
abbrev pub AnswersAt : CodeProgram → Core → Registers → ℕ → Control → Core → Next → Type 0
AnswersAt code old at floor control new next =
    Passes code (arrived code (phase_shown old.phase) control (frames_shown code old.places (stood old.stack (with_top floor at)))) old new next

-- A send to a value has led on with the topmost frame at those registers, or has been answered there; or nothing has changed.
abbrev pub SendLeadsOrNothing : CodeProgram → Core → Registers → Sent → Value → Sending → Core → Led → Type 0
SendLeadsOrNothing code old at sent receiver kind new (OnTop to) =
    (activation : Activation) → Sends code old at sent.floor (sent_at code old at sent activation (To receiver kind)) new (On to)
SendLeadsOrNothing code old at sent receiver kind new (Answered to) =
    (activation : Activation) → AnswersAt code old at sent.floor (sent_at code old at sent activation (To receiver kind)) new (On to)
SendLeadsOrNothing code old at sent receiver kind new Nowhere = new ≡ old
SendLeadsOrNothing code old at sent receiver kind new other = ⊥

-- The operands were sent to the receiver below them, and the move after it was made too.
pub record AnswersToTop (code : CodeProgram) (old : Core) (at : Registers) (sel : Sel) (argc place : ℕ) (kind : Sending) (new : Core) (next : Next) : Type 0 where
  pub receiver : Value
  pub under : List Stood
  pub is : stood old.stack at ≡ pushed_all (topmost old at argc) (pushed receiver under)
  pub many : length (topmost old at argc) ≡ argc
  pub passes : (activation : Activation) → Passes code
      (arrived code (phase_shown old.phase) (sent code activation (To receiver kind) sel (topmost old at argc) (slice_get old.places place) (progress_in old))
      (frames_shown code old.places under)) old new next

-- The same of operands that are sent to the receiver below them.
abbrev pub ToTopLeadsOrNothing : CodeProgram → Core → Registers → Sel → ℕ → ℕ → Sending → Core → Led → Type 0
ToTopLeadsOrNothing code old at sel argc place kind new (OnTop to) = SendsToTop code old at sel argc place kind new (On to)
ToTopLeadsOrNothing code old at sel argc place kind new (Answered to) = AnswersToTop code old at sel argc place kind new (On to)
ToTopLeadsOrNothing code old at sel argc place kind new Nowhere = new ≡ old
ToTopLeadsOrNothing code old at sel argc place kind new other = ⊥

-- The instruction is done, and leads straight on with one step charged, or on with the topmost frame, or the move after it is made
-- too; or nothing has changed.
abbrev pub LeadsOrNothing : CodeProgram → Instr → Option SourcePlace → Core → Registers → Core → Led → Type 0
LeadsOrNothing code instr place old at new (Charged to) = GoesStraight code 1 instr place old at new to
LeadsOrNothing code instr place old at new (OnTop to) = IsDone code instr place old at new (On to)
LeadsOrNothing code instr place old at new (Answered to) = DoesTwice code instr place old at new (On to)
LeadsOrNothing code instr place old at new Nowhere = new ≡ old
LeadsOrNothing code instr place old at new other = ⊥
