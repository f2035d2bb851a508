-- Sends that evaluate their receiver.
use Rattle.std.proofs.Common.{◌≡◌, ◌-◌, ◌+◌, ℕ, List, ap, sym, ◌∙◌, subst, Option, Some, None, slice_get}
use Rattle.ns_base.specs.declared.selector.Sel.{Sel}
use Rattle.ns_code.specs.declared.program.CodeProgram.{CodeProgram}
use Rattle.ns_world.specs.declared.value.Value.{Value}
use Rattle.ns_world.specs.declared.kernel_row.Row.TheVariants.{Value as ValueRow}
use Rattle.ns_world.specs.declared.kernel.ClassName.{ClassName}
use Rattle.ns_world.specs.Starts.{class_name_of}
use Rattle.ns_find.specs.declared.found.Sending.{Sending}
use Rattle.ns_moves.specs.Arrivals.{arrived}
use Rattle.ns_moves.specs.Control.{Activation, Control, Evaluate}
use Rattle.ns_moves.specs.Sends.{To}
use Rattle.ns_moves.specs.State.{State}
use Rattle.ns_moves.specs.declared.run.Run.{Run}
use Rattle.ns_machine_frames.specs.Stated.{ComeOffAgain}
use Rattle.ns_machine_frames.specs.declared.registers.Registers.{Registers}
use Rattle.ns_machine_frames.specs.Standing.{Stood, pushed}
use Rattle.ns_machine_frames.specs.Stack.{stood, with_top}
use Rattle.ns_machine_frames.specs.View.{frames_shown, site_shown}
use Rattle.ns_machine_plan.specs.declared.packed.ValueSend.{ValueSend}
use Rattle.ns_machine_plan.specs.Steps.{send_instr}
use Rattle.ns_machine_core.specs.declared.state.Core.{Core}
use Rattle.ns_machine_core.specs.declared.state.Next.{Next}
use Rattle.ns_machine_core.specs.Arriving.{Arrives}
use Rattle.ns_machine_core.specs.Doing.{CanDo}
use Rattle.ns_machine_core.specs.Shown.{phase_shown, progress_in}
use Rattle.ns_machine_sends.specs.declared.sent.Sent.{Sent}
use Rattle.ns_machine_sends.specs.Going.{arguments_in}
use Rattle.ns_machine_sends.specs.Operands.{SendsOperands}
use Rattle.ns_machine_sends.specs.Sending.{CanSend, looked_up, sent_at, Sends}
use Rattle.ns_machine_sends.specs.laws.Looked.{looked}
use Rattle.ns_machine_sends.specs.laws.Received.{sent_of, sends_to_top, kind_does}
use Rattle.ns_machine_quick.specs.Below.{receiver_below, sent_by, sent_below}
use Rattle.ns_machine_quick.specs.Rows.{FindsRow}
use Rattle.ns_machine_quick.specs.Values.{BelowGoes, DoesOrNot, GoesOrNot, ToTopGoes}
use Rattle.ns_machine_quick.proofs.Below.{receiver_is, same_sent}
use Rattle.ns_machine_quick.proofs.Given.{kept_sends, kept_untouched}
use Rattle.ns_machine_quick.proofs.Valued.{row_looked_up}

-- What lets the evaluation wait is the answer of the lookup.
pub value_sends : (code : CodeProgram) (core new : Core) (at : Registers) (sent : Sent) (receiver : Value) (kind : Sending) (next : Next) (activation : Activation)
    → CanSend code core at sent receiver → FindsRow code core sent receiver kind ValueRow
    → Arrives code core at sent.floor (Evaluate receiver (arguments_in core at sent) (site_shown core.places sent.site) (progress_in core)) new next
    → Sends code core at sent.floor (looked_up code core at sent activation (To receiver kind)) new next
value_sends code core new at sent receiver kind next activation can finds is = record {
  state = is.state
      ∙ ap (λ (c : Control). arrived code (phase_shown core.phase) c (frames_shown code core.places (stood core.stack (with_top sent.floor at))))
      (sym (row_looked_up code core at sent receiver kind ValueRow activation finds));
  stand = is.stand;
  stays = is.stays;
  kept = rw is.run can.kept;
}

-- ---- the receiver and what is sent, as they are read

module _ (code : CodeProgram) (core : Core) (at : Registers) (send : ValueSend) (sent : Sent) (receiver : Value)
    (is : sent ≡ sent_below core at send) (to : receiver ≡ receiver_below core at send.argc) where
  pub read_goes : (new : Core) (done : Option Next) → GoesOrNot code core at sent receiver send.kind new done → BelowGoes code core at send new done
  read_goes new done goes =
      subst (λ (s : Sent). GoesOrNot code core at s (receiver_below core at send.argc) send.kind new done) is
      (subst (λ (v : Value). GoesOrNot code core at sent v send.kind new done) to goes)

-- ---- after a lookup

kept_goes : (code : CodeProgram) (core new : Core) (at : Registers) (sent : Sent) (receiver : Value) (kind : Sending) (run : Run) (done : Option Next)
    → looked core run → GoesOrNot code (record core { run = run }) at sent receiver kind new done → GoesOrNot code core at sent receiver kind new done
kept_goes code core new at sent receiver kind run (Some next) rest is =
    λ activation. kept_sends code core new at sent run activation (To receiver kind) next rest (is activation)
kept_goes code core new at sent receiver kind run None rest is = kept_untouched code core new run rest is

-- Where a send goes after its lookup, it goes.
pub goes_kept : (code : CodeProgram) (core : Core) (at : Registers) (send : ValueSend) (run : Run) → looked core run → (new : Core) (done : Option Next)
    → BelowGoes code (record core { run = run }) at send new done → BelowGoes code core at send new done
goes_kept code core at send run rest new done goes =
    kept_goes code core new at (sent_below core at send) (receiver_below core at send.argc) send.kind run done rest
    (subst (λ (sent : Sent). GoesOrNot code (record core { run = run }) at sent (receiver_below core at send.argc) send.kind new done)
    (same_sent code core at send run rest) goes)

-- ---- the operands, and the instruction

module _ (code : CodeProgram) (core : Core) (at : Registers) (sel : Sel) (argc : ℕ) (sends : SendsOperands code core at sel argc (argc + 1))
    (receiver : Value) (under : List Stood) (top : stood core.stack (with_top (at.top - argc) at) ≡ pushed receiver under) where
  goes_to_top : (place : ℕ) (class : ClassName) (kind : Sending) (new : Core) (done : Option Next) → under ≡ stood core.stack (with_top (at.top - argc - 1) at)
      → GoesOrNot code core at (sent_of at argc place class sel) receiver kind new done → ToTopGoes code core at sel argc place kind new done
  goes_to_top place class kind new (Some next) same is = sends_to_top code core at sel argc sends receiver under top place class kind new next same is
  goes_to_top place class kind new None same is = is

module _ (code : CodeProgram) (core : Core) (at : Registers) (send : ValueSend) (is : SendsOperands code core at send.sel send.argc (send.argc + 1))
    (receiver : Value) (under : List Stood) (top : stood core.stack (with_top (at.top - send.argc) at) ≡ pushed receiver under) where
  -- Where a send to the receiver goes, one of the operands goes.
  pub below_goes : (new : Core) (done : Option Next) → under ≡ stood core.stack (with_top (at.top - send.argc - 1) at) → BelowGoes code core at send new done
      → ToTopGoes code core at send.sel send.argc send.place send.kind new done
  below_goes new done same goes =
      goes_to_top code core at send.sel send.argc is receiver under top send.place (class_name_of core.run.world.world.cells receiver) send.kind new done same
      (subst (λ (v : Value). GoesOrNot code core at (sent_by at send (class_name_of core.run.world.world.cells v)) v send.kind new done)
      (sym (receiver_is code core at send is receiver under top)) goes)

-- Where they go, the instruction goes.
pub kind_goes : ((missing : State) → ComeOffAgain missing) → (code : CodeProgram) (old new : Core) (at : Registers) (sel : Sel) (argc place : ℕ) (kind : Sending)
    (done : Option Next) → CanDo code old at (send_instr kind sel argc) → ToTopGoes code old at sel argc place kind new done
    → DoesOrNot code (send_instr kind sel argc) (slice_get old.places place) old at new done
kind_goes taken code old new at sel argc place kind (Some next) can is = kind_does taken code old new at sel argc place kind next can is
kind_goes taken code old new at sel argc place kind None can is = is
