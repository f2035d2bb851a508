-- Sends to a receiver on the operands, by the quick way.
use Rattle.std.proofs.Common.{◌≡◌, ◌+◌, ◌-◌, ℕ, List, sym, subst, slice_get}
use Rattle.ns_base.specs.declared.selector.Sel.{Sel}
use Rattle.ns_code.specs.declared.program.CodeProgram.{CodeProgram}
use Rattle.ns_world.specs.declared.value.Value.{Value}
use Rattle.ns_world.specs.declared.kernel.ClassName.{ClassName}
use Rattle.ns_find.specs.declared.found.Sending.{Sending}
use Rattle.ns_find.specs.declared.found.Sending.TheVariants.{Plain, Inner}
use Rattle.ns_machine_plan.specs.Steps.{send_instr}
use Rattle.ns_moves.specs.Control.{Activation}
use Rattle.ns_moves.specs.Sends.{To}
use Rattle.ns_moves.specs.Arrivals.{arrived}
use Rattle.ns_moves.specs.State.{State}
use Rattle.ns_machine_frames.specs.Stated.{ComeOffAgain}
use Rattle.ns_machine_frames.specs.declared.registers.Registers.{Registers}
use Rattle.ns_machine_frames.specs.Standing.{Stood, pushed}
use Rattle.ns_machine_frames.specs.Stack.{stood, with_top}
use Rattle.ns_machine_frames.specs.View.{frames_shown}
use Rattle.ns_machine_core.specs.declared.led.Led.{Led}
use Rattle.ns_machine_core.specs.declared.led.Led.TheVariants.{Straight, Charged, On as OnTop, Answered, Nowhere}
use Rattle.ns_machine_core.specs.declared.state.Core.{Core}
use Rattle.ns_machine_core.specs.declared.state.Next.{Next}
use Rattle.ns_machine_core.specs.declared.state.Next.TheVariants.{On}
use Rattle.ns_machine_core.specs.Shown.{phase_shown}
use Rattle.ns_machine_core.specs.Doing.{CanDo}
use Rattle.ns_machine_core.specs.Passing.{Passes, DoesTwice}
use Rattle.ns_machine_core.specs.Tried.{LeadsOrChangesNothing}
use Rattle.ns_machine_sends.specs.Sending.{sent_at}
use Rattle.ns_machine_sends.specs.Operands.{SendsOperands}
use Rattle.ns_machine_sends.specs.laws.Received.{sent_of, many, whole, sends_to_top, send_operands, inner_operands, by, leads_so, kind_does}
use Rattle.ns_machine_quick.specs.Booleans.{AnswersAt, AnswersToTop}
use Rattle.ns_machine_quick.specs.Given.{SendLeads, ToTopLeads}

module _ (code : CodeProgram) (core : Core) (at : Registers) (sel : Sel) (argc : ℕ) (sends : SendsOperands code core at sel argc (argc + 1)) where
  module _ (receiver : Value) (under : List Stood) (top : stood core.stack (with_top (at.top - argc) at) ≡ pushed receiver under) where
    pub answers_to_top : (place : ℕ) (class : ClassName) (kind : Sending) (new : Core) (next : Next) → under ≡ stood core.stack (with_top (at.top - argc - 1) at)
        → ((activation : Activation) → AnswersAt code core at (at.top - argc - 1) (sent_at code core at (sent_of at argc place class sel) activation (To receiver kind)) new next)
        → AnswersToTop code core at sel argc place kind new next
    answers_to_top place class kind new next same answers = record {
      receiver = receiver;
      under = under;
      is = whole code core at sel argc sends receiver under top;
      many = many code core at sel argc sends;
      passes = λ activation. subst (λ (s : List Stood). Passes code
          (arrived code (phase_shown core.phase) (sent_at code core at (sent_of at argc place class sel) activation (To receiver kind)) (frames_shown code core.places s))
          core new next) (sym same) (answers activation);
    }

    pub leads_to_top : (place : ℕ) (class : ClassName) (kind : Sending) (new : Core) (led : Led) → under ≡ stood core.stack (with_top (at.top - argc - 1) at)
        → SendLeads code core at (sent_of at argc place class sel) receiver kind new led → ToTopLeads code core at sel argc place kind new led
    leads_to_top place class kind new (Straight to) same is = (sends_to_top code core at sel argc sends receiver under top place class kind new (On to) same is.0, is.1)
    leads_to_top place class kind new (Charged to) same is = (sends_to_top code core at sel argc sends receiver under top place class kind new (On to) same is.0, is.1)
    leads_to_top place class kind new (OnTop to) same is = sends_to_top code core at sel argc sends receiver under top place class kind new (On to) same is
    leads_to_top place class kind new (Answered to) same is = is
    leads_to_top place class kind new Nowhere same is = is

-- ---- the instructions

pub kind_operands : (code : CodeProgram) (core : Core) (at : Registers) (sel : Sel) (argc : ℕ) (kind : Sending) →
    CanDo code core at (send_instr kind sel argc)
    → SendsOperands code core at sel argc (argc + 1)
kind_operands code core at sel argc Plain can = send_operands code core at sel argc can
kind_operands code core at sel argc Inner can = inner_operands code core at sel argc can

module _ (taken : (missing : State) → ComeOffAgain missing) (code : CodeProgram) (old new : Core) (at : Registers) (sel : Sel) (argc place : ℕ) where
  pub kind_answers : (kind : Sending) (next : Next) → CanDo code old at (send_instr kind sel argc) → AnswersToTop code old at sel argc place kind new next
      → DoesTwice code (send_instr kind sel argc) (slice_get old.places place) old at new next
  kind_answers kind next can is =
      subst (λ (between : State). Passes code between old new next) (leads_so taken code old new at sel argc place kind can is.receiver is.under is.is is.many)
      (is.passes (by taken code old new at sel argc place kind can is.receiver is.under is.is is.many).activation)

  -- Where it leads, the instruction leads.
  pub kind_leads : (kind : Sending) (led : Led) → CanDo code old at (send_instr kind sel argc) → ToTopLeads code old at sel argc place kind new led
      → LeadsOrChangesNothing code (send_instr kind sel argc) (slice_get old.places place) old at new led
  kind_leads kind (Straight to) can is = record { does = kind_does taken code old new at sel argc place kind (On to) can is.0; stays = is.1 }
  kind_leads kind (Charged to) can is = record { does = kind_does taken code old new at sel argc place kind (On to) can is.0; stays = is.1 }
  kind_leads kind (OnTop to) can is = kind_does taken code old new at sel argc place kind (On to) can is
  kind_leads kind (Answered to) can is = absurd is
  kind_leads kind Nowhere can is = is
