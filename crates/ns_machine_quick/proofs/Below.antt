-- Sends of a step to the value that stands below its arguments.
use Rattle.std.proofs.Common.{◌≡◌, ◌-◌, ◌+◌, ◌≤◌, List, [], ◌∷◌, length, ap, sym, ◌∙◌, refl, subst, arith, slice_index_or}
use Rattle.ns_code.specs.declared.program.CodeProgram.{CodeProgram}
use Rattle.ns_world.specs.declared.value.Value.{Value}
use Rattle.ns_world.specs.declared.value.Value.TheVariants.{Nil}
use Rattle.ns_world.specs.Starts.{class_name_of, start_of}
use Rattle.ns_find.specs.declared.found.Found.{Found}
use Rattle.ns_find.specs.Find.{found_from}
use Rattle.ns_moves.specs.declared.run.Run.{Run}
use Rattle.ns_machine_frames.specs.declared.registers.Registers.{Registers}
use Rattle.ns_machine_frames.specs.Standing.{Stood, Runs, Loops, pushed, pushed_all, operands_in}
use Rattle.ns_machine_frames.specs.Stack.{stood, with_top}
use Rattle.ns_machine_frames.specs.laws.Taking.{taken_laid}
use Rattle.ns_machine_plan.specs.declared.packed.ValueSend.{ValueSend}
use Rattle.ns_machine_core.specs.declared.led.Led.{Led}
use Rattle.ns_machine_core.specs.declared.state.Core.{Core}
use Rattle.ns_machine_core.specs.laws.Taken.{some_operand}
use Rattle.ns_machine_sends.specs.declared.sent.Sent.{Sent}
use Rattle.ns_machine_sends.specs.Operands.{SendsOperands, topmost}
use Rattle.ns_machine_sends.specs.Sending.{CanSend}
use Rattle.ns_machine_sends.specs.laws.Looked.{looked}
use Rattle.ns_machine_sends.specs.laws.Received.{can_send, enough_used, whole}
use Rattle.ns_machine_quick.specs.Below.{receiver_below, sent_by, sent_below, StandsBelow, CanSendBelow, FindsBelow, BelowLeads}
use Rattle.ns_machine_quick.specs.Given.{SendLeads, ToTopLeads}
use Rattle.ns_machine_quick.proofs.Given.{kept_leads}
use Rattle.ns_machine_quick.proofs.Received.{leads_to_top}

-- ---- the receiver

-- where values stand on others, the one below them stands there
below_some : (values : List Value) (receiver : Value) (under s : List Stood) → s ≡ pushed_all values (pushed receiver under) → 1 ≤ length (operands_in s)
    → 1 ≤ length (operands_in (pushed receiver under))
below_some values receiver [] s is some = subst (λ (t : List Stood). 1 ≤ length (operands_in t)) is some
below_some values receiver (Loops frame ∷ under) s is some = subst (λ (t : List Stood). 1 ≤ length (operands_in t)) is some
below_some values receiver (Runs frame locals stack ∷ under) s is some = omega arith

-- and is the topmost there
below_is : (receiver : Value) (under : List Stood) → 1 ≤ length (operands_in (pushed receiver under)) → receiver ≡ slice_index_or (operands_in (pushed receiver under)) 0 Nil
below_is receiver [] some = absurd (omega (arith, some))
below_is receiver (Loops frame ∷ under) some = absurd (omega (arith, some))
below_is receiver (Runs frame locals stack ∷ under) some = refl

module _ (code : CodeProgram) (core : Core) (at : Registers) (send : ValueSend) (is : SendsOperands code core at send.sel send.argc (send.argc + 1))
    (receiver : Value) (under : List Stood) (top : stood core.stack (with_top (at.top - send.argc) at) ≡ pushed receiver under) where
  some : 1 ≤ length (operands_in (pushed receiver under))
  some = below_some (topmost core at send.argc) receiver under (stood core.stack at) (whole code core at send.sel send.argc is receiver under top)
      (let all = some_operand code core at is.instr is.can in let t = is.takes_is in omega (arith, all, t))

  -- the value that is taken off is the receiver
  pub receiver_is : receiver ≡ receiver_below core at send.argc
  receiver_is = below_is receiver under some ∙ ap (λ (s : List Stood). slice_index_or (operands_in s) 0 Nil) (sym top)

  pub stands_below : StandsBelow core.stack at send.argc
  stands_below = record {
    enough = enough_used code core at send.sel send.argc is;
    laid = taken_laid core.stack at send.argc is.can.stands.frames.laid
        (let all = some_operand code core at is.instr is.can in let t = is.takes_is in omega (arith, all, t));
    some = subst (λ (s : List Stood). 1 ≤ length (operands_in s)) (sym top) some;
  }

  pub can_send_below : send.argc ≤ 255 → CanSendBelow code core at send
  can_send_below few = record {
    stands = stands_below;
    can = subst (λ (v : Value). CanSend code core at (sent_by at send (class_name_of core.run.world.world.cells v)) v) receiver_is
        (can_send code core at send.sel send.argc is receiver under top few send.place (class_name_of core.run.world.world.cells receiver) refl);
  }

  -- Where a send to it leads, one of the operands leads.
  pub below_to_top : (new : Core) (led : Led) → under ≡ stood core.stack (with_top (at.top - send.argc - 1) at) → BelowLeads code core at send new led
      → ToTopLeads code core at send.sel send.argc send.place send.kind new led
  below_to_top new led same leads =
      leads_to_top code core at send.sel send.argc is receiver under top send.place (class_name_of core.run.world.world.cells receiver) send.kind new led same
      (subst (λ (v : Value). SendLeads code core at (sent_by at send (class_name_of core.run.world.world.cells v)) v send.kind new led) (sym receiver_is) leads)

-- ---- after a lookup

module _ (code : CodeProgram) (core : Core) (at : Registers) (send : ValueSend) (run : Run) (rest : looked core run) where
  pub same_sent : sent_below (record core { run = run }) at send ≡ sent_below core at send
  same_sent = ap (λ (r : Run). sent_by at send (class_name_of r.world.world.cells (receiver_below core at send.argc))) rest

  -- Where a send leads after its lookup, it leads.
  pub below_kept : (new : Core) (led : Led) → BelowLeads code (record core { run = run }) at send new led → BelowLeads code core at send new led
  below_kept new led leads =
      kept_leads code core new at (sent_below core at send) (receiver_below core at send.argc) send.kind run led rest
      (subst (λ (sent : Sent). SendLeads code (record core { run = run }) at sent (receiver_below core at send.argc) send.kind new led) same_sent leads)

-- ---- the receiver and what is sent, as they are read

module _ (code : CodeProgram) (core : Core) (at : Registers) (send : ValueSend) (sent : Sent) (receiver : Value)
    (is : sent ≡ sent_below core at send) (to : receiver ≡ receiver_below core at send.argc) where
  pub read_can : CanSendBelow code core at send → CanSend code core at sent receiver
  read_can can =
      subst (λ (v : Value). CanSend code core at sent v) (sym to)
      (subst (λ (s : Sent). CanSend code core at s (receiver_below core at send.argc)) (sym is) can.can)

  pub read_finds : (found : Found) → FindsBelow code core at send found
      → found_from core.run.world.world.cells code (start_of core.run.world.world.cells receiver) sent.site.sel.0 send.kind ≡ found
  read_finds found finds =
      ap (λ (v : Value). found_from core.run.world.world.cells code (start_of core.run.world.world.cells v) sent.site.sel.0 send.kind) to
      ∙ ap (λ (s : Sent). found_from core.run.world.world.cells code (start_of core.run.world.world.cells (receiver_below core at send.argc)) s.site.sel.0 send.kind) is
      ∙ finds

  pub read_leads : (new : Core) (led : Led) → SendLeads code core at sent receiver send.kind new led → BelowLeads code core at send new led
  read_leads new led leads =
      subst (λ (s : Sent). SendLeads code core at s (receiver_below core at send.argc) send.kind new led) is
      (subst (λ (v : Value). SendLeads code core at sent v send.kind new led) to leads)
