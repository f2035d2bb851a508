-- The row of a send in the body that runs, and where it leads.
use Rattle.std.proofs.Common.{◌≡◌, List, [], ◌∷◌, take, refl, sym, subst, Option, Some, None}
use Rattle.std.specs.Prelude.{slice_get, IsSome}
use Rattle.ns_code.specs.declared.body.BodyCode.{BodyCode}
use Rattle.ns_code.specs.declared.program.CodeProgram.{CodeProgram}
use Rattle.ns_code.specs.declared.instruction.Instr.{Instr}
use Rattle.ns_machine_frames.specs.declared.frame.Frame.{Frame}
use Rattle.ns_machine_frames.specs.declared.frame.Frame.TheVariants.{Running, Looping}
use Rattle.ns_machine_frames.specs.declared.frame.RunningFrame.{RunningFrame}
use Rattle.ns_machine_frames.specs.declared.registers.Registers.{Registers}
use Rattle.ns_machine_frames.specs.Standing.{standing, at_next}
use Rattle.ns_machine_plan.specs.declared.packed.ValueSend.{ValueSend}
use Rattle.ns_machine_plan.specs.declared.step.SpelledRow.{SpelledRow}
use Rattle.ns_machine_plan.specs.declared.step.Step.{Step}
use Rattle.ns_machine_core.specs.declared.led.Led.{Led}
use Rattle.ns_machine_core.specs.declared.state.Core.{Core}
use Rattle.ns_machine_core.specs.declared.state.Next.{Next}
use Rattle.ns_machine_core.specs.Shown.{progress_in}
use Rattle.ns_machine_core.specs.Doing.{Finds, CanDo}
use Rattle.ns_machine_core.specs.Tried.{LeadsOrChangesNothing}
use Rattle.ns_machine_plan.specs.Packed.{value_send}
use Rattle.ns_machine_plan.specs.Spelled.{spelled_by}
use Rattle.ns_machine_plan.specs.Steps.{HasItsMember, instr_of, place_of, send_instr}
use Rattle.ns_machine_quick.specs.Values.{DoesOrNot}
use Rattle.ns_machine_turns.specs.Above.{HasMemberAbove}

-- A body runs, and the step has its member there.
pub record HasBody (code : CodeProgram) (step : Step) : Type 0 where
  pub body : BodyCode
  pub has : HasItsMember code body step

pub body_above : (code : CodeProgram) (core : Core) (at : Registers) (instr : Instr) (step : Step) → CanDo code core at instr
    → HasMemberAbove code core.stack.frames.items step → HasBody code step
body_above code core at instr step can above =
    by_frames core.stack.frames.items can.finds (λ frame others b e there. above frame others b e there)
  where
    by_body : (frame : RunningFrame) (o : Option BodyCode) → slice_get code.bodies frame.activation.body ≡ o → IsSome o
        → ((b : BodyCode) → slice_get code.bodies frame.activation.body ≡ Some b → HasItsMember code b step) → HasBody code step
    by_body frame None is there has = absurd (cc (there))
    by_body frame (Some b) is there has = record { body = b; has = has b is }

    by_frames : (frames : List Frame) → Finds code core.places instr (standing (at_next at.next frames) (take at.top core.stack.values.items)) (progress_in core)
        → HasMemberAbove code frames step → HasBody code step
    by_frames [] finds above = absurd finds
    by_frames (Looping frame ∷ frames) finds above = absurd finds
    by_frames (Running frame ∷ frames) finds above =
        by_body frame (slice_get code.bodies frame.activation.body) refl finds.fits.there (λ b is. above frame frames b refl is)

-- ---- a send to a value, as it is kept

module _ (code : CodeProgram) (core : Core) (at : Registers) (step : Step) (row : Option SpelledRow) (send : ValueSend) (is : step ≡ value_send row send) where
  -- it can be done,
  pub can_send : CanDo code core at (instr_of step) → CanDo code core at (send_instr send.kind send.sel send.argc)
  can_send can = subst (λ (step : Step). CanDo code core at (instr_of step)) is can

  -- has the row that its selector spells,
  pub row_is_spelled : CanDo code core at (instr_of step) → HasMemberAbove code core.stack.frames.items step → spelled_by code send.sel ≡ row
  row_is_spelled can above =
      let it = body_above code core at (instr_of step) step can above in
      sym (subst (λ (step : Step). HasItsMember code it.body step) is it.has)

  -- and leads where its step does.
  pub send_leads : (new : Core) (led : Led) → LeadsOrChangesNothing code (send_instr send.kind send.sel send.argc) (slice_get core.places send.place) core at new led
      → LeadsOrChangesNothing code (instr_of step) (place_of core.places step) core at new led
  send_leads new led leads = subst (λ (step : Step). LeadsOrChangesNothing code (instr_of step) (place_of core.places step) core at new led) (sym is) leads

  -- So it goes where its step does.
  pub send_goes : (new : Core) (done : Option Next) → DoesOrNot code (send_instr send.kind send.sel send.argc) (slice_get core.places send.place) core at new done
      → DoesOrNot code (instr_of step) (place_of core.places step) core at new done
  send_goes new done goes = subst (λ (step : Step). DoesOrNot code (instr_of step) (place_of core.places step) core at new done) (sym is) goes
