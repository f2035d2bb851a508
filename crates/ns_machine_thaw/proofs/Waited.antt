-- What waits again shows what the plain data stands for.
use Rattle.std.proofs.Common.{◌≡◌, ℕ, List, ap, ◌∙◌, arith}
use Rattle.ns_base.specs.declared.selector.Sel.{Sel}
use Rattle.ns_code.specs.declared.program.CodeProgram.{CodeProgram}
use Rattle.ns_world.specs.declared.value.Value.{Value}
use Rattle.ns_moves.specs.declared.site.Site.{Site}
use Rattle.ns_moves.specs.State.{Sending, Performing, Evaluating, Pends}
use Rattle.ns_frozen.specs.declared.pending.Pending.TheVariants as waiting
use Rattle.ns_machine_frames.specs.declared.frame.KeptSite.{KeptSite}
use Rattle.ns_machine_frames.specs.declared.frame.Pending.TheVariants as kept
use Rattle.ns_machine_frames.specs.declared.registers.Registers.{Registers}
use Rattle.ns_machine_frames.specs.declared.stack.Stack.{Stack}
use Rattle.ns_machine_frames.specs.Row.{ValueRow}
use Rattle.ns_machine_frames.specs.Stack.{stood}
use Rattle.ns_machine_frames.specs.View.{site_shown, frames_shown}
use Rattle.ns_machine_core.specs.declared.state.Core.{Core}
use Rattle.ns_machine_core.specs.declared.state.Next.TheVariants.{Waits}
use Rattle.ns_machine_core.specs.Shown.{phase_shown, progress_in}
use Rattle.ns_machine_core.specs.Standing.{ArgumentsWait}
use Rattle.ns_machine_thaw.specs.Frames.{StandLow}
use Rattle.ns_machine_thaw.specs.Waiting.{PendingWaits}

-- arguments that are kept apart wait at the top
at_top : (code : CodeProgram) (stack : Stack) (at : Registers) → StandLow code stack at → ArgumentsWait code stack at at.top at.top
at_top code stack at stand = record { order = omega arith; low = omega arith; reach = stand.top; stands = stand.standing }

pub send_waits : (core : Core) (at : Registers) (receiver : Value) (sel : Sel) (arguments : ValueRow) (values : List Value) (site : Site) (kept_site : KeptSite)
    → arguments.items ≡ values → site_shown core.places kept_site ≡ site → (code : CodeProgram) → StandLow code core.stack at
    → PendingWaits code core at (waiting.Send receiver sel values site)
    (record core { waiting = kept.Sending receiver sel kept_site at.top; arguments = arguments }) (Waits at)
send_waits core at receiver sel arguments values site kept_site all is code stand = record {
  state =
      ap (λ (given : List Value). Pends (phase_shown core.phase) (Sending receiver sel given (site_shown core.places kept_site))
      (frames_shown code core.places (stood core.stack at)) (progress_in core)) all
      ∙ ap (λ (s : Site). Pends (phase_shown core.phase) (Sending receiver sel values s) (frames_shown code core.places (stood core.stack at)) (progress_in core)) is;
  stand = (stand.standing, at_top code core.stack at stand);
}

pub perform_waits : (core : Core) (at : Registers) (receiver : Value) (sel : Sel) (array : ℕ) (site : Site) (kept_site : KeptSite)
    → site_shown core.places kept_site ≡ site → (code : CodeProgram) → StandLow code core.stack at
    → PendingWaits code core at (waiting.Perform receiver sel array site)
    (record core { waiting = kept.Performing receiver sel array kept_site at.top }) (Waits at)
perform_waits core at receiver sel array site kept_site is code stand = record {
  state = ap (λ (s : Site). Pends (phase_shown core.phase) (Performing receiver sel array s) (frames_shown code core.places (stood core.stack at)) (progress_in core)) is;
  stand = (stand.standing, at_top code core.stack at stand);
}

pub block_waits : (core : Core) (at : Registers) (block : Value) (arguments : ValueRow) (values : List Value) (site : Site) (kept_site : KeptSite)
    → arguments.items ≡ values → site_shown core.places kept_site ≡ site → (code : CodeProgram) → StandLow code core.stack at
    → PendingWaits code core at (waiting.Evaluate block values site)
    (record core { waiting = kept.EvaluatingKept block kept_site at.top; arguments = arguments }) (Waits at)
block_waits core at block arguments values site kept_site all is code stand = record {
  state =
      ap (λ (given : List Value). Pends (phase_shown core.phase) (Evaluating block given (site_shown core.places kept_site))
      (frames_shown code core.places (stood core.stack at)) (progress_in core)) all
      ∙ ap (λ (s : Site). Pends (phase_shown core.phase) (Evaluating block values s) (frames_shown code core.places (stood core.stack at)) (progress_in core)) is;
  stand = (stand.standing, at_top code core.stack at stand);
}
