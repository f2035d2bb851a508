-- What an instruction finds in the topmost frame.
use Rattle.std.proofs.Common.{◌≡◌, List, [], ◌∷◌, take, subst}
use Rattle.ns_code.specs.declared.program.CodeProgram.{CodeProgram}
use Rattle.ns_code.specs.declared.instruction.Instr.{Instr}
use Rattle.ns_moves.specs.Lawful.{FitsActivation}
use Rattle.ns_moves.specs.Running.{code_of}
use Rattle.ns_machine_frames.specs.declared.frame.Frame.{Frame}
use Rattle.ns_machine_frames.specs.declared.frame.Frame.TheVariants.{Running, Looping}
use Rattle.ns_machine_frames.specs.declared.frame.RunningFrame.{RunningFrame}
use Rattle.ns_machine_frames.specs.declared.registers.Registers.{Registers}
use Rattle.ns_machine_frames.specs.Standing.{standing, at_next, below, locals_in, operands_in}
use Rattle.ns_machine_frames.specs.Stack.{stood}
use Rattle.ns_machine_core.specs.declared.state.Core.{Core}
use Rattle.ns_machine_core.specs.Shown.{progress_in}
use Rattle.ns_machine_core.specs.Doing.{FindsWhatItTakes, Finds, CanDo, running_of}

-- what an instruction finds in the topmost frame
pub finds_in : (code : CodeProgram) (core : Core) (at : Registers) (instr : Instr) (running : RunningFrame) → CanDo code core at instr
    → core.stack.frames.items ≡ Running running ∷ below core.stack.frames.items
    → FindsWhatItTakes code core.places instr (record running { next = at.next }) (locals_in (stood core.stack at)) (operands_in (stood core.stack at)) (progress_in core)
finds_in code core at instr running can top =
    by_frames core.stack.frames.items top can.finds
  where
    by_frames : (frames : List Frame) → frames ≡ Running running ∷ below core.stack.frames.items
        → Finds code core.places instr (standing (at_next at.next frames) (take at.top core.stack.values.items)) (progress_in core)
        → FindsWhatItTakes code core.places instr (record running { next = at.next })
        (locals_in (standing (at_next at.next frames) (take at.top core.stack.values.items)))
        (operands_in (standing (at_next at.next frames) (take at.top core.stack.values.items))) (progress_in core)
    by_frames [] e finds = absurd finds
    by_frames (Looping frame ∷ frames) e finds = absurd finds
    by_frames (Running frame ∷ frames) e finds =
        let same : frame ≡ running = cc in
        subst (λ (f : RunningFrame). FindsWhatItTakes code core.places instr (record f { next = at.next })
        (locals_in (standing (at_next at.next (Running frame ∷ frames)) (take at.top core.stack.values.items)))
        (operands_in (standing (at_next at.next (Running frame ∷ frames)) (take at.top core.stack.values.items))) (progress_in core)) same finds

-- it fits wherever its site is
pub fits_anywhere : (code : CodeProgram) (core : Core) (at : Registers) (instr : Instr) (running : RunningFrame) → CanDo code core at instr
    → core.stack.frames.items ≡ Running running ∷ below core.stack.frames.items
    → FitsActivation core.run.world.world.cells code (code_of (running_of running.activation))
fits_anywhere code core at instr running can top =
    let fits = (finds_in code core at instr running can top).fits in
    record { live = fits.live; there = fits.there; fits = fits.fits }
