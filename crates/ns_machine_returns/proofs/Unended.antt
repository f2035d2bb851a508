-- Ends of bodies that the quick way leaves to the general one.
use Rattle.std.proofs.Common.{◌≡◌, ◌<◌, ◌∷◌, ℕ, List, [], length, drop, refl, subst, sym, arith}
use Rattle.std.proofs.lemmas.List.{length-drop}
use Rattle.ns_code.specs.declared.program.CodeProgram.{CodeProgram}
use Rattle.ns_world.specs.declared.value.Value.{Value}
use Rattle.ns_machine_frames.specs.declared.frame.Frame.{Frame}
use Rattle.ns_machine_frames.specs.declared.frame.RunningFrame.{RunningFrame}
use Rattle.ns_machine_frames.specs.declared.registers.Registers.{Registers}
use Rattle.ns_machine_frames.specs.declared.stack.Stack.{Stack}
use Rattle.ns_machine_frames.specs.Row.{FrameRow}
use Rattle.ns_machine_frames.specs.Standing.{below}
use Rattle.ns_machine_core.specs.declared.state.Core.{Core}
use Rattle.ns_machine_core.specs.Tried.{OnlyLookupsChanged}
use Rattle.ns_machine_returns.specs.Ending.{CanEnd}

pub unended : (code : CodeProgram) (core : Core) (at : Registers) (frame : RunningFrame) (value : Value) → CanEnd code core at frame value →
    OnlyLookupsChanged code core core
unended code core at frame value can = record { same = refl; kept = can.kept }

-- Where two frames stand, one is left.
pub some_below : (old new : Stack) → 1 < length old.frames.items → new.frames ≡ record old.frames { items = below old.frames.items } →
    0 < length new.frames.items
some_below old new some is = subst (λ (row : FrameRow). 0 < length row.items) (sym is) (by_frames old.frames.items some)
  where
    by_frames : (frames : List Frame) → 1 < length frames → 0 < length (below frames)
    by_frames [] low = absurd (omega (arith, low))
    by_frames (one ∷ []) low = absurd (omega (arith, low))
    by_frames (one ∷ other ∷ frames) low = omega arith

-- Where more frames stand than are taken off, one is left.
pub some_dropped : (old new : Stack) (count : ℕ) → count < length old.frames.items →
    new.frames ≡ record old.frames { items = drop count old.frames.items }
    → 0 < length new.frames.items
some_dropped old new count some is =
    let less = length-drop count old.frames.items in
    subst (λ (row : FrameRow). 0 < length row.items) (sym is) (omega (arith, some, less))
