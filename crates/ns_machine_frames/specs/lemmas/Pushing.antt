-- One more value on top.
use Rattle.std.proofs.Common.{ℕ, List, [], ◌∷◌, length, sym, subst, length-take-le}
use Rattle.ns_machine_frames.specs.declared.frame.Frame.{Frame}
use Rattle.ns_machine_frames.specs.declared.frame.Frame.TheVariants.{Running, Looping}
use Rattle.ns_machine_frames.specs.declared.registers.Registers.{Registers}
use Rattle.ns_machine_frames.specs.declared.stack.Stack.{Stack}
use Rattle.ns_machine_frames.specs.Standing.{AreLaid, at_next}
use Rattle.ns_machine_frames.specs.Stack.{in_use, IsLaid}

-- frames that end at a top, with the number of the next instruction
laid_next : (next : ℕ) (frames : List Frame) (top : ℕ) → AreLaid frames top → AreLaid (at_next next frames) top
laid_next next [] top laid = laid
laid_next next (Running frame ∷ frames) top laid = laid
laid_next next (Looping frame ∷ frames) top laid = laid

-- frames that are laid stand in the values in use
pub laid_in_use : (stack : Stack) (at : Registers) → IsLaid stack at →
    AreLaid (at_next at.next stack.frames.items) (length (in_use stack at))
laid_in_use stack at laid =
    subst (λ (top : ℕ). AreLaid (at_next at.next stack.frames.items) top) (sym (length-take-le at.top stack.values.items laid.filled))
    (laid_next at.next stack.frames.items at.top laid.frames)
