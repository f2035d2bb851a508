-- One more value on top.
use Rattle.std.proofs.Common.{◌≡◌, ℕ, ◌+◌, ◌<◌, ◌≤◌, List, [], ◌∷◌, ◌++◌, length, ap, ◌∙◌, refl, arith, length-set}
use Rattle.std.proofs.lemmas.List.{take_more_set}
use Rattle.ns_world.specs.declared.value.Value.{Value}
use Rattle.ns_machine_frames.specs.declared.frame.Frame.{Frame}
use Rattle.ns_machine_frames.specs.declared.frame.Frame.TheVariants.{Running, Looping}
use Rattle.ns_machine_frames.specs.declared.registers.Registers.{Registers}
use Rattle.ns_machine_frames.specs.declared.stack.Stack.{Stack}
use Rattle.ns_machine_frames.specs.Standing.{Stood, Runs, Loops, standing, AreLaid, at_next, pushed, pushed_all}
use Rattle.ns_machine_frames.specs.Stack.{in_use, stood, with_top, IsLaid, put_at}
use Rattle.ns_machine_frames.specs.lemmas.Standing.{all_pushed}
use Rattle.ns_machine_frames.specs.lemmas.Pushing.{laid_in_use}

-- frames that end at a top end at a later one too
pub laid_later : (frames : List Frame) (top later : ℕ) → top ≤ later → AreLaid frames top → AreLaid frames later
laid_later [] top later more laid = laid
laid_later (Running frame ∷ frames) top later more laid = (laid.0, laid.1, omega (arith, laid.2, more), laid.3)
laid_later (Looping frame ∷ frames) top later more laid = (omega (arith, laid.0, more), laid.1)

-- one value is the list of it
pub one_pushed : (value : Value) (stood : List Stood) → pushed_all (value ∷ []) stood ≡ pushed value stood
one_pushed value [] = refl
one_pushed value (Runs frame locals stack ∷ stood) = refl
one_pushed value (Loops frame ∷ stood) = refl

pub pushed_used : (stack : Stack) (at : Registers) (value : Value) → at.top < length stack.values.items
    → in_use (put_at at.top value stack) (with_top (at.top + 1) at) ≡ in_use stack at ++ value ∷ []
pushed_used stack at value room = take_more_set stack.values.items at.top value room

pub pushed_stood : (stack : Stack) (at : Registers) (value : Value) → IsLaid stack at → at.top < length stack.values.items
    → stood (put_at at.top value stack) (with_top (at.top + 1) at) ≡ pushed value (stood stack at)
pushed_stood stack at value laid room =
    ap (λ values. standing (at_next at.next stack.frames.items) values) (pushed_used stack at value room)
    ∙ (all_pushed (at_next at.next stack.frames.items) (in_use stack at) (value ∷ []) (laid_in_use stack at laid)
    ∙ one_pushed value (stood stack at))

pub pushed_laid : (stack : Stack) (at : Registers) (value : Value) → IsLaid stack at → at.top < length stack.values.items
    → IsLaid (put_at at.top value stack) (with_top (at.top + 1) at)
pushed_laid stack at value laid room = record {
  frames = laid_later stack.frames.items at.top (at.top + 1) (omega arith) laid.frames;
  base = laid.base;
  filled = omega (arith, room, length-set stack.values.items at.top value);
  within = omega (arith, laid.within, length-set stack.values.items at.top value);
  small = laid.small;
}
