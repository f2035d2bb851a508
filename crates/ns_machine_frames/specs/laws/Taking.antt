-- Fewer values: what is taken off the operands.
use Rattle.std.proofs.Common.{◌≡◌, ℕ, ◌-◌, ◌≤◌, List, [], ◌∷◌, ◌++◌, length, take, drop, ap, sym, subst, ◌∙◌, arith, length-take-le, length-drop}
use Rattle.std.proofs.lemmas.List.{take-take, take-append-drop, length-reverse}
use Rattle.ns_world.specs.declared.value.Value.{Value}
use Rattle.ns_machine_frames.specs.declared.frame.Frame.{Frame}
use Rattle.ns_machine_frames.specs.declared.frame.Frame.TheVariants.{Running, Looping}
use Rattle.ns_machine_frames.specs.declared.registers.Registers.{Registers}
use Rattle.ns_machine_frames.specs.declared.stack.Stack.{Stack}
use Rattle.ns_machine_frames.specs.Standing.{standing, AreLaid, at_next, pushed_all, operands_in}
use Rattle.ns_machine_frames.specs.Stack.{in_use, stood, with_top, IsLaid}
use Rattle.ns_machine_frames.specs.lemmas.Standing.{all_pushed}
use Rattle.ns_machine_frames.specs.lemmas.Pushing.{laid_in_use}

-- as many operands are there as stand between where they begin and the end of the values
laid_fewer : (next : ℕ) (frames : List Frame) (values : List Value) (count : ℕ) → AreLaid frames (length values)
    → count ≤ length (operands_in (standing (at_next next frames) values)) → AreLaid frames (length values - count)
laid_fewer next [] values count laid few = tt
laid_fewer next (Looping frame ∷ frames) values count laid few = (omega (arith, laid.0, few), laid.1)
laid_fewer next (Running frame ∷ frames) values count laid few =
    let all = length-reverse (drop frame.operands values) in
    let some = length-drop frame.operands values in
    (laid.0, laid.1, omega (arith, laid.2, few, all, some), laid.3)

within_use : (next : ℕ) (frames : List Frame) (values : List Value) (count : ℕ)
    → count ≤ length (operands_in (standing (at_next next frames) values)) → count ≤ length values
within_use next [] values count few = omega (arith, few)
within_use next (Looping frame ∷ frames) values count few = omega (arith, few)
within_use next (Running frame ∷ frames) values count few =
    let all = length-reverse (drop frame.operands values) in
    let some = length-drop frame.operands values in
    omega (arith, few, all, some)

pub operands_used : (stack : Stack) (at : Registers) (count : ℕ) → IsLaid stack at → count ≤ length (operands_in (stood stack at)) →
    count ≤ at.top
operands_used stack at count laid few =
    omega (arith, within_use at.next stack.frames.items (in_use stack at) count few, length-take-le at.top stack.values.items laid.filled)

-- Operands that are taken leave the stack laid.
pub taken_laid : (stack : Stack) (at : Registers) (count : ℕ) → IsLaid stack at → count ≤ length (operands_in (stood stack at))
    → IsLaid stack (with_top (at.top - count) at)
taken_laid stack at count laid few =
    let size : length (in_use stack at) ≡ at.top = length-take-le at.top stack.values.items laid.filled in
    let used : AreLaid stack.frames.items (length (in_use stack at)) = subst (λ (top : ℕ). AreLaid stack.frames.items top) (sym size) laid.frames in
    record {
      frames = subst (λ (top : ℕ). AreLaid stack.frames.items (top - count)) size (laid_fewer at.next stack.frames.items (in_use stack at) count used few);
      base = laid.base;
      filled = omega (arith, laid.filled);
      within = laid.within;
      small = laid.small;
    }

-- the values below those that are taken are in use at the lower top
lower_used : (stack : Stack) (at : Registers) (count : ℕ) →
    take (at.top - count) (in_use stack at) ≡ in_use stack (with_top (at.top - count) at)
lower_used stack at count = take-take (at.top - count) at.top stack.values.items (omega arith)

-- With the operands that are taken put back, the frames stand as before.
pub taken_stood : (stack : Stack) (at : Registers) (count : ℕ) → IsLaid stack at → count ≤ length (operands_in (stood stack at))
    → stood stack at ≡ pushed_all (drop (at.top - count) (in_use stack at)) (stood stack (with_top (at.top - count) at))
taken_stood stack at count laid few =
    let values = in_use stack at in
    let lower = with_top (at.top - count) at in
    let cut : values ≡ in_use stack lower ++ drop (at.top - count) values =
    sym (take-append-drop (at.top - count) values) ∙ ap (λ first. first ++ drop (at.top - count) values) (lower_used stack at count) in
    ap (λ all. standing (at_next at.next stack.frames.items) all) cut
    ∙ all_pushed (at_next at.next stack.frames.items) (in_use stack lower) (drop (at.top - count) values) (laid_in_use stack lower (taken_laid stack at count laid few))

-- As many operands are taken as are asked for.
pub taken_length : (stack : Stack) (at : Registers) (count : ℕ) → IsLaid stack at → count ≤ length (operands_in (stood stack at))
    → length (drop (at.top - count) (in_use stack at)) ≡ count
taken_length stack at count laid few =
    omega (arith, operands_used stack at count laid few, length-drop (at.top - count) (in_use stack at), length-take-le at.top stack.values.items laid.filled)
