-- Fewer values: what is taken off the operands.
use Rattle.std.proofs.Common.{◌≡◌, ℕ, ◌+◌, ◌-◌, ◌<◌, ◌≤◌, List, [], ◌∷◌, ◌++◌, length, take, drop, get_or, ap, sym, ◌∙◌, arith, length-take-le, length-drop}
use Rattle.std.specs.List.{slice_index_or}
use Rattle.std.proofs.lemmas.List.{take_more, length-reverse, get_or-reverse, get_or-drop, get_or-take}
use Rattle.ns_world.specs.declared.value.Value.{Value}
use Rattle.ns_world.specs.declared.value.Value.TheVariants.{Nil}
use Rattle.ns_machine_frames.specs.declared.frame.Frame.{Frame}
use Rattle.ns_machine_frames.specs.declared.frame.Frame.TheVariants.{Running, Looping}
use Rattle.ns_machine_frames.specs.declared.registers.Registers.{Registers}
use Rattle.ns_machine_frames.specs.declared.stack.Stack.{Stack}
use Rattle.ns_machine_frames.specs.Standing.{standing, at_next, pushed, operands_in}
use Rattle.ns_machine_frames.specs.Stack.{in_use, stood, with_top, IsLaid}
use Rattle.ns_machine_frames.specs.lemmas.Standing.{all_pushed}
use Rattle.ns_machine_frames.specs.lemmas.Pushing.{laid_in_use}
use Rattle.ns_machine_frames.proofs.Pushing.{one_pushed}
use Rattle.ns_machine_frames.specs.laws.Taking.{operands_used, taken_laid}

-- one value that is taken
pub popped_laid : (stack : Stack) (at : Registers) → IsLaid stack at → 1 ≤ length (operands_in (stood stack at)) →
    IsLaid stack (with_top (at.top - 1) at)
popped_laid stack at laid some = taken_laid stack at 1 laid some

pub popped_stood : (stack : Stack) (at : Registers) → IsLaid stack at → 1 ≤ length (operands_in (stood stack at))
    → stood stack at ≡ pushed (slice_index_or stack.values.items (at.top - 1) Nil) (stood stack (with_top (at.top - 1) at))
popped_stood stack at laid some =
    let lower = with_top (at.top - 1) at in
    let value = slice_index_or stack.values.items (at.top - 1) Nil in
    let used = operands_used stack at 1 laid some in
    let same : (at.top - 1) + 1 ≡ at.top = omega (arith, used) in
    let cut : in_use stack at ≡ in_use stack lower ++ value ∷ [] =
    ap (λ top. take top stack.values.items) (sym same) ∙ take_more stack.values.items (at.top - 1) Nil (omega (arith, used, laid.filled)) in
    ap (λ all. standing (at_next at.next stack.frames.items) all) cut
    ∙ (all_pushed (at_next at.next stack.frames.items) (in_use stack lower) (value ∷ []) (laid_in_use stack lower (popped_laid stack at laid some))
    ∙ one_pushed value (stood stack lower))

-- the operand of a number, from the row of values
operand_of : (next : ℕ) (frames : List Frame) (values : List Value) (number : ℕ) →
    number < length (operands_in (standing (at_next next frames) values))
    → slice_index_or values (length values - 1 - number) Nil ≡ slice_index_or (operands_in (standing (at_next next frames) values)) number Nil
operand_of next [] values number few = absurd (omega (arith, few))
operand_of next (Looping frame ∷ frames) values number few = absurd (omega (arith, few))
operand_of next (Running frame ∷ frames) values number few =
    let all = length-reverse (drop frame.operands values) in
    let some = length-drop frame.operands values in
    let within : number < length (drop frame.operands values) = omega (arith, few, all) in
    let place : length values - 1 - number ≡ frame.operands + (length (drop frame.operands values) - 1 - number) = omega (arith, within, some) in
    ap (λ k. get_or values k Nil) place
    ∙ (sym (get_or-drop frame.operands values (length (drop frame.operands values) - 1 - number) Nil)
    ∙ sym (get_or-reverse (drop frame.operands values) number Nil within))

pub picked_stood : (stack : Stack) (at : Registers) (number : ℕ) → IsLaid stack at → number < length (operands_in (stood stack at))
    → slice_index_or stack.values.items (at.top - 1 - number) Nil ≡ slice_index_or (operands_in (stood stack at)) number Nil
picked_stood stack at number laid few =
    let used = operands_used stack at (number + 1) laid (omega (arith, few)) in
    let size : length (in_use stack at) ≡ at.top = length-take-le at.top stack.values.items laid.filled in
    sym (get_or-take at.top stack.values.items (at.top - 1 - number) Nil (omega (arith, used)))
    ∙ (ap (λ top. get_or (in_use stack at) (top - 1 - number) Nil) (sym size)
    ∙ operand_of at.next stack.frames.items (in_use stack at) number few)
