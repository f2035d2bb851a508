-- Locals of the topmost frame.
use Rattle.std.proofs.Common.{◌≡◌, ℕ, ◌+◌, ◌-◌, ◌<◌, List, [], ◌∷◌, length, drop, set, get_or, ap, sym, subst, ◌∙◌, refl, arith, length-take-le, length-take, length-drop, length-set}
use Rattle.std.specs.List.{slice_index_or}
use Rattle.std.proofs.lemmas.List.{get_or-drop, get_or-take, drop-set-add, drop-set-lt, take-set-le}
use Rattle.std.proofs.Math.Seq.{take-set-lt}
use Rattle.ns_world.specs.declared.value.Value.{Value}
use Rattle.ns_world.specs.declared.value.Value.TheVariants.{Nil}
use Rattle.ns_machine_frames.specs.declared.frame.Frame.{Frame}
use Rattle.ns_machine_frames.specs.declared.frame.Frame.TheVariants.{Running, Looping}
use Rattle.ns_machine_frames.specs.declared.registers.Registers.{Registers}
use Rattle.ns_machine_frames.specs.declared.stack.Stack.{Stack}
use Rattle.ns_machine_frames.specs.Standing.{standing, AreLaid, at_next, stored, locals_in}
use Rattle.ns_machine_frames.specs.Stack.{in_use, stood, HasBase, IsLaid, put_at}

-- the local of an index, from the row of values, and where it stands there
local_of : (next base : ℕ) (frames : List Frame) (values : List Value) (index : ℕ) → HasBase frames base
    → index < length (locals_in (standing (at_next next frames) values))
    → slice_index_or values (base + index) Nil ≡ slice_index_or (locals_in (standing (at_next next frames) values)) index Nil
local_of next base [] values index is few = absurd (omega (arith, few))
local_of next base (Looping frame ∷ frames) values index is few = absurd (omega (arith, few))
local_of next base (Running frame ∷ frames) values index is few =
    let size = length-take (frame.operands - frame.base) (drop frame.base values) in
    ap (λ b. get_or values (b + index) Nil) is
    ∙ (sym (get_or-drop frame.base values index Nil)
    ∙ sym (get_or-take (frame.operands - frame.base) (drop frame.base values) index Nil (omega (arith, few, size))))

within_use : (next base : ℕ) (frames : List Frame) (values : List Value) (index : ℕ) → HasBase frames base
    → index < length (locals_in (standing (at_next next frames) values)) → base + index < length values
within_use next base [] values index is few = absurd (omega (arith, few))
within_use next base (Looping frame ∷ frames) values index is few = absurd (omega (arith, few))
within_use next base (Running frame ∷ frames) values index is few =
    omega (arith, few, is, length-take (frame.operands - frame.base) (drop frame.base values), length-drop frame.base values)

pub local_used : (stack : Stack) (at : Registers) (index : ℕ) → IsLaid stack at → index < length (locals_in (stood stack at)) →
    at.base + index < at.top
local_used stack at index laid few =
    omega (arith, within_use at.next at.base stack.frames.items (in_use stack at) index laid.base few, length-take-le at.top stack.values.items laid.filled)

pub local_stood : (stack : Stack) (at : Registers) (index : ℕ) → IsLaid stack at → index < length (locals_in (stood stack at))
    → slice_index_or stack.values.items (at.base + index) Nil ≡ slice_index_or (locals_in (stood stack at)) index Nil
local_stood stack at index laid few =
    sym (get_or-take at.top stack.values.items (at.base + index) Nil (local_used stack at index laid few))
    ∙ local_of at.next at.base stack.frames.items (in_use stack at) index laid.base few

-- a write to a local
stored_of : (next base : ℕ) (frames : List Frame) (values : List Value) (index : ℕ) (value : Value) → HasBase frames base
    → AreLaid frames (length values) → index < length (locals_in (standing (at_next next frames) values))
    → standing (at_next next frames) (set values (base + index) value) ≡ stored index value (standing (at_next next frames) values)
stored_of next base [] values index value is laid few = absurd (omega (arith, few))
stored_of next base (Looping frame ∷ frames) values index value is laid few = absurd (omega (arith, few))
stored_of next base (Running frame ∷ frames) values index value is laid few =
    let size = length-take (frame.operands - frame.base) (drop frame.base values) in
    let inside : index < frame.operands - frame.base = omega (arith, few, size) in
    rw (
      is,
      drop-set-add frame.base values index value,
      take-set-lt (frame.operands - frame.base) (drop frame.base values) index value inside,
      drop-set-lt frame.operands values (frame.base + index) value (omega (arith, inside)),
      take-set-le frame.floor values (frame.base + index) value (omega (arith, laid.0)),
    ) refl

pub stored_stood : (stack : Stack) (at : Registers) (index : ℕ) (value : Value) → IsLaid stack at →
    index < length (locals_in (stood stack at))
    → stood (put_at (at.base + index) value stack) at ≡ stored index value (stood stack at)
stored_stood stack at index value laid few =
    let size : length (in_use stack at) ≡ at.top = length-take-le at.top stack.values.items laid.filled in
    let used : AreLaid stack.frames.items (length (in_use stack at)) = subst (λ (top : ℕ). AreLaid stack.frames.items top) (sym size) laid.frames in
    ap (λ values. standing (at_next at.next stack.frames.items) values)
    (take-set-lt at.top stack.values.items (at.base + index) value (local_used stack at index laid few))
    ∙ stored_of at.next at.base stack.frames.items (in_use stack at) index value laid.base used few

pub stored_laid : (stack : Stack) (at : Registers) (index : ℕ) (value : Value) → IsLaid stack at →
    IsLaid (put_at (at.base + index) value stack) at
stored_laid stack at index value laid = record {
  frames = laid.frames;
  base = laid.base;
  filled = omega (arith, laid.filled, length-set stack.values.items (at.base + index) value);
  within = omega (arith, laid.within, length-set stack.values.items (at.base + index) value);
  small = laid.small;
}
