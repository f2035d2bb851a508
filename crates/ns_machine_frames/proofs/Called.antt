-- Bodies that are entered without arguments beside them, or on a value in their place.
use Rattle.std.proofs.Common.{◌≡◌, ℕ, ◌+◌, ◌-◌, ◌≤◌, List, [], ◌∷◌, ◌++◌, length, take, drop, replicate, ap, ◌∙◌, arith, length-take-le, length-set}
use Rattle.std.proofs.lemmas.List.{take-set-le, drop_at, drop_all}
use Rattle.ns_world.specs.declared.value.Value.{Value}
use Rattle.ns_world.specs.declared.value.Value.TheVariants.{Nil}
use Rattle.ns_machine_frames.specs.declared.registers.Registers.{Registers}
use Rattle.ns_machine_frames.specs.declared.stack.Stack.{Stack}
use Rattle.ns_machine_frames.specs.Standing.{standing, at_next}
use Rattle.ns_machine_frames.specs.Stack.{stood, IsLaid, put_at}

-- no locals stand behind the values in use
pub none_beside : (items : List Value) (floor : ℕ) → floor ≤ length items →
    drop floor (take floor items) ++ replicate (floor + 0 - floor) Nil ≡ []
none_beside items floor within =
    let count : floor + 0 - floor ≡ 0 = omega arith in
    ap (λ rest. rest ++ replicate (floor + 0 - floor) Nil) (drop_all floor (take floor items) (omega (arith, length-take-le floor items within)))
    ∙ ap (λ number. replicate number Nil) count

-- a value that is written above those in use
pub put_stood : (stack : Stack) (at : Registers) (place : ℕ) (value : Value) → at.top ≤ place →
    stood (put_at place value stack) at ≡ stood stack at
put_stood stack at place value above =
    ap (λ values. standing (at_next at.next stack.frames.items) values) (take-set-le at.top stack.values.items place value above)

pub put_laid : (stack : Stack) (at : Registers) (place : ℕ) (value : Value) → IsLaid stack at → IsLaid (put_at place value stack) at
put_laid stack at place value laid = record {
  frames = laid.frames;
  base = laid.base;
  filled = omega (arith, laid.filled, length-set stack.values.items place value);
  within = omega (arith, laid.within, length-set stack.values.items place value);
  small = laid.small;
}

-- it is all that stands behind them
pub one_beside : (items : List Value) (floor : ℕ) (value : Value) → floor ≤ length items →
    drop floor (take floor items ++ value ∷ []) ≡ value ∷ []
one_beside items floor value within = drop_at (take floor items) (value ∷ []) floor (length-take-le floor items within)
