-- What more values, or fewer, show of the frames that stand.
use Rattle.std.proofs.Common.{◌≡◌, ℕ, ◌+◌, ◌-◌, ◌≤◌, List, [], ◌∷◌, ◌++◌, length, take, drop, reverse, ap, ◌∙◌, refl, arith}
use Rattle.std.proofs.lemmas.List.{take-append-le, drop-append-le, reverse-append, length-drop}
use Rattle.ns_world.specs.declared.value.Value.{Value}
use Rattle.ns_machine_frames.specs.declared.frame.Frame.{Frame}
use Rattle.ns_machine_frames.specs.declared.frame.Frame.TheVariants.{Running, Looping}
use Rattle.ns_machine_frames.specs.Standing.{Loops, standing, AreLaid, pushed_all}

-- the parts that a frame has of more values
more_locals : (base count : ℕ) (values more : List Value) → base + count ≤ length values
    → take count (drop base (values ++ more)) ≡ take count (drop base values)
more_locals base count values more fits =
    ap (λ rest. take count rest) (drop-append-le base values more (omega (arith, fits)))
    ∙ take-append-le count (drop base values) more (omega (arith, fits, length-drop base values))

more_operands : (from : ℕ) (values more : List Value) → from ≤ length values
    → reverse (drop from (values ++ more)) ≡ reverse more ++ reverse (drop from values)
more_operands from values more fits = ap reverse (drop-append-le from values more fits) ∙ reverse-append (drop from values) more

-- more values stand on the operands of the topmost frame
pub all_pushed : (frames : List Frame) (values more : List Value) → AreLaid frames (length values)
    → standing frames (values ++ more) ≡ pushed_all more (standing frames values)
all_pushed [] values more laid = refl
all_pushed (Looping frame ∷ frames) values more laid =
    ap (λ rest. Loops frame ∷ standing frames rest) (take-append-le frame.floor values more laid.0)
all_pushed (Running frame ∷ frames) values more laid =
    rw (
      more_locals frame.base (frame.operands - frame.base) values more (omega (arith, laid.1, laid.2)),
      more_operands frame.operands values more laid.2,
      take-append-le frame.floor values more (omega (arith, laid.0, laid.1, laid.2)),
    ) refl
