-- Room for frames.
use Rattle.std.proofs.Common.{◌≡◌, ℕ, ◌+◌, ◌*◌, ◌<◌, ◌≤◌, List, [], ◌∷◌, length, drop, ap, sym, subst, ◌∙◌, arith, length-take-le, length-drop}
use Rattle.std.proofs.lemmas.List.{length-reverse}
use Rattle.std.proofs.lemmas.Nat.{mul-le}
use Rattle.ns_world.specs.declared.value.Value.{Value}
use Rattle.ns_kcode.specs.declared.state.KState.{KState}
use Rattle.ns_machine_frames.specs.declared.frame.Frame.{Frame}
use Rattle.ns_machine_frames.specs.declared.frame.Frame.TheVariants.{Running, Looping}
use Rattle.ns_machine_frames.specs.declared.frame.RunningFrame.{RunningFrame}
use Rattle.ns_machine_frames.specs.declared.registers.Registers.{Registers}
use Rattle.ns_machine_frames.specs.declared.stack.Stack.{Stack}
use Rattle.ns_machine_frames.specs.Standing.{standing, AreLaid, operands_in, below, at_next, in_state}
use Rattle.ns_machine_frames.specs.Stack.{in_use, stood, IsLaid, IsEntered}
use Rattle.ns_machine_frames.specs.Leaving.{with_answer}
use Rattle.ns_machine_frames.specs.Room.{bound, FramesFitWithin}
use Rattle.ns_machine_frames.specs.laws.Room.{bound_next, bound_is, within_more, within_below, within_next, within_answer}

within_state : (height : ℕ → ℕ) (greatest filled : ℕ) (state : KState) (frames : List Frame) → FramesFitWithin height greatest filled frames
    → FramesFitWithin height greatest filled (in_state state frames)
within_state height greatest filled state [] within = within
within_state height greatest filled state (Running frame ∷ frames) within = within
within_state height greatest filled state (Looping frame ∷ frames) within = within

pub others_keep : (height : ℕ → ℕ) (greatest filled more next : ℕ) (state : KState) (value : Value) (frames : List Frame) → filled ≤ more
    → FramesFitWithin height greatest filled frames
    → FramesFitWithin height greatest more frames × FramesFitWithin height greatest filled (below frames)
    × FramesFitWithin height greatest filled (at_next next frames) × FramesFitWithin height greatest filled (in_state state frames)
    × FramesFitWithin height greatest filled (with_answer value frames)
others_keep height greatest filled more next state value frames le within = (
  within_more height greatest filled more frames le within,
  within_below height greatest filled frames within,
  within_next height greatest filled next frames within,
  within_state height greatest filled state frames within,
  within_answer height greatest filled value frames within,
)

-- ---- operands on top

-- the values in use end so many behind where the operands of the topmost begin
operands_end : (next : ℕ) (frame : RunningFrame) (frames : List Frame) (values : List Value) →
    AreLaid (Running frame ∷ frames) (length values)
    → frame.operands + length (operands_in (standing (at_next next (Running frame ∷ frames)) values)) ≡ length values
operands_end next frame frames values laid =
    let all = length-reverse (drop frame.operands values) in
    let some = length-drop frame.operands values in
    omega (arith, laid.2, all, some)

top_is : (stack : Stack) (at : Registers) (frame : RunningFrame) (frames : List Frame) → IsLaid stack at →
    stack.frames.items ≡ Running frame ∷ frames
    → frame.operands + length (operands_in (stood stack at)) ≡ at.top
top_is stack at frame frames laid is =
    let size : length (in_use stack at) ≡ at.top = length-take-le at.top stack.values.items laid.filled in
    let used : AreLaid (Running frame ∷ frames) (length (in_use stack at)) =
    subst (λ (top : ℕ). AreLaid (Running frame ∷ frames) top) (sym size) (subst (λ (kept : List Frame). AreLaid kept at.top) is laid.frames) in
    ap (λ (kept : List Frame). frame.operands + length (operands_in (standing (at_next at.next kept) (in_use stack at)))) is
    ∙ (operands_end at.next frame frames (in_use stack at) used ∙ size)

pub one_more_fits : (height : ℕ → ℕ) (greatest : ℕ) (stack : Stack) (at : Registers) (frame : RunningFrame) (frames : List Frame) →
    IsLaid stack at
    → FramesFitWithin height greatest (length stack.values.items) stack.frames.items → stack.frames.items ≡ Running frame ∷ frames
    → length (operands_in (stood stack at)) < height frame.activation.body → at.top < length stack.values.items
one_more_fits height greatest stack at frame frames laid within is few =
    let here : FramesFitWithin height greatest (length stack.values.items) (Running frame ∷ frames) =
    subst (λ (kept : List Frame). FramesFitWithin height greatest (length stack.values.items) kept) is within in
    omega (arith, here.0, few, top_is stack at frame frames laid is)

pub top_within : (height : ℕ → ℕ) (greatest : ℕ) (stack : Stack) (at : Registers) (frame : RunningFrame) (frames : List Frame) →
    IsLaid stack at
    → FramesFitWithin height greatest (length stack.values.items) stack.frames.items → stack.frames.items ≡ Running frame ∷ frames
    → length (operands_in (stood stack at)) ≤ height frame.activation.body → at.top ≤ bound greatest stack.frames.items
top_within height greatest stack at frame frames laid within is few =
    let here : FramesFitWithin height greatest (length stack.values.items) (Running frame ∷ frames) =
    subst (λ (kept : List Frame). FramesFitWithin height greatest (length stack.values.items) kept) is within in
    subst (λ (kept : List Frame). at.top ≤ bound greatest kept) (sym is) (omega (arith, here.1, few, top_is stack at frame frames laid is))

-- ---- a frame that begins

pub entering_keeps : (height : ℕ → ℕ) (greatest : ℕ) (old new : Stack) (at to : Registers) (frame : RunningFrame) (locals : List Value) (most : ℕ)
    → IsEntered old at new to frame locals most → FramesFitWithin height greatest (length old.values.items) old.frames.items
    → height frame.activation.body ≤ most → frame.base ≤ bound greatest old.frames.items → frame.operands + most ≤ frame.base + greatest
    → FramesFitWithin height greatest (length new.values.items) new.frames.items
entering_keeps height greatest old new at to frame locals most entered within low base small =
    subst (λ (kept : List Frame). FramesFitWithin height greatest (length new.values.items) kept) (sym entered.frames) (
      omega (arith, entered.filled, low),
      omega (arith, low, base, small, bound_next greatest at.next old.frames.items),
      within_next height greatest (length new.values.items) at.next old.frames.items
          (within_more height greatest (length old.values.items) (length new.values.items) old.frames.items entered.room.filled within),
    )

-- ---- the limit on depth

pub depth_gives_room : (greatest depth place size : ℕ) (frames : List Frame) → length frames < depth → place ≤ bound greatest frames →
    size ≤ greatest
    → place + size ≤ depth * greatest
depth_gives_room greatest depth place size frames few low small =
    let more : (length frames + 1) * greatest ≤ depth * greatest = mul-le (length frames + 1) greatest depth greatest (omega (arith, few)) (omega arith) in
    let sum : bound greatest frames + greatest ≡ (length frames + 1) * greatest = grind (arith, bound_is greatest frames) in
    omega (arith, low, small, more, sum)
