-- What stands when a frame has ended, and what a value comes to.
use Rattle.std.proofs.Common.{◌≡◌, ℕ, ℤ, zero, suc, ◌+◌, ◌<◌, ◌≤◌, List, [], ◌∷◌, length, take, drop, ap, sym, subst, ◌∙◌, refl, arith}
use Rattle.std.proofs.lemmas.List.{take-take}
use Rattle.ns_world.specs.declared.value.Value.{Value}
use Rattle.ns_machine_frames.specs.declared.frame.Frame.{Frame}
use Rattle.ns_machine_frames.specs.declared.frame.Frame.TheVariants.{Running, Looping}
use Rattle.ns_machine_frames.specs.declared.frame.LoopingFrame.{LoopingFrame}
use Rattle.ns_machine_frames.specs.declared.frame.RunningFrame.{RunningFrame}
use Rattle.ns_machine_frames.specs.declared.registers.Registers.{Registers}
use Rattle.ns_machine_frames.specs.declared.stack.Stack.{Stack}
use Rattle.ns_machine_frames.specs.Standing.{standing, AreLaid, at_next, below, pushed}
use Rattle.ns_machine_frames.specs.Stack.{in_use, stood, with_top, IsLaid, HasBase}
use Rattle.ns_machine_frames.specs.Leaving.{top_floor, resumed, delivered, with_answer, with_count, counted}

-- the frame that goes on is at the instruction that it kept
resumed_next : (frames : List Frame) (at : Registers) → at_next (resumed frames at).next frames ≡ frames
resumed_next [] at = refl
resumed_next (Running frame ∷ frames) at = refl
resumed_next (Looping frame ∷ frames) at = refl

resumed_top : (frames : List Frame) (at : Registers) → (resumed frames at).top ≡ at.top
resumed_top [] at = refl
resumed_top (Running frame ∷ frames) at = refl
resumed_top (Looping frame ∷ frames) at = refl

resumed_base : (frames : List Frame) (at : Registers) → HasBase frames (resumed frames at).base
resumed_base [] at = tt
resumed_base (Running frame ∷ frames) at = refl
resumed_base (Looping frame ∷ frames) at = tt

-- the frames below the topmost, on the values below its floor
below_standing : (next : ℕ) (frames : List Frame) (values : List Value)
    → standing (below frames) (take (top_floor frames) values) ≡ below (standing (at_next next frames) values)
below_standing next [] values = refl
below_standing next (Running frame ∷ frames) values = refl
below_standing next (Looping frame ∷ frames) values = refl

-- its floor is among the values in use
floor_within : (frames : List Frame) (top : ℕ) → AreLaid frames top → top_floor frames ≤ top
floor_within [] top laid = omega arith
floor_within (Running frame ∷ frames) top laid = omega (arith, laid.0, laid.1, laid.2)
floor_within (Looping frame ∷ frames) top laid = laid.0

below_laid : (frames : List Frame) (top : ℕ) → AreLaid frames top → AreLaid (below frames) (top_floor frames)
below_laid [] top laid = tt
below_laid (Running frame ∷ frames) top laid = laid.3
below_laid (Looping frame ∷ frames) top laid = laid.1

-- the stack without its topmost frame
abbrev left : Stack → Stack
left stack = record stack { frames = record stack.frames { items = below stack.frames.items } }

abbrev left_at : Stack → Registers → Registers
left_at stack at = resumed (below stack.frames.items) (with_top (top_floor stack.frames.items) at)

pub left_stood : (stack : Stack) (at : Registers) → IsLaid stack at
    → stood (record stack { frames = record stack.frames { items = below stack.frames.items } }) (resumed (below stack.frames.items) (with_top (top_floor stack.frames.items) at))
    ≡ below (stood stack at)
left_stood stack at laid =
    let rest = below stack.frames.items in
    let floor = top_floor stack.frames.items in
    ap (λ frames. standing frames (take (left_at stack at).top stack.values.items)) (resumed_next rest (with_top floor at))
    ∙ (ap (λ top. standing rest (take top stack.values.items)) (resumed_top rest (with_top floor at))
    ∙ (ap (λ values. standing rest values) (sym (take-take floor at.top stack.values.items (floor_within stack.frames.items at.top laid.frames)))
    ∙ below_standing at.next stack.frames.items (in_use stack at)))

pub left_laid : (stack : Stack) (at : Registers) → IsLaid stack at
    → IsLaid (record stack { frames = record stack.frames { items = below stack.frames.items } }) (resumed (below stack.frames.items) (with_top (top_floor stack.frames.items) at))
left_laid stack at laid =
    let rest = below stack.frames.items in
    let floor = top_floor stack.frames.items in
    let top = resumed_top rest (with_top floor at) in
    record {
      frames = subst (λ (end : ℕ). AreLaid rest end) (sym top) (below_laid stack.frames.items at.top laid.frames);
      base = resumed_base rest (with_top floor at);
      filled = omega (arith, laid.filled, top, floor_within stack.frames.items at.top laid.frames);
      within = laid.within;
      small = laid.small;
    }

-- ---- values that are delivered

pub pushed_delivered : (frame : RunningFrame) (next : ℕ) (frames : List Frame) (values : List Value) (value : Value)
    → pushed value (standing (at_next next (Running frame ∷ frames)) values) ≡ delivered value (standing (at_next next (Running frame ∷ frames)) values)
pushed_delivered frame next frames values value = refl

pub answered_delivered : (frame : LoopingFrame) (next : ℕ) (frames : List Frame) (values : List Value) (value : Value)
    → standing (at_next next (with_answer value (Looping frame ∷ frames))) values
    ≡ delivered value (standing (at_next next (Looping frame ∷ frames)) values)
answered_delivered frame next frames values value = refl

answered_frames : (value : Value) (frames : List Frame) (top : ℕ) → AreLaid frames top → AreLaid (with_answer value frames) top
answered_frames value [] top laid = laid
answered_frames value (Running frame ∷ frames) top laid = laid
answered_frames value (Looping frame ∷ frames) top laid = laid

answered_base : (value : Value) (frames : List Frame) (base : ℕ) → HasBase frames base → HasBase (with_answer value frames) base
answered_base value [] base is = is
answered_base value (Running frame ∷ frames) base is = is
answered_base value (Looping frame ∷ frames) base is = is

pub answered_laid : (stack : Stack) (at : Registers) (value : Value) → IsLaid stack at
    → IsLaid (record stack { frames = record stack.frames { items = with_answer value stack.frames.items } }) at
answered_laid stack at value laid = record {
  frames = answered_frames value stack.frames.items at.top laid.frames;
  base = answered_base value stack.frames.items at.base laid.base;
  filled = laid.filled;
  within = laid.within;
  small = laid.small;
}

-- ---- methods of the kernel

counted_standing : (next : ℕ) (count : ℤ) (frames : List Frame) (values : List Value)
    → standing (at_next next (with_count count frames)) values ≡ counted count (standing (at_next next frames) values)
counted_standing next count [] values = refl
counted_standing next count (Running frame ∷ frames) values = refl
counted_standing next count (Looping frame ∷ frames) values = refl

counted_frames : (count : ℤ) (frames : List Frame) (top : ℕ) → AreLaid frames top → AreLaid (with_count count frames) top
counted_frames count [] top laid = laid
counted_frames count (Running frame ∷ frames) top laid = laid
counted_frames count (Looping frame ∷ frames) top laid = laid

counted_base : (count : ℤ) (frames : List Frame) (base : ℕ) → HasBase frames base → HasBase (with_count count frames) base
counted_base count [] base is = is
counted_base count (Running frame ∷ frames) base is = is
counted_base count (Looping frame ∷ frames) base is = is

pub counted_stood : (stack : Stack) (at : Registers) (count : ℤ)
    → stood (record stack { frames = record stack.frames { items = with_count count stack.frames.items } }) at ≡ counted count (stood stack at)
counted_stood stack at count = counted_standing at.next count stack.frames.items (in_use stack at)

pub counted_laid : (stack : Stack) (at : Registers) (count : ℤ) → IsLaid stack at
    → IsLaid (record stack { frames = record stack.frames { items = with_count count stack.frames.items } }) at
counted_laid stack at count laid = record {
  frames = counted_frames count stack.frames.items at.top laid.frames;
  base = counted_base count stack.frames.items at.base laid.base;
  filled = laid.filled;
  within = laid.within;
  small = laid.small;
}

-- ---- one frame after another

drop_next : {A : Type 0} (count : ℕ) (items : List A) → below (drop count items) ≡ drop (suc count) items
drop_next zero [] = refl
drop_next zero (item ∷ items) = refl
drop_next (suc count) [] = refl
drop_next (suc count) (item ∷ items) = drop_next count items

pub drop_below : {A : Type 0} (count : ℕ) (items : List A) → below (drop count items) ≡ drop (count + 1) items
drop_below count items =
    let e : suc count ≡ count + 1 = omega arith in
    drop_next count items ∙ ap (λ number. drop number items) e

pub length_below : {A : Type 0} (items : List A) → 0 < length items → length (below items) + 1 ≡ length items
length_below [] some = absurd (omega (arith, some))
length_below (item ∷ items) some = omega arith
