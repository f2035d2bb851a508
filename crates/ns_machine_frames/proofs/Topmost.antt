-- The last of a list, which is the first of it reversed.
use Rattle.std.proofs.Common.{◌≡◌, ℕ, ℤ, ◌+◌, ◌-◌, ◌<◌, List, [], ◌∷◌, length, get_or, set, reverse, ap, sym, ◌∙◌, refl, arith}
use Rattle.std.proofs.lemmas.List.{get_or-reverse, set_at, reverse-append, reverse-reverse, length-reverse}
use Rattle.ns_world.specs.declared.value.Value.{Value}
use Rattle.ns_moves.specs.Blocks.{waiting}
use Rattle.ns_machine_frames.specs.declared.frame.Frame.{Frame}
use Rattle.ns_machine_frames.specs.declared.frame.Frame.TheVariants.{Running, Looping}
use Rattle.ns_machine_frames.specs.declared.frame.RunningFrame.{RunningFrame}
use Rattle.ns_machine_frames.specs.declared.frame.LoopingFrame.{LoopingFrame}
use Rattle.ns_machine_frames.specs.Standing.{below, with_next, at_next}
use Rattle.ns_machine_frames.specs.Leaving.{answered, with_answer, with_count}

-- in a list that is written backwards
behind_set : {A : Type 0} (items : List A) (last : ℕ) (item : A) → last + 1 ≡ length items →
    reverse (set (reverse items) last item) ≡ item ∷ below items
behind_set [] last item e = absurd (omega (arith, e))
behind_set (first ∷ items) last item e =
    let at : length (reverse items) ≡ last = length-reverse items ∙ omega (arith, e) in
    ap (λ all. reverse (set all last item)) (reverse-append (first ∷ []) items)
    ∙ (ap reverse (set_at (reverse items) first [] item last at)
    ∙ (reverse-append (reverse items) (item ∷ []) ∙ ap (λ rest. item ∷ rest) (reverse-reverse items)))

-- a write to the last one
pub topmost_set : {A : Type 0} (items : List A) (item : A) → 0 < length items →
    reverse (set items (length items - 1) item) ≡ item ∷ below (reverse items)
topmost_set items item some =
    let at : (length items - 1) + 1 ≡ length (reverse items) = omega (arith, some, length-reverse items) in
    ap (λ all. reverse (set all (length items - 1) item)) (sym (reverse-reverse items)) ∙ behind_set (reverse items) (length items - 1) item at

-- a list that begins
first_is : {A : Type 0} (items : List A) (other : A) → 0 < length items → items ≡ get_or items 0 other ∷ below items
first_is [] other some = absurd (omega (arith, some))
first_is (item ∷ items) other some = refl

-- a read of the last one
pub topmost_is : {A : Type 0} (items : List A) (other : A) → 0 < length items →
    reverse items ≡ get_or items (length items - 1) other ∷ below (reverse items)
topmost_is items other some =
    let place : length items - 1 - 0 ≡ length items - 1 = omega arith in
    first_is (reverse items) other (omega (arith, some, length-reverse items))
    ∙ ap (λ item. item ∷ below (reverse items)) (get_or-reverse items 0 other some ∙ ap (λ last. get_or items last other) place)

-- ---- a part of the last frame that is written

-- what stands in the frames where the last one is known
module _ (items : List Frame) (other : Frame) (some : 0 < length items) where
  pub next_written : (next : ℕ) (running : RunningFrame) → get_or items (length items - 1) other ≡ Running running
      → reverse (set items (length items - 1) (Running (record running { next = next }))) ≡ at_next next (reverse items)
  next_written next running is =
      topmost_set items (Running (record running { next = next })) some
      ∙ sym (ap (at_next next) (topmost_is items other some) ∙ ap (λ frame. with_next next frame ∷ below (reverse items)) is)

  pub next_spared : (next : ℕ) (looping : LoopingFrame) → get_or items (length items - 1) other ≡ Looping looping
      → reverse (set items (length items - 1) (get_or items (length items - 1) other)) ≡ at_next next (reverse items)
  next_spared next looping is =
      topmost_set items (get_or items (length items - 1) other) some
      ∙ (ap (λ frame. frame ∷ below (reverse items)) is ∙ sym (ap (at_next next) (topmost_is items other some) ∙ ap (λ frame. with_next next frame ∷ below (reverse items)) is))

  pub answer_written : (value : Value) (looping : LoopingFrame) → get_or items (length items - 1) other ≡ Looping looping
      → reverse (set items (length items - 1) (Looping (record looping { state = answered value looping.state }))) ≡ with_answer value (reverse items)
  answer_written value looping is =
      topmost_set items (Looping (record looping { state = answered value looping.state })) some
      ∙ sym (ap (with_answer value) (topmost_is items other some) ∙ ap (λ frame. with_answer value (frame ∷ below (reverse items))) is)

  pub answer_spared : (value : Value) (running : RunningFrame) → get_or items (length items - 1) other ≡ Running running
      → reverse (set items (length items - 1) (get_or items (length items - 1) other)) ≡ with_answer value (reverse items)
  answer_spared value running is =
      topmost_set items (get_or items (length items - 1) other) some
      ∙ (ap (λ frame. frame ∷ below (reverse items)) is
      ∙ sym (ap (with_answer value) (topmost_is items other some) ∙ ap (λ frame. with_answer value (frame ∷ below (reverse items))) is))

  pub count_written : (count : ℤ) (looping : LoopingFrame) → get_or items (length items - 1) other ≡ Looping looping
      → reverse (set items (length items - 1) (Looping (record looping { state = waiting looping.state count }))) ≡ with_count count (reverse items)
  count_written count looping is =
      topmost_set items (Looping (record looping { state = waiting looping.state count })) some
      ∙ sym (ap (with_count count) (topmost_is items other some) ∙ ap (λ frame. with_count count (frame ∷ below (reverse items))) is)

  pub count_spared : (count : ℤ) (running : RunningFrame) → get_or items (length items - 1) other ≡ Running running
      → reverse (set items (length items - 1) (get_or items (length items - 1) other)) ≡ with_count count (reverse items)
  count_spared count running is =
      topmost_set items (get_or items (length items - 1) other) some
      ∙ (ap (λ frame. frame ∷ below (reverse items)) is
      ∙ sym (ap (with_count count) (topmost_is items other some) ∙ ap (λ frame. with_count count (frame ∷ below (reverse items))) is))
