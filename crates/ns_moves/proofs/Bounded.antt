-- What can be done without charging a step is bounded.
use Rattle.std.proofs.Common.{◌≡◌, ℕ, ◌+◌, ◌*◌, ◌-◌, ◌<◌, ◌≤◌, List, [], ◌∷◌, length, refl, ap, ◌∙◌, arith, Option, Some, None, slice_get}
use Rattle.std.specs.Prelude.{IsSome}
use Rattle.std.proofs.lemmas.List.{length-drop}
use Rattle.std.proofs.Math.Nat.{mul-le-mul_right, mul-le-mul_left}
use Rattle.ns_code.specs.declared.program.CodeProgram.{CodeProgram}
use Rattle.ns_code.specs.declared.body.BodyCode.{BodyCode}
use Rattle.ns_world.specs.declared.value.Value.{Value}
use Rattle.ns_world.specs.declared.value.Value.TheVariants as value
use Rattle.ns_world.specs.Heap.{Heap, heap_size}
use Rattle.ns_world.specs.Lawful.{FitsBody}
use Rattle.ns_world.specs.laws.Chains.{class_below}
use Rattle.ns_facets.specs.declared.row.Grants.{Grants}
use Rattle.ns_moves.specs.Control.{Progress, Activation}
use Rattle.ns_moves.specs.Lawful.{FitsActivation}
use Rattle.ns_moves.specs.State.{Leaving, Frame, Running, Looping, Unbegun, Going, Pends, Ended, Stuck}
use Rattle.ns_moves.specs.Steps.{PlacedInstr, steps_of}
use Rattle.ns_moves.specs.Left.{longest, weight, frame_left, frames_left}
use Rattle.ns_moves.specs.ValidFrames.{Awaited, Nothing, awaited_below, awaited_for, next_number, RunningIsValid, FramesAreValid}
use Rattle.ns_moves.specs.laws.Frames.{first_valid, others_valid}
use Rattle.ns_moves.specs.Falling.{LeftIsBounded}
use Rattle.ns_moves.proofs.Weights.{weight_up, steps_within}

-- a holder is among the cells used
fitted_below : (heap : Heap) (code : CodeProgram) (body : BodyCode) (self : Value) (holder : ℕ) → FitsBody heap code body self holder →
    holder < heap_size heap
fitted_below heap code body (value.Ref self) holder fits = class_below heap holder fits.0
fitted_below heap code body value.Nil holder fits = absurd fits
fitted_below heap code body value.True holder fits = absurd fits
fitted_below heap code body value.False holder fits = absurd fits
fitted_below heap code body (value.Int number) holder fits = absurd fits
fitted_below heap code body (value.Sym name) holder fits = absurd fits
fitted_below heap code body (value.Kernel class) holder fits = absurd fits

holder_below : (heap : Heap) (code : CodeProgram) (a : Activation) → FitsActivation heap code a → a.holder < heap_size heap
holder_below heap code a fits = of_body (slice_get code.bodies a.body) refl fits.there
  where
    of_body : (o : Option BodyCode) → slice_get code.bodies a.body ≡ o → IsSome o → a.holder < heap_size heap
    of_body None e there = absurd (cc)
    of_body (Some b) e there = fitted_below heap code b a.self a.holder (fits.fits b e)

module _ (code : CodeProgram) (p : Progress) (cells : ℕ) (few : heap_size p.world.cells ≤ cells) where
  running_bounded : (awaited : Awaited) (leaving : Leaving) (a : Activation) (ls : List Value) (rest : List PlacedInstr) (stack : List Value)
      → RunningIsValid code p awaited leaving a ls rest stack
      → frame_left (longest code.bodies) (Running leaving a ls rest stack) ≤ 1 + longest code.bodies * weight (longest code.bodies) cells
  running_bounded awaited leaving a ls rest stack here =
      let n = next_number code a.body rest in
      let cut : length rest ≡ length (steps_of code a.body) - n = ap length here.inside ∙ length-drop n (steps_of code a.body) in
      let within = steps_within code a.body here.fits.there in
      let short : length rest ≤ longest code.bodies = omega (arith, cut, within) in
      let low = holder_below p.world.cells code a here.fits in
      let up = weight_up (longest code.bodies) a.holder cells (omega (arith, low, few)) in
      let first = mul-le-mul_right (weight (longest code.bodies) a.holder) short in
      let second = mul-le-mul_left (longest code.bodies) up in
      omega (arith, first, second)

  frames_bounded : (awaited : Awaited) (frames : List Frame) → FramesAreValid code p awaited frames
      → frames_left (longest code.bodies) frames ≤ length frames * (1 + longest code.bodies * weight (longest code.bodies) cells)
  frames_bounded awaited [] valid = omega arith
  frames_bounded awaited (Running leaving a ls rest stack ∷ frames) valid =
      let one = running_bounded awaited leaving a ls rest stack (first_valid code p awaited (Running leaving a ls rest stack) frames valid) in
      let more =
      frames_bounded (awaited_below code (Running leaving a ls rest stack)) frames
      (others_valid code p awaited (Running leaving a ls rest stack) frames valid) in
      omega (arith, one, more)
  frames_bounded awaited (Looping method state site ∷ frames) valid =
      let more = frames_bounded (awaited_below code (Looping method state site)) frames (others_valid code p awaited (Looping method state site) frames valid) in
      omega (arith, more)

  -- as many frames as the depth allows
  pub all_bounded : (depth : ℕ) (awaited : Awaited) (frames : List Frame) → length frames ≤ depth → FramesAreValid code p awaited frames
      → frames_left (longest code.bodies) frames ≤ depth * (1 + longest code.bodies * weight (longest code.bodies) cells)
  all_bounded depth awaited frames deep valid =
      let own = frames_bounded awaited frames valid in
      let m = mul-le-mul_right (1 + longest code.bodies * weight (longest code.bodies) cells) deep in
      omega (arith, own, m)

pub left_bounded : (code : CodeProgram) (grants : Grants) → LeftIsBounded code grants
left_bounded code grants (Unbegun arguments p) valid = omega arith
left_bounded code grants (Ended ending phase p) valid = omega arith
left_bounded code grants (Stuck p) valid = omega arith
left_bounded code grants (Going phase frames p) valid =
    let within = valid.0.world.lawful.within in
    let deep : length frames ≤ p.world.limits.depth = omega (arith, valid.0.depth, within.depth) in
    let bound = all_bounded code p p.world.limits.cells within.cells p.world.limits.depth Nothing frames deep valid.2 in
    omega (arith, bound)
left_bounded code grants (Pends phase pending frames p) valid =
    let within = valid.0.world.lawful.within in
    let deep : length frames ≤ p.world.limits.depth = omega (arith, valid.0.depth, within.depth) in
    let bound = all_bounded code p p.world.limits.cells within.cells p.world.limits.depth (awaited_for pending) frames deep valid.2 in
    omega (arith, bound)
