-- Two to that power is more than all that a run within its limits can do.
use Rattle.std.proofs.Common.{◌≡◌, ℕ, zero, suc, ◌+◌, ◌*◌, ◌-◌, ◌^◌, ◌≤◌, sym, ap, ◌∙◌, arith}
use Rattle.std.proofs.lemmas.Nat.{pow-add, mul-le}
use Rattle.std.proofs.Math.Nat.{mul-suc, mul-zero, suc-mul, mul-le-mul_right}
use Rattle.ns_code.specs.declared.program.CodeProgram.{CodeProgram}
use Rattle.ns_moves.specs.Falling.{most_left, power_left, run_left}
use Rattle.ns_moves.specs.Left.{longest, weight, left}
use Rattle.ns_moves.specs.State.{State, world_of}
use Rattle.ns_moves.specs.lemmas.Powers.{pow_more}

-- a number is below its power of two
below_pow : (n : ℕ) → n + 1 ≤ 2 ^ n
below_pow zero = omega arith
below_pow (suc n) = let e = pow_more n in let h = below_pow n in omega (arith, e, h)

-- ---- weights

weight_pos : (most holder : ℕ) → 1 ≤ weight most holder
weight_pos most zero = omega arith
weight_pos most (suc holder) = omega arith

two_more : (most w : ℕ) → 1 ≤ w → 2 + most * w ≤ suc (suc most) * w
two_more most w some = let e = suc-mul (suc most) w in let f = suc-mul most w in omega (arith, e, f, some)

weight_below : (most holder : ℕ) → weight most holder ≤ 2 ^ (suc (suc most) * holder)
weight_below most zero = let none = ap (λ n. 2 ^ n) (mul-zero (suc (suc most))) in omega (arith, none)
weight_below most (suc holder) =
    let w = weight most holder in
    let few : suc (suc most) ≤ 2 ^ suc (suc most) = omega (arith, below_pow (suc (suc most))) in
    let both = mul-le (suc (suc most)) w (2 ^ suc (suc most)) (2 ^ (suc (suc most) * holder)) few (weight_below most holder) in
    let more = two_more most w (weight_pos most holder) in
    let times : suc (suc most) * suc holder ≡ suc (suc most) + suc (suc most) * holder = omega (arith, mul-suc (suc (suc most)) holder) in
    let same = ap (λ n. 2 ^ n) times ∙ pow-add 2 (suc (suc most)) (suc (suc most) * holder) in
    omega (arith, both, more, same)

-- ---- all that a run can do

module _ (longest steps used cells depth left : ℕ) where
  abbrev one_frame : ℕ
  one_frame = 1 + longest * weight longest cells

  abbrev most : ℕ
  most = 2 + depth * one_frame

  frame_below : one_frame ≤ 2 ^ longest * 2 ^ (suc (suc longest) * cells)
  frame_below =
      let w = weight longest cells in
      let some = weight_pos longest cells in
      let all : suc longest * w ≡ longest * w + w = suc-mul longest w in
      let few : suc longest ≤ 2 ^ longest = omega (arith, below_pow longest) in
      let both = mul-le (suc longest) w (2 ^ longest) (2 ^ (suc (suc longest) * cells)) few (weight_below longest cells) in
      omega (arith, some, all, both)

  most_below : 1 + most ≤ 2 ^ (depth + 2) * (2 ^ longest * 2 ^ (suc (suc longest) * cells))
  most_below =
      let few : suc (suc (suc depth)) ≤ 2 ^ (depth + 2) = omega (arith, below_pow (depth + 2)) in
      let both = mul-le (suc (suc (suc depth))) one_frame (2 ^ (depth + 2)) (2 ^ longest * 2 ^ (suc (suc longest) * cells)) few frame_below in
      let third = suc-mul (suc (suc depth)) one_frame in
      let second = suc-mul (suc depth) one_frame in
      let first = suc-mul depth one_frame in
      omega (arith, both, third, second, first)

  sum_is : steps + ((depth + 2) + (longest + suc (suc longest) * cells)) ≡ steps + depth + (2 + longest) * (cells + 1)
  sum_is =
      let e : (2 + longest) * (cells + 1) ≡ suc (suc longest) * suc cells
      = ap (λ n. n * (cells + 1)) (omega arith) ∙ ap (λ n. suc (suc longest) * n) (omega arith) in
      let f = mul-suc (suc (suc longest)) cells in
      omega (arith, e, f)

  product_is : 2 ^ steps * (2 ^ (depth + 2) * (2 ^ longest * 2 ^ (suc (suc longest) * cells))) ≡ 2 ^ (steps + depth + (2 + longest) * (cells + 1))
  product_is =
      ap (λ n. 2 ^ steps * (2 ^ (depth + 2) * n)) (sym (pow-add 2 longest (suc (suc longest) * cells)))
      ∙ (ap (λ n. 2 ^ steps * n) (sym (pow-add 2 (depth + 2) (longest + suc (suc longest) * cells)))
      ∙ (sym (pow-add 2 steps ((depth + 2) + (longest + suc (suc longest) * cells))) ∙ ap (λ n. 2 ^ n) sum_is))

  all_below : left ≤ most → (steps - used) * (1 + most) + left + 1 ≤ 2 ^ (steps + depth + (2 + longest) * (cells + 1))
  all_below few =
      let fewer : steps - used ≤ steps = omega arith in
      let less = mul-le-mul_right {m = steps - used} {n = steps} (1 + most) fewer in
      let all : suc steps * (1 + most) ≡ steps * (1 + most) + (1 + most) = suc-mul steps (1 + most) in
      let some : suc steps ≤ 2 ^ steps = omega (arith, below_pow steps) in
      let both = mul-le (suc steps) (1 + most) (2 ^ steps) (2 ^ (depth + 2) * (2 ^ longest * 2 ^ (suc (suc longest) * cells))) some most_below in
      let product = product_is in
      omega (arith, few, less, all, both, product)

pub below_power : (code : CodeProgram) (s : State) → left code s ≤ most_left code (world_of s).limits
    → run_left code s + 1 ≤ 2 ^ power_left code (world_of s).limits
below_power code s few =
    all_below (longest code.bodies) (world_of s).limits.steps (world_of s).steps (world_of s).limits.cells (world_of s).limits.depth (left code s) few
