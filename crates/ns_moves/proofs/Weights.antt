-- Weights of instructions, and how many of them bodies have.
use Rattle.std.proofs.Common.{◌≡◌, ℕ, zero, suc, ◌+◌, ◌*◌, ◌<◌, ◌≤◌, List, [], ◌∷◌, length, max, refl, sym, subst, arith, eqb}
use Rattle.std.proofs.Common.{Option, Some, None, Bool, true, false, slice_get}
use Rattle.std.specs.Prelude.{IsSome}
use Rattle.std.specs.Option.{option_map_or}
use Rattle.std.proofs.lemmas.Bool.{eqb-true, eqb-false}
use Rattle.std.proofs.Math.Nat.{le-max_left, le-max_right, mul-le-mul_right}
use Rattle.ns_code.specs.declared.program.CodeProgram.{CodeProgram}
use Rattle.ns_code.specs.declared.body.BodyCode.{BodyCode}
use Rattle.ns_code.specs.declared.instruction.Instr.TheVariants.{ReturnSelf}
use Rattle.ns_moves.specs.Steps.{placed, steps_of}
use Rattle.ns_moves.specs.Left.{longest, weight}
use Rattle.ns_moves.specs.laws.Steps.{placed_length}

-- ---- weights

pub weight_some : (most holder : ℕ) → 1 ≤ weight most holder
weight_some most zero = omega arith
weight_some most (suc holder) = omega arith

-- all instructions of a body of an earlier class weigh less than one of a later class
pub weighs_more : (most many over holder : ℕ) → 1 ≤ most → many ≤ most → over < holder → 2 + many * weight most over ≤ weight most holder
weighs_more most many over zero some few below = absurd (omega (arith, below))
weighs_more most many over (suc holder) some few below =
    tested (eqb over holder) refl (λ earlier. weighs_more most many over holder some few earlier)
  where
    tested : (b : Bool) → eqb over holder ≡ b → (over < holder → 2 + many * weight most over ≤ weight most holder)
        → 2 + many * weight most over ≤ 2 + most * weight most holder
    tested true e before =
        let m = mul-le-mul_right (weight most holder) few in
        subst (λ k. 2 + many * weight most k ≤ 2 + most * weight most holder) (sym (eqb-true over holder e)) (omega (arith, m))
    tested false e before =
        let apart = eqb-false over holder e in
        let earlier = before (omega (arith, apart, below)) in
        let m = mul-le-mul_right (weight most holder) some in
        omega (arith, earlier, m)

-- fewer instructions of one class weigh less
pub weigh_less : (w many more : ℕ) → 1 ≤ w → many ≤ more → many * w < suc more * w
weigh_less w many more some few = let m = mul-le-mul_right w few in omega (arith, m, some)

-- later classes weigh no less
weight_next : (most holder : ℕ) → weight most holder ≤ weight most (suc holder)
weight_next zero zero = omega arith
weight_next zero (suc holder) = omega arith
weight_next (suc most) holder = let m = mul-le-mul_right {m = 1} {n = suc most} (weight (suc most) holder) (omega arith) in omega (arith, m)

pub weight_up : (most holder later : ℕ) → holder ≤ later → weight most holder ≤ weight most later
weight_up most holder zero up = let same : holder ≡ zero = omega (arith, up) in subst (λ k. weight most holder ≤ weight most k) same (omega arith)
weight_up most holder (suc later) up = tested (eqb holder (suc later)) refl (λ earlier. weight_up most holder later earlier)
  where
    tested : (b : Bool) → eqb holder (suc later) ≡ b → (holder ≤ later → weight most holder ≤ weight most later)
        → weight most holder ≤ weight most (suc later)
    tested true e before = subst (λ k. weight most holder ≤ weight most k) (eqb-true holder (suc later) e) (omega arith)
    tested false e before =
        let apart = eqb-false holder (suc later) e in
        let low = before (omega (arith, apart, up)) in
        let next = weight_next most later in
        omega (arith, low, next)

-- ---- bodies

pub within_longest : (bodies : List BodyCode) (k : ℕ) (b : BodyCode) → slice_get bodies k ≡ Some b → length b.instrs ≤ longest bodies
within_longest [] k b e = absurd (cc)
within_longest (body ∷ bodies) zero b e =
    let same : body ≡ b = cc in
    subst (λ (c : BodyCode). length c.instrs ≤ max (length body.instrs) (longest bodies)) same (le-max_left (length body.instrs) (longest bodies))
within_longest (body ∷ bodies) (suc k) b e =
    let rest = within_longest bodies k b e in
    let m = le-max_right (length body.instrs) (longest bodies) in
    omega (arith, rest, m)

pub steps_few : (code : CodeProgram) (body : ℕ) → 1 ≤ longest code.bodies → length (steps_of code body) ≤ longest code.bodies
steps_few code body some = of_body (slice_get code.bodies body) refl
  where
    of_body : (o : Option BodyCode) → slice_get code.bodies body ≡ o
        → length (option_map_or (λ (b : BodyCode). placed b.places 0 b.instrs) o ((ReturnSelf, None) ∷ [])) ≤ longest code.bodies
    of_body None e = omega (arith, some)
    of_body (Some b) e = let n = placed_length b.places 0 b.instrs in let few = within_longest code.bodies body b e in omega (arith, n, few)

pub steps_within : (code : CodeProgram) (body : ℕ) → IsSome (slice_get code.bodies body) → length (steps_of code body) ≤ longest code.bodies
steps_within code body there = of_body (slice_get code.bodies body) refl there
  where
    of_body : (o : Option BodyCode) → slice_get code.bodies body ≡ o → IsSome o
        → length (option_map_or (λ (b : BodyCode). placed b.places 0 b.instrs) o ((ReturnSelf, None) ∷ [])) ≤ longest code.bodies
    of_body None e some = absurd (cc)
    of_body (Some b) e some = let n = placed_length b.places 0 b.instrs in let few = within_longest code.bodies body b e in omega (arith, n, few)
