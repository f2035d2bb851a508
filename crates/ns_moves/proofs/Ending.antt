-- Each move lowers one number.
use Rattle.std.proofs.Common.{◌≡◌, inl, inr, suc, ◌+◌, ◌-◌, ◌*◌, ◌<◌, ◌≤◌, refl, ap, subst, arith, Bool, true, false}
use Rattle.std.proofs.Math.Nat.{mul-le-mul_right}
use Rattle.ns_base.specs.declared.limits.Limits.{Limits}
use Rattle.ns_code.specs.declared.program.CodeProgram.{CodeProgram}
use Rattle.ns_facets.specs.declared.row.Grants.{Grants}
use Rattle.ns_moves.specs.Control.{Progress}
use Rattle.ns_moves.specs.State.{State, Unbegun, Going, Pends, Ended, Stuck, progress_of, world_of}
use Rattle.ns_moves.specs.Move.{move}
use Rattle.ns_moves.specs.Turn.{is_still}
use Rattle.ns_moves.specs.Charging.{will_charge}
use Rattle.ns_moves.specs.Charges.{MoveTook, TakesAsTold}
use Rattle.ns_moves.specs.MovesOnward.{MovesGoOnward}
use Rattle.ns_moves.specs.Standing.{MovesKeepValid}
use Rattle.ns_moves.specs.Valid.{Valid}
use Rattle.ns_moves.specs.Left.{left}
use Rattle.ns_moves.specs.Falling.{FreeMovesLower, most_left, LeftIsBounded, run_left, MovesLower}
use Rattle.ns_moves.specs.laws.Still.{limited_still, can_move}

-- ---- what is known of states

still_left : (code : CodeProgram) (s : State) → is_still s ≡ true → left code s ≡ 0
still_left code (Unbegun arguments p) e = refl
still_left code (Ended ending phase p) e = refl
still_left code (Stuck p) e = refl
still_left code (Going phase frames p) e = absurd (cc)
still_left code (Pends phase pending frames p) e = absurd (cc)

some_left : (code : CodeProgram) (s : State) → is_still s ≡ false → 1 ≤ left code s
some_left code (Unbegun arguments p) e = absurd (cc)
some_left code (Ended ending phase p) e = absurd (cc)
some_left code (Stuck p) e = absurd (cc)
some_left code (Going phase frames p) e = omega arith
some_left code (Pends phase pending frames p) e = omega arith

within_steps : (code : CodeProgram) (grants : Grants) (s : State) → Valid code grants s → is_still s ≡ false →
    (world_of s).steps ≤ (world_of s).limits.steps
within_steps code grants (Unbegun arguments p) valid e = absurd (cc)
within_steps code grants (Ended ending phase p) valid e = absurd (cc)
within_steps code grants (Stuck p) valid e = absurd (cc)
within_steps code grants (Going phase frames p) valid e = valid.0.world.lawful.within.steps
within_steps code grants (Pends phase pending frames p) valid e = valid.0.world.lawful.within.steps

-- ---- moves

pub record Known (code : CodeProgram) (grants : Grants) : Type 0 where
  pub told : TakesAsTold code
  pub onward : MovesGoOnward code
  pub keeps : MovesKeepValid code grants
  pub lower : FreeMovesLower code grants
  pub bounded : LeftIsBounded code grants

pub lowered : (code : CodeProgram) (grants : Grants) → Known code grants → MovesLower code grants
lowered code grants known state valid still =
    tested (will_charge code state) refl (known.told state still (can_move code grants known.keeps state valid))
  where
    after : State
    after = move code state

    valid_after : Valid code grants after
    valid_after = known.keeps 1 state valid

    limits : (world_of after).limits ≡ (world_of state).limits
    limits = (known.onward 1 state).later.limits

    -- how many steps are left after a move, at the limits before it
    at_limits : run_left code after
        ≡ ((world_of state).limits.steps - (world_of after).steps) * (1 + most_left code (world_of state).limits) + left code after
    at_limits = ap (λ (l : Limits). (l.steps - (world_of after).steps) * (1 + most_left code l) + left code after) limits

    most_after : left code after ≤ most_left code (world_of state).limits
    most_after = subst (λ (l : Limits). left code after ≤ most_left code l) limits (known.bounded after valid_after)

    -- as many steps are left
    same_steps : (world_of after).steps ≡ (world_of state).steps → left code after < left code state → run_left code after < run_left code state
    same_steps same less =
        let at = at_limits in
        let e = ap (λ n. ((world_of state).limits.steps - n) * (1 + most_left code (world_of state).limits)) same in
        omega (arith, at, e, less)

    fewer_steps : (b : Bool) → is_still after ≡ b → (world_of after).steps ≡ (world_of state).steps + 1 → run_left code after < run_left code state
    fewer_steps true e one =
        let none = still_left code after e in
        let some = some_left code state still in
        let few : (world_of state).limits.steps - (world_of after).steps ≤ (world_of state).limits.steps - (world_of state).steps = omega (arith, one) in
        let m = mul-le-mul_right (1 + most_left code (world_of state).limits) few in
        let at = at_limits in
        omega (arith, none, some, m, at)
    fewer_steps false e one =
        let most = most_after in
        let within = subst (λ (l : Limits). (world_of after).steps ≤ l.steps) limits (within_steps code grants after valid_after e) in
        let less : (world_of state).limits.steps - (world_of state).steps ≡ suc ((world_of state).limits.steps - (world_of after).steps) =
        omega (arith, one, within) in
        let m = ap (λ n. n * (1 + most_left code (world_of state).limits)) less in
        let at = at_limits in
        omega (arith, most, m, at)

    tested : (b : Bool) → will_charge code state ≡ b → MoveTook b (progress_of state) after → run_left code after < run_left code state
    tested true e (inl one) = fewer_steps (is_still after) refl one
    tested true e (inr none) =
        let rests = still_left code after (limited_still after none.ended) in
        let some = some_left code state still in
        same_steps (ap (λ (p : Progress). p.world.steps) none.same) (omega (arith, rests, some))
    tested false e took = same_steps took.steps (known.lower state valid still e)
