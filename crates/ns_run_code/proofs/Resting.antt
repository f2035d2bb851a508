-- A run comes to rest: each of its moves lowers what is left to be done, and more moves are made than that.
use Rattle.std.proofs.Common.{◌≡◌, ℕ, zero, suc, ◌+◌, ◌^◌, ◌≤◌, ◌⊎◌, inl, inr, refl, sym, ap, subst, ◌∙◌, arith, Bool, true, false}
use Rattle.ns_code.specs.declared.program.CodeProgram.{CodeProgram}
use Rattle.ns_facets.specs.declared.row.Grants.{Grants}
use Rattle.ns_moves.specs.Falling.{LeftIsBelowPower, MovesLower, power_left, run_left}
use Rattle.ns_moves.specs.StatedMoves.{MovesAdd, StaysStill}
use Rattle.ns_moves.specs.Move.{move, moves}
use Rattle.ns_moves.specs.Standing.{MovesKeepValid}
use Rattle.ns_moves.specs.State.{State, world_of}
use Rattle.ns_moves.specs.Turn.{is_still}
use Rattle.ns_moves.specs.Valid.{Valid}
use Rattle.ns_moves.specs.Doubling.{times, until}
use Rattle.ns_moves.specs.laws.Doubling.{leads}
use Rattle.ns_run_code.specs.Machine.{rested}
use Rattle.ns_run_code.specs.Resting.{ValidComesToRest, MovesKeepRest, StillIsRested}

-- What is known of moves.
pub record Known (code : CodeProgram) (grants : Grants) : Type 0 where
  pub add : (s : State) → MovesAdd code s
  pub stay : (s : State) → StaysStill code s
  pub keeps : MovesKeepValid code grants
  pub lower : MovesLower code grants
  pub below : LeftIsBelowPower code grants

-- moves are a step, so many times
times_are : (code : CodeProgram) (count : ℕ) (s : State) → times (move code) count s ≡ moves code count s
times_are code zero s = refl
times_are code (suc count) s = times_are code count (move code s)

-- Moves lead from one state to another, which is still unless so many were made.
record CameToRest (code : CodeProgram) (power : ℕ) (state rest : State) : Type 0 where
  count : ℕ
  is : moves code count state ≡ rest
  stops : (is_still rest ≡ true) ⊎ (2 ^ power ≤ count + 1)

came_to_rest : (code : CodeProgram) (power : ℕ) (s : State) → CameToRest code power s (until is_still (move code) 0 power s)
came_to_rest code power s =
    let led = leads is_still (move code) 0 power s in
    record { count = led.count; is = sym (times_are code led.count s) ∙ led.is; stops = by led.count _ led.done }
  where
    by : (count : ℕ) (rest : State) → (is_still rest ≡ true) ⊎ (2 ^ (0 + power) ≤ count + 2 ^ 0) → (is_still rest ≡ true) ⊎ (2 ^ power ≤ count + 1)
    by count rest (inl still) = inl still
    by count rest (inr many) =
        let none : 0 + power ≡ power = omega arith in
        let same = ap (λ n. 2 ^ n) none in
        inr (omega (arith, many, same))

-- moves to two states that are still lead to one
pub one_rest : (code : CodeProgram) → ((s : State) → MovesAdd code s) → ((s : State) → StaysStill code s) →
    (first second : ℕ) (s one other : State)
    → moves code first s ≡ one → moves code second s ≡ other → is_still one ≡ true → is_still other ≡ true → one ≡ other
one_rest code add stay first second s one other e f still quiet =
    let swap : first + second ≡ second + first = omega arith in
    sym (stay one second still)
    ∙ (ap (moves code second) (sym e)
    ∙ (sym (add s first second)
    ∙ (ap (λ n. moves code n s) swap ∙ (add s second first ∙ (ap (moves code first) f ∙ stay other first quiet)))))

module _ (code : CodeProgram) (grants : Grants) (known : Known code grants) where
  -- a run that moves on did so before
  was_on : (count : ℕ) (s : State) → is_still (moves code count s) ≡ false → is_still s ≡ false
  was_on count s on = by_still (is_still s) refl
    where
      by_still : (b : Bool) → is_still s ≡ b → b ≡ false
      by_still false e = refl
      by_still true e = absurd (let same = ap is_still (known.stay s count e) in cc)

  -- as long as a run moves on, each move lowers what is left
  lowered : (count : ℕ) (s : State) → Valid code grants s → is_still (moves code count s) ≡ false
      → run_left code (moves code count s) + count ≤ run_left code s
  lowered zero s valid on = omega arith
  lowered (suc count) s valid on =
      let rest = lowered count (move code s) (known.keeps 1 s valid) on in
      let first = known.lower s valid (was_on (suc count) s on) in
      omega (arith, rest, first)

  -- so only so many are made
  few_moves : (count : ℕ) (s rest : State) → Valid code grants s → moves code count s ≡ rest → is_still rest ≡ false → count + 1 ≤ run_left code s
  few_moves count s rest valid is on =
      let going = ap is_still is ∙ on in
      let all = lowered count s valid going in
      let some = known.lower (moves code count s) (known.keeps count s valid) going in
      omega (arith, all, some)

  still_after : (s : State) → Valid code grants s → is_still (moves code (run_left code s) s) ≡ true
  still_after s valid = by_still (is_still (moves code (run_left code s) s)) refl
    where
      by_still : (b : Bool) → is_still (moves code (run_left code s) s) ≡ b → b ≡ true
      by_still true e = refl
      by_still false e =
          let few = few_moves (run_left code s) s (moves code (run_left code s) s) valid refl e in
          absurd (omega (arith, few))

  still_rested : (s : State) → Valid code grants s → is_still (rested code s) ≡ true
  still_rested s valid =
      let came = came_to_rest code (power_left code (world_of s).limits) s in
      by_still (is_still (rested code s)) refl came
    where
      stopped : (count : ℕ) → count + 1 ≤ run_left code s
          → (is_still (rested code s) ≡ true) ⊎ (2 ^ power_left code (world_of s).limits ≤ count + 1) → is_still (rested code s) ≡ true
      stopped count few (inl still) = still
      stopped count few (inr many) = let most = known.below s valid in absurd (omega (arith, few, many, most))

      by_still : (b : Bool) → is_still (rested code s) ≡ b → CameToRest code (power_left code (world_of s).limits) s (rested code s)
          → is_still (rested code s) ≡ true
      by_still true e came = e
      by_still false e came = stopped came.count (few_moves came.count s (rested code s) valid came.is e) came.stops

  -- a run comes to rest, and there it is after as many moves as are left to it
  pub rests : ValidComesToRest code grants
  rests s valid =
      let came = came_to_rest code (power_left code (world_of s).limits) s in
      let still = still_rested s valid in
      record {
        still = still;
        valid = subst (Valid code grants) came.is (known.keeps came.count s valid);
        moved = one_rest code known.add known.stay (run_left code s) came.count s _ _ refl came.is (still_after s valid) still;
      }

  -- moves don't change where it comes to rest
  pub rest_stays : MovesKeepRest code grants
  rest_stays count s valid =
      let later = rests (moves code count s) (known.keeps count s valid) in
      let here = rests s valid in
      let left = run_left code (moves code count s) in
      one_rest code known.add known.stay (count + left) (run_left code s) s (rested code (moves code count s)) (rested code s)
      (known.add s count left ∙ later.moved) here.moved later.still here.still

  -- a state that moves no more is where it comes to rest
  pub still_rests : StillIsRested code grants
  still_rests s valid still = sym ((rests s valid).moved) ∙ known.stay s (run_left code s) still
