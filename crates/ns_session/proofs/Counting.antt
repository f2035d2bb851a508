-- The steps that moves charge are the steps that the run has used, and one where none was left.
use Rattle.std.proofs.Common.{◌≡◌, ℕ, zero, suc, ◌+◌, ◌-◌, ◌≤◌, refl, ap, sym, subst, inl, inr, arith, Bool, true, false, if◌then◌else◌}
use Rattle.ns_code.specs.declared.program.CodeProgram.{CodeProgram}
use Rattle.ns_facets.specs.declared.row.Grants.{Grants}
use Rattle.ns_moves.specs.Control.{Progress}
use Rattle.ns_moves.specs.State.{State, progress_of, world_of}
use Rattle.ns_moves.specs.Move.{move, moves}
use Rattle.ns_moves.specs.Turn.{is_still, ends_with_steps, charges, one_if, charged_in, Turns}
use Rattle.ns_moves.specs.Charging.{will_charge}
use Rattle.ns_moves.specs.Charges.{MoveTook, TakesAsTold, ChargesAsTold}
use Rattle.ns_moves.specs.StatedMoves.{StaysStill}
use Rattle.ns_moves.specs.Standing.{MovesKeepValid}
use Rattle.ns_moves.specs.Valid.{Valid}
use Rattle.ns_moves.specs.laws.Still.{limited_still, moves_on, none_charged, can_move}
use Rattle.ns_session.specs.Member.{taken}

-- ---- states

goes_before : (still charged : Bool) → (if still then false else charged) ≡ true → still ≡ false
goes_before true charged e = absurd (cc)
goes_before false charged e = refl

-- a run whose next move charges goes on
pub charges_going : (code : CodeProgram) (s : State) → charges code s ≡ true → is_still s ≡ false
charges_going code s e = goes_before (is_still s) _ e

-- ---- counting

-- the steps that a run has used
abbrev pub used : State → ℕ
used s = (world_of s).steps

-- All steps that were used were charged, and no more were charged than were taken.
pub record Counted (code : CodeProgram) (count : ℕ) (old new : State) : Type 0 where
  pub least : used new ≤ charged_in code count old + used old
  pub most : charged_in code count old + used old ≤ taken new

-- what is known of moves
pub record Known (code : CodeProgram) (grants : Grants) : Type 0 where
  pub took : TakesAsTold code
  pub test : ChargesAsTold code
  pub stay : (s : State) → StaysStill code s
  pub keeps : MovesKeepValid code grants

module _ (code : CodeProgram) (grants : Grants) (known : Known code grants) where
  rests : (count : ℕ) (s : State) → is_still s ≡ true → Counted code count s (moves code count s)
  rests count s still =
      let none = none_charged code count s still in
      let least : used s ≤ charged_in code count s + used s = omega arith in
      let most : charged_in code count s + used s ≤ taken s = omega (arith, none) in
      subst (λ (t : State). Counted code count s t) (sym (known.stay s count still)) (record { least = least; most = most })

  step_more : (b : Bool) (count : ℕ) (s : State) → charges code s ≡ b → one_if b 0 + used s ≡ used (move code s)
      → Counted code count (move code s) (moves code count (move code s)) → Counted code (suc count) s (moves code count (move code s))
  step_more true count s e one c =
      let charged : charged_in code (suc count) s ≡ suc (charged_in code count (move code s)) = ap (λ b. one_if b (charged_in code count (move code s))) e in
      let least = c.least in
      let most = c.most in
      record { least = omega (arith, charged, one, least); most = omega (arith, charged, one, most) }
  step_more false count s e one c =
      let charged : charged_in code (suc count) s ≡ charged_in code count (move code s) = ap (λ b. one_if b (charged_in code count (move code s))) e in
      let least = c.least in
      let most = c.most in
      record { least = omega (arith, charged, one, least); most = omega (arith, charged, one, most) }

  none_left : (count : ℕ) (s : State) → charges code s ≡ true → ends_with_steps (move code s) ≡ true → used (move code s) ≡ used s
      → Counted code (suc count) s (moves code count (move code s))
  none_left count s e ends same =
      let still = limited_still (move code s) ends in
      let none = none_charged code count (move code s) still in
      let charged : charged_in code (suc count) s ≡ suc (charged_in code count (move code s)) = ap (λ b. one_if b (charged_in code count (move code s))) e in
      let one : taken (move code s) ≡ used (move code s) + 1 = ap (λ b. used (move code s) + one_if b 0) ends in
      let least : used (move code s) ≤ charged_in code (suc count) s + used s = omega (arith, same) in
      let most : charged_in code (suc count) s + used s ≤ taken (move code s) = omega (arith, charged, none, one, same) in
      subst (λ (t : State). Counted code (suc count) s t) (sym (known.stay (move code s) count still)) (record { least = least; most = most })

  took_on : (b : Bool) (count : ℕ) (s : State) → charges code s ≡ b → MoveTook b (progress_of s) (move code s)
      → Counted code count (move code s) (moves code count (move code s)) → Counted code (suc count) s (moves code count (move code s))
  took_on true count s e (inl one) c = step_more true count s e (omega (arith, one)) c
  took_on true count s e (inr none) c = none_left count s e none.ended (ap (λ (p : Progress). p.world.steps) none.same)
  took_on false count s e took c = let same = took.steps in step_more false count s e (omega (arith, same)) c

  one_more : (b : Bool) (count : ℕ) (s : State) → is_still s ≡ b → Valid code grants s → Counted code count (move code s) (moves code count (move code s))
      → Counted code (suc count) s (moves code count (move code s))
  one_more true count s e valid rest = rests (suc count) s e
  one_more false count s e valid rest =
      let can = can_move code grants known.keeps s valid in
      took_on (will_charge code s) count s (known.test s can) (known.took s e can) rest

  -- so it is after any moves of a valid state
  pub counted : (count : ℕ) (s : State) → Valid code grants s → Counted code count s (moves code count s)
  counted zero s valid = record { least = omega arith; most = omega arith }
  counted (suc count) s valid = one_more (is_still s) count s refl valid (counted count (move code s) (known.keeps 1 s valid))

  -- a turn from a state where no step was used is one of as many steps as were taken
  pub turned_alone : (steps : ℕ) (start new : State) → Valid code grants start → used start ≡ 0 → Turns code steps start new → Turns code (taken new) start new
  turned_alone steps start new valid none (inl turn) =
      let going = moves_on new (charges_going code new turn.next) in
      let same : taken new ≡ used new + 0 = ap (λ b. used new + one_if b 0) going in
      let all = subst (λ (t : State). Counted code turn.count start t) turn.is (counted turn.count start valid) in
      let least = all.least in
      let most = all.most in
      inl (record { count = turn.count; is = turn.is; charged = omega (arith, least, most, same, none); next = turn.next })
  turned_alone steps start new valid none (inr turn) =
      let all = subst (λ (t : State). Counted code turn.count start t) turn.is (counted turn.count start valid) in
      let most = all.most in
      inr (record {
        count = turn.count;
        spared = taken new - charged_in code turn.count start;
        is = turn.is;
        charged = omega (arith, most, none);
        still = turn.still;
      })
