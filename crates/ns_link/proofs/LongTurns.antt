-- A turn of more steps than a run may charge comes to its end.
use Rattle.std.proofs.Common.{◌≡◌, ℕ, zero, suc, ◌+◌, ◌≤◌, ◌<◌, refl, ap, ◌∙◌, subst, inl, inr, arith, Bool, true, false, ◌||◌, if◌then◌else◌}
use Rattle.std.specs.Prelude.{nat_lt}
use Rattle.std.proofs.lemmas.Bool.{ltb-true}
use Rattle.ns_code.specs.declared.program.CodeProgram.{CodeProgram}
use Rattle.ns_base.specs.declared.limits.Limits.{Limits}
use Rattle.ns_facets.specs.declared.row.Grants.{Grants}
use Rattle.ns_model.specs.Whole.{RunEnd}
use Rattle.ns_moves.specs.State.{State, Unbegun, Going, Pends, Ended, Stuck, world_of}
use Rattle.ns_moves.specs.Move.{move, moves}
use Rattle.ns_moves.specs.Turn.{is_still, ends_with_steps, charges, one_if, charged_in, Turns}
use Rattle.ns_moves.specs.StatedMoves.{StaysStill}
use Rattle.ns_moves.specs.MovesOnward.{MovesGoOnward}
use Rattle.ns_moves.specs.Standing.{MovesKeepValid}
use Rattle.ns_moves.specs.Valid.{Valid}
use Rattle.ns_moves.specs.laws.Still.{moves_on}
use Rattle.ns_link.specs.Stated.{IsOnTheWay, HasEnded}

either : (less ends : Bool) → (less || ends) ≡ true → ends ≡ false → less ≡ true
either true ends e f = refl
either false ends e f = absurd (cc)

charge_in : (still charged : Bool) → (if still then false else charged) ≡ true → charged ≡ true
charge_in true charged e = absurd (cc)
charge_in false charged e = e

is_no : (still charged : Bool) → (if still then false else charged) ≡ true → still ≡ false
is_no true charged e = absurd (cc)
is_no false charged e = refl

module _ (code : CodeProgram) (stay : (state : State) → StaysStill code state) (onward : MovesGoOnward code) where
  -- a move that charges, and after which the run moves on, has taken a step
  took : (state : State) → charges code state ≡ true → is_still (move code state) ≡ false → (world_of state).steps < (world_of (move code state)).steps
  took state e on =
      ltb-true _ _
      (either (nat_lt (world_of state).steps (world_of (move code state)).steps) (ends_with_steps (move code state)) (charge_in (is_still state) _ e)
      (moves_on (move code state) on))

  one_step : (b : Bool) (state : State) → charges code state ≡ b → is_still (move code state) ≡ false
      → one_if b (world_of state).steps ≤ (world_of (move code state)).steps
  one_step true state e on = took state e on
  one_step false state e on = (onward 1 state).later.steps

  -- after which the run moves on it did so before
  was_on : (count : ℕ) (state : State) → is_still (moves code count state) ≡ false → is_still state ≡ false
  was_on count state on = by_still (is_still state) refl
    where
      by_still : (b : Bool) → is_still state ≡ b → b ≡ false
      by_still false e = refl
      by_still true e = absurd (let same = ap is_still (stay state count e) in cc)

  summed : (b : Bool) (charged before between after : ℕ) → one_if b before ≤ between → charged + between ≤ after → one_if b charged + before ≤ after
  summed true charged before between after e f = omega (arith, e, f)
  summed false charged before between after e f = omega (arith, e, f)

  -- as long as a run moves on, each step that is charged is counted
  counted : (count : ℕ) (state : State) → is_still (moves code count state) ≡ false
      → charged_in code count state + (world_of state).steps ≤ (world_of (moves code count state)).steps
  counted zero state on = omega arith
  counted (suc count) state on =
      summed (charges code state) (charged_in code count (move code state)) (world_of state).steps (world_of (move code state)).steps _
      (one_step (charges code state) state refl (was_on count (move code state) on)) (counted count (move code state) on)

  pub long_turn_ends : (ended : RunEnd) (steps : ℕ) (old new : State) → IsOnTheWay code new ended → Turns code steps old new
      → (is_still new ≡ false → (world_of new).steps < steps) → HasEnded new ended
  long_turn_ends ended steps old new way (inr turn) few = record { phase = way.goes_on.phase; is = way.at_rest turn.still }
  long_turn_ends ended steps old new way (inl turn) few =
      let on = is_no (is_still new) _ turn.next in
      let most = subst (λ (s : State). is_still s ≡ false → charged_in code turn.count old + (world_of old).steps ≤ (world_of s).steps) turn.is
      (counted turn.count old) on in
      let all = turn.charged in
      let less = few on in
      absurd (omega (arith, most, all, less))

-- ---- runs within their limits

within_steps : (code : CodeProgram) (grants : Grants) (s : State) → Valid code grants s → is_still s ≡ false →
    (world_of s).steps ≤ (world_of s).limits.steps
within_steps code grants (Unbegun arguments p) valid e = absurd (cc)
within_steps code grants (Ended ending phase p) valid e = absurd (cc)
within_steps code grants (Stuck p) valid e = absurd (cc)
within_steps code grants (Going phase frames p) valid e = valid.0.world.lawful.within.steps
within_steps code grants (Pends phase pending frames p) valid e = valid.0.world.lawful.within.steps

reached : (code : CodeProgram) (steps : ℕ) (old new : State) (P : State → Type 0) → ((count : ℕ) → P (moves code count old)) →
    Turns code steps old new → P new
reached code steps old new P all (inl turn) = subst P turn.is (all turn.count)
reached code steps old new P all (inr turn) = subst P turn.is (all turn.count)

-- The limits of a run stay, and its steps are within them.
record Within (limits : Limits) (state : State) : Type 0 where
  limits_are : (world_of state).limits ≡ limits
  steps : is_still state ≡ false → (world_of state).steps < limits.steps + 1

pub few_steps : (code : CodeProgram) → MovesGoOnward code → (grants : Grants) → MovesKeepValid code grants →
    (limits : Limits) (steps : ℕ) (old new : State)
    → Valid code grants old → (world_of old).limits ≡ limits → Turns code steps old new → is_still new ≡ false → (world_of new).steps < limits.steps + 1
few_steps code onward grants keeps limits steps old new valid is turns on = (reached code steps old new (Within limits) all turns).steps on
  where
    all : (count : ℕ) → Within limits (moves code count old)
    all count =
        let same = (onward count old).later.limits ∙ is in
        record {
          limits_are = same;
          steps = λ still.
              let few = within_steps code grants (moves code count old) (keeps count old valid) still in
              let at = ap (λ (l : Limits). l.steps) same in
              omega (arith, few, at);
        }
