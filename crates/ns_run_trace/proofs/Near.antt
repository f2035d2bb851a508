-- A run that used so many steps still moves on after a turn of all of them but one.
use Rattle.std.proofs.Common.{◌≡◌, ℕ, zero, suc, ◌+◌, ◌-◌, ◌<◌, ◌≤◌, inl, inr, refl, sym, ap, subst, ◌∙◌, arith, Bool, true, false, nat_lt, if◌then◌else◌, ◌||◌}
use Rattle.std.proofs.lemmas.Bool.{ltb-false}
use Rattle.ns_code.specs.declared.program.CodeProgram.{CodeProgram}
use Rattle.ns_facets.specs.declared.row.Grants.{Grants}
use Rattle.ns_moves.specs.Control.{Progress}
use Rattle.ns_moves.specs.Charges.{ChargesAsTold, MoveTook, TakesAsTold, TookStep}
use Rattle.ns_moves.specs.Charging.{will_charge}
use Rattle.ns_moves.specs.Move.{move, moves}
use Rattle.ns_moves.specs.State.{State, progress_of, world_of}
use Rattle.ns_moves.specs.StatedMoves.{TurnsLeaveOne}
use Rattle.ns_moves.specs.Turn.{charged_in, charges, ends_with_steps, is_still, one_if, Turns, was_charged}
use Rattle.ns_moves.specs.Valid.{Valid}
use Rattle.ns_moves.specs.laws.Still.{can_move}
use Rattle.ns_run_code.specs.Machine.{rested}
use Rattle.ns_run_trace.specs.Before.{before_end}
use Rattle.ns_run_trace.specs.Laws.{IsBeforeEnd}
use Rattle.ns_run_trace.specs.Nearing.{IsNear, MovesAreLeft}
use Rattle.ns_run_trace.proofs.Ending.{Known, ends_after_it, rest_is, still_before}

-- What is known of steps.
pub record KnownSteps (code : CodeProgram) : Type 0 where
  pub took : TakesAsTold code
  pub test : ChargesAsTold code
  pub leave_one : TurnsLeaveOne code

module _ (code : CodeProgram) (grants : Grants) (known : Known code grants) (steps : KnownSteps code) where
  -- a move adds no more than it charges
  one_grows : (s : State) → Valid code grants s → (world_of (move code s)).steps ≤ (world_of s).steps + one_if (charges code s) 0
  one_grows s valid = tested (is_still s) refl
    where
      took : TookStep (progress_of s) (move code s) → (world_of (move code s)).steps ≤ (world_of s).steps + 1
      took (inl more) = omega (arith, more)
      took (inr none) = let same = ap (λ (p : Progress). p.world.steps) none.same in omega (arith, same)

      charging : (b : Bool) → is_still s ≡ false → charges code s ≡ b → was_charged s (move code s) ≡ b
          → (world_of (move code s)).steps ≤ (world_of s).steps + one_if b 0
      charging true going e was =
          let can = can_move code grants known.keeps s valid in
          let will : will_charge code s ≡ true = sym (steps.test s can) ∙ e in
          took (subst (λ (b : Bool). MoveTook b (progress_of s) (move code s)) will (steps.took s going can))
      charging false going e was = either (nat_lt (world_of s).steps (world_of (move code s)).steps) refl was
        where
          either : (b : Bool) → nat_lt (world_of s).steps (world_of (move code s)).steps ≡ b → (b || ends_with_steps (move code s)) ≡ false
              → (world_of (move code s)).steps ≤ (world_of s).steps + 0
          either false less none = let most = ltb-false (world_of s).steps (world_of (move code s)).steps less in omega (arith, most)
          either true less none = absurd (cc)

      tested : (b : Bool) → is_still s ≡ b → (world_of (move code s)).steps ≤ (world_of s).steps + one_if (charges code s) 0
      tested true still =
          let same = ap (λ (t : State). (world_of t).steps) (known.stay s 1 still) in
          let none : charges code s ≡ false = ap (λ (b : Bool). if b then false else was_charged s (move code s)) still in
          let zero_more = ap (λ (b : Bool). one_if b 0) none in
          omega (arith, same, zero_more)
      tested false going =
          let is : charges code s ≡ was_charged s (move code s) = ap (λ (b : Bool). if b then false else was_charged s (move code s)) going in
          charging (charges code s) going refl (sym is)

  -- nor do so many
  steps_grow : (count : ℕ) (s : State) → Valid code grants s → (world_of (moves code count s)).steps ≤ (world_of s).steps + charged_in code count s
  steps_grow zero s valid = omega arith
  steps_grow (suc count) s valid =
      let rest = steps_grow count (move code s) (known.keeps 1 s valid) in
      let first = one_grows s valid in
      let all = both (charges code s) (charged_in code count (move code s)) in
      omega (arith, rest, first, all)
    where
      both : (b : Bool) (count : ℕ) → one_if b count ≡ one_if b 0 + count
      both true count = omega arith
      both false count = omega arith

  -- So a run that was near its end moves no more only where it did so from the first.
  near_goes : (used : ℕ) (first near : State) → Valid code grants first → (world_of first).steps ≡ 0 → used ≡ (world_of (rested code first)).steps
      → IsNear code used first near → is_still near ≡ true → near ≡ first
  near_goes zero first near valid fresh used is still = is
  near_goes (suc used) first near valid fresh all (inl turned) still =
      absurd (let next = turned.next in let none : charges code near ≡ false = ap (λ (b : Bool). if b then false else was_charged near (move code near)) still in cc)
  near_goes (suc used) first near valid fresh all (inr out) still =
      let there = rest_is code grants known out.count first near valid out.is still in
      let most = steps_grow out.count first valid in
      let ended = ap (λ (t : State). (world_of t).steps) (out.is ∙ there) in
      let charged = out.charged in
      absurd (omega (arith, most, ended, charged, fresh, all))

  -- the moves that led near the end
  near_moves : (used : ℕ) (first near : State) → IsNear code used first near → (count : ℕ) × (moves code count first ≡ near)
  near_moves zero first near is = (0, sym is)
  near_moves (suc used) first near (inl turned) = (turned.count, turned.is)
  near_moves (suc used) first near (inr out) = (out.count, out.is)

  -- there is one such state
  pub one_near : (used : ℕ) (first near other : State) → IsNear code used first near → IsNear code used first other → near ≡ other
  one_near zero first near other is too = is ∙ sym too
  one_near (suc used) first near other is too = steps.leave_one used first near other is too

  -- All moves that are left from there but one lead to the state before the end.
  pub left_lead : (used count : ℕ) (first near : State) → Valid code grants first → (world_of first).steps ≡ 0
      → used ≡ (world_of (rested code first)).steps → IsNear code used first near → MovesAreLeft code near count
      → moves code (count - 1) near ≡ before_end code first
  left_lead used zero first near valid fresh all is left =
      let here = near_goes used first near valid fresh all is left.still in
      here ∙ sym (still_before code grants known first (subst (λ (t : State). is_still t ≡ true) here left.still))
  left_lead used (suc count) first near valid fresh all is left =
      let led = near_moves used first near is in
      let fewer : suc count - 1 ≡ count = omega arith in
      let more : count + 1 ≡ suc count = omega arith in
      let there : moves code (led.0 + count) first ≡ moves code count near =
      known.add first led.0 count ∙ ap (moves code count) led.1 in
      let next : move code (moves code count near) ≡ moves code (suc count) near = sym (known.add near count 1) ∙ ap (λ n. moves code n near) more in
      let last : moves code (led.0 + count + 1) first ≡ move code (moves code count near) =
      known.add first (led.0 + count) 1 ∙ ap (move code) there in
      let before : IsBeforeEnd code first (moves code count near) = (record {
        count = led.0 + count;
        is = there;
        going = left.going count (sym more);
        ends = rest_is code grants known (led.0 + count + 1) first (move code (moves code count near)) valid last (ap is_still next ∙ left.still);
      }) in
      ap (λ n. moves code n near) fewer ∙ (ends_after_it code grants known first valid).one (moves code count near) before

-- where no step is used a run is near its end from the first
pub near_begun : (code : CodeProgram) (used : ℕ) (first near : State) → used ≡ 0 → near ≡ first → IsNear code used first near
near_begun code zero first near none is = is
near_begun code (suc used) first near none is = absurd (omega (arith, none))

-- and else after a turn of all but one
pub near_turned : (code : CodeProgram) (used : ℕ) (first near : State) → 0 < used → Turns code (used - 1) first near → IsNear code used first near
near_turned code zero first near some turns = absurd (omega (arith, some))
near_turned code (suc used) first near some turns = let fewer : suc used - 1 ≡ used = omega arith in subst (λ n. Turns code n first near) fewer turns
