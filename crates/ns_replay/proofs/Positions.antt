-- A position is the step that was asked for, or the last one of the run.
use Rattle.std.proofs.Common.{◌≡◌, ◌∙◌, ℕ, zero, suc, ◌+◌, ◌-◌, ◌≤◌, refl, sym, ap, subst, inl, inr, arith, Bool, true, false}
use Rattle.ns_moves.specs.Control.{Progress}
use Rattle.ns_code.specs.declared.program.CodeProgram.{CodeProgram}
use Rattle.ns_facets.specs.declared.row.Grants.{Grants}
use Rattle.ns_moves.specs.Charges.{MoveTook, TakesAsTold, ChargesAsTold}
use Rattle.ns_moves.specs.Charging.{will_charge}
use Rattle.ns_moves.specs.Move.{move, moves}
use Rattle.ns_moves.specs.Standing.{MovesKeepValid}
use Rattle.ns_moves.specs.State.{State, progress_of}
use Rattle.ns_moves.specs.StatedMoves.{StaysStill, TurnsAdd, TurnsLeaveOne}
use Rattle.ns_moves.specs.Turn.{is_still, charges, one_if, charged_in, Turns}
use Rattle.ns_moves.specs.Valid.{Valid}
use Rattle.ns_moves.specs.laws.Still.{can_move, limited_still, none_charged}
use Rattle.ns_replay.specs.At.{position_in}
use Rattle.ns_replay.specs.Laws.{PositionsAreLeast}

-- What is known of moves and turns.
pub record Known (code : CodeProgram) (grants : Grants) : Type 0 where
  pub took : TakesAsTold code
  pub test : ChargesAsTold code
  pub stay : (state : State) → StaysStill code state
  pub keeps : MovesKeepValid code grants
  pub add : TurnsAdd code
  pub one : TurnsLeaveOne code

-- All steps that are used were charged; and where the run goes on, no others were.
record IsCounted (code : CodeProgram) (count : ℕ) (old new : State) : Type 0 where
  most : position_in new ≤ charged_in code count old + position_in old
  all : is_still new ≡ false → position_in new ≡ charged_in code count old + position_in old

never : {A : Type 0} → true ≡ false → A
never e = absurd (cc (e))

module _ (code : CodeProgram) (grants : Grants) (known : Known code grants) where
  at_rest : (count : ℕ) (state : State) → is_still state ≡ true → IsCounted code count state (moves code count state)
  at_rest count state still =
      let none = none_charged code count state still in
      let same : position_in state ≡ charged_in code count state + position_in state = omega (arith, none) in
      let most : position_in state ≤ charged_in code count state + position_in state = omega arith in
      subst (λ (s : State). IsCounted code count state s) (sym (known.stay state count still)) (record { most = most; all = λ goes. same })

  -- a move that charges as many steps as it uses
  one_more : (b : Bool) (count : ℕ) (state : State) → charges code state ≡ b → position_in (move code state) ≡ one_if b 0 + position_in state
      → IsCounted code count (move code state) (moves code count (move code state)) → IsCounted code (suc count) state (moves code count (move code state))
  one_more true count state e used c =
      let charged : charged_in code (suc count) state ≡ suc (charged_in code count (move code state)) = ap (λ b. one_if b (charged_in code count (move code state))) e in
      record {
        most = let most = c.most in omega (arith, charged, used, most);
        all = λ goes. let all = c.all goes in omega (arith, charged, used, all);
      }
  one_more false count state e used c =
      let charged : charged_in code (suc count) state ≡ charged_in code count (move code state) = ap (λ b. one_if b (charged_in code count (move code state))) e in
      record {
        most = let most = c.most in omega (arith, charged, used, most);
        all = λ goes. let all = c.all goes in omega (arith, charged, used, all);
      }

  -- one that finds no step left: the run has come to rest
  none_left : (count : ℕ) (state : State) → charges code state ≡ true → is_still (move code state) ≡ true → position_in (move code state) ≡ position_in state
      → IsCounted code (suc count) state (moves code count (move code state))
  none_left count state e still same =
      let charged : charged_in code (suc count) state ≡ suc (charged_in code count (move code state)) = ap (λ b. one_if b (charged_in code count (move code state))) e in
      let none = none_charged code count (move code state) still in
      let most : position_in (move code state) ≤ charged_in code (suc count) state + position_in state = omega (arith, same) in
      subst (λ (s : State). IsCounted code (suc count) state s) (sym (known.stay (move code state) count still))
      (record { most = most; all = λ goes. never (sym still ∙ goes) })

  took_on : (b : Bool) (count : ℕ) (state : State) → charges code state ≡ b → MoveTook b (progress_of state) (move code state)
      → IsCounted code count (move code state) (moves code count (move code state)) → IsCounted code (suc count) state (moves code count (move code state))
  took_on true count state e (inl one) c = one_more true count state e (omega (arith, one)) c
  took_on true count state e (inr none) c =
      none_left count state e (limited_still (move code state) none.ended) (ap (λ (p : Progress). p.world.steps) none.same)
  took_on false count state e took c = let same = took.steps in one_more false count state e (omega (arith, same)) c

  by_still : (b : Bool) (count : ℕ) (state : State) → is_still state ≡ b → Valid code grants state
      → IsCounted code count (move code state) (moves code count (move code state)) → IsCounted code (suc count) state (moves code count (move code state))
  by_still true count state e valid c = at_rest (suc count) state e
  by_still false count state e valid c =
      let can = can_move code grants known.keeps state valid in took_on (will_charge code state) count state (known.test state can) (known.took state e can) c

  counted : (count : ℕ) (state : State) → Valid code grants state → IsCounted code count state (moves code count state)
  counted zero state valid = record { most = omega arith; all = λ goes. omega arith }
  counted (suc count) state valid = by_still (is_still state) count state refl valid (counted count (move code state) (known.keeps 1 state valid))

  counted_to : (count : ℕ) (start state : State) → Valid code grants start → moves code count start ≡ state → IsCounted code count start state
  counted_to count start state valid is = subst (IsCounted code count start) is (counted count start valid)

  -- a turn of some more steps leaves a run that is at rest as it is
  stays : (steps more : ℕ) (start state later : State) → Turns code steps start state → is_still state ≡ true → steps ≤ more → Turns code more start later → later ≡ state
  stays steps more start state later turns still before then =
      let rest : Turns code (more - steps) state state = inr (record { count = 0; spared = more - steps; is = refl; charged = omega arith; still = still }) in
      let sum : steps + (more - steps) ≡ more = omega (arith, before) in
      known.one more start later state then (subst (λ n. Turns code n start state) sum (known.add steps (more - steps) start state state turns rest))

  pub positions_least : PositionsAreLeast code grants
  positions_least start step state valid unused (inl turn) =
      let c = counted_to turn.count start state valid turn.is in
      let most = c.most in
      let charged = turn.charged in
      record {
        most = omega (arith, most, charged, unused);
        goes_on = λ goes. let all = c.all goes in omega (arith, all, charged, unused);
        rests = λ still more later before then. stays step more start state later (inl turn) still before then;
      }
  positions_least start step state valid unused (inr turn) =
      let c = counted_to turn.count start state valid turn.is in
      let most = c.most in
      let charged = turn.charged in
      record {
        most = omega (arith, most, charged, unused);
        goes_on = λ goes. never (sym turn.still ∙ goes);
        rests = λ still more later before then. stays step more start state later (inr turn) still before then;
      }
