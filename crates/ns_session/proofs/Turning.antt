-- The turn as a function is a turn: each move lowers what is left to be done.
use Rattle.std.proofs.Common.{◌≡◌, ℕ, zero, suc, ◌+◌, ◌^◌, ◌≤◌, ◌⊎◌, ◌==◌, ◌&&◌, ◌||◌, refl, sym, ap, subst, ◌∙◌, inl, inr, arith, Bool, true, false, if◌then◌else◌}
use Rattle.std.proofs.lemmas.Bool.{eqb-true}
use Rattle.ns_code.specs.declared.program.CodeProgram.{CodeProgram}
use Rattle.ns_facets.specs.declared.row.Grants.{Grants}
use Rattle.ns_moves.specs.Doubling.{StepsLead, times, until}
use Rattle.ns_moves.specs.Falling.{LeftIsBelowPower, MovesLower, power_left, run_left}
use Rattle.ns_moves.specs.laws.Doubling.{leads}
use Rattle.ns_moves.specs.StatedMoves.{TurnsLeaveOne}
use Rattle.ns_moves.specs.Move.{move}
use Rattle.ns_moves.specs.Standing.{MovesKeepValid}
use Rattle.ns_moves.specs.State.{State, world_of}
use Rattle.ns_moves.specs.Turn.{is_still, charges, charged_in, one_if, Turns}
use Rattle.ns_moves.specs.Valid.{Valid}
use Rattle.ns_session.specs.RobinLaws.{TurnsAreTurned}
use Rattle.ns_session.specs.Turned.{TurnUnderway, is_over, moved_on, steps_behind, turned}

-- What is known of moves.
pub record Known (code : CodeProgram) (grants : Grants) : Type 0 where
  pub one : TurnsLeaveOne code
  pub keeps : MovesKeepValid code grants
  pub lower : MovesLower code grants
  pub below : LeftIsBelowPower code grants

one_if_add : (b : Bool) (m x left steps : ℕ) → m + x ≡ left → one_if b left ≡ steps → one_if b m + x ≡ steps
one_if_add true m x left steps e f = omega (arith, e, f)
one_if_add false m x left steps e f = omega (arith, e, f)

-- a move, and a turn of the steps that it leaves
first_move : (code : CodeProgram) (steps left : ℕ) (state new : State) → one_if (charges code state) left ≡ steps →
    Turns code left (move code state) new
    → Turns code steps state new
first_move code steps left state new e (inl p) =
    inl (record { count = suc p.count; is = p.is; charged = ap (one_if (charges code state)) p.charged ∙ e; next = p.next })
first_move code steps left state new e (inr p) =
    inr (record {
      count = suc p.count;
      spared = p.spared;
      is = p.is;
      charged = one_if_add (charges code state) (charged_in code p.count (move code state)) p.spared left steps p.charged e;
      still = p.still;
    })

-- at rest all steps are spared
rests : (code : CodeProgram) (steps : ℕ) (state : State) → is_still state ≡ true → Turns code steps state state
rests code steps state still = inr (record { count = 0; spared = steps; is = refl; charged = omega arith; still = still })

-- no step is left, and the next move would charge one
stops : (code : CodeProgram) (state : State) → charges code state ≡ true → Turns code 0 state state
stops code state next = inl (record { count = 0; is = refl; charged = refl; next = next })

-- ---- a turn that goes on, and one that is over

abbrev at_turn : ℕ → State → TurnUnderway
at_turn steps state = record { steps = steps; state = state }

over_stays : (code : CodeProgram) (count : ℕ) (turn : TurnUnderway) → is_over code turn ≡ true → times (moved_on code) count turn ≡ turn
over_stays code zero turn over = refl
over_stays code (suc count) turn over =
    let same : moved_on code turn ≡ turn
    = ap (λ (b : Bool). if b then turn else at_turn (steps_behind (charges code turn.state) turn.steps) (move code turn.state)) over in
    ap (times (moved_on code) count) same ∙ over_stays code count turn over

goes_on : (code : CodeProgram) (turn : TurnUnderway) → is_over code turn ≡ false
    → moved_on code turn ≡ at_turn (steps_behind (charges code turn.state) turn.steps) (move code turn.state)
goes_on code turn on =
    ap (λ (b : Bool). if b then turn else at_turn (steps_behind (charges code turn.state) turn.steps) (move code turn.state)) on

none_more : (steps : ℕ) → (suc steps == 0) ≡ true → ⊥
none_more steps e = let same : suc steps ≡ 0 = eqb-true (suc steps) 0 e in absurd (omega (arith, same))

never : false ≡ true → ⊥
never e = absurd (cc (e))

-- a turn that is over has left its state
over_turns : (code : CodeProgram) (steps : ℕ) (state : State) → (is_still state || (charges code state && steps == 0)) ≡ true
    → Turns code steps state state
over_turns code steps state over = by (is_still state) (charges code state) steps refl refl over
  where
    by : (still charge : Bool) (steps : ℕ) → is_still state ≡ still → charges code state ≡ charge → (still || (charge && steps == 0)) ≡ true
        → Turns code steps state state
    by true charge steps e f over = rests code steps state e
    by false true zero e f over = stops code state f
    by false true (suc steps) e f over = absurd (none_more steps over)
    by false false steps e f over = absurd (never over)

-- where a move is made, its steps and what it charges are those of the turn
behind_is : (charge : Bool) (steps : ℕ) → (charge && steps == 0) ≡ false → one_if charge (steps_behind charge steps) ≡ steps
behind_is true zero on = absurd (cc)
behind_is true (suc steps) on = omega arith
behind_is false steps on = refl

not_still : (still other : Bool) → (still || other) ≡ false → still ≡ false
not_still true other e = absurd (cc)
not_still false other e = refl

not_out : (still other : Bool) → (still || other) ≡ false → other ≡ false
not_out true other e = absurd (cc)
not_out false other e = e

-- so many moves after which it is over are the turn
turn_made : (code : CodeProgram) (count steps : ℕ) (state : State) (last : TurnUnderway) →
    times (moved_on code) count (at_turn steps state) ≡ last
    → is_over code last ≡ true → Turns code steps state last.state
turn_made code zero steps state last is over =
    subst (λ (t : TurnUnderway). Turns code steps state t.state) is (over_turns code steps state (ap (is_over code) is ∙ over))
turn_made code (suc more) steps state last is over =
    by (is_over code (at_turn steps state)) refl is
    (λ next. turn_made code more (steps_behind (charges code state) steps) (move code state) last next over)
  where
    by : (b : Bool) → is_over code (at_turn steps state) ≡ b → times (moved_on code) (suc more) (at_turn steps state) ≡ last
        → (times (moved_on code) more (at_turn (steps_behind (charges code state) steps) (move code state)) ≡ last
        → Turns code (steps_behind (charges code state) steps) (move code state) last.state)
        → Turns code steps state last.state
    by true e is rest =
        let same : at_turn steps state ≡ last = sym (over_stays code (suc more) (at_turn steps state) e) ∙ is in
        subst (λ (t : TurnUnderway). Turns code steps state t.state) same (over_turns code steps state e)
    by false e is rest =
        let out = not_out (is_still state) (charges code state && steps == 0) e in
        let next = ap (times (moved_on code) more) (sym (goes_on code (at_turn steps state) e)) ∙ is in
        first_move code steps (steps_behind (charges code state) steps) state last.state (behind_is (charges code state) steps out) (rest next)

module _ (code : CodeProgram) (grants : Grants) (known : Known code grants) where
  -- as long as a turn isn't over, each of its moves lowers what is left of the run
  lowered : (count : ℕ) (turn : TurnUnderway) → Valid code grants turn.state → is_over code (times (moved_on code) count turn) ≡ false
      → count + 1 ≤ run_left code turn.state
  lowered zero turn valid on =
      let less = known.lower turn.state valid (not_still (is_still turn.state) (charges code turn.state && turn.steps == 0) on) in
      omega (arith, less)
  lowered (suc count) turn valid on =
      by (is_over code turn) refl
      (λ over. lowered count (at_turn (steps_behind (charges code turn.state) turn.steps) (move code turn.state)) (known.keeps 1 turn.state valid) over)
    where
      by : (b : Bool) → is_over code turn ≡ b
          → (is_over code (times (moved_on code) count (at_turn (steps_behind (charges code turn.state) turn.steps) (move code turn.state))) ≡ false
          → count + 1 ≤ run_left code (move code turn.state))
          → suc count + 1 ≤ run_left code turn.state
      by true e rest =
          absurd (never (sym on ∙ (ap (is_over code) (over_stays code (suc count) turn e) ∙ e)))
      by false e rest =
          let same = ap (times (moved_on code) count) (goes_on code turn e) in
          let fewer = rest (ap (is_over code) (sym same) ∙ on) in
          let first = known.lower turn.state valid (not_still (is_still turn.state) (charges code turn.state && turn.steps == 0) e) in
          omega (arith, fewer, first)

  -- so it is over before two to a power that passes that
  module _ (steps : ℕ) (state : State) (valid : Valid code grants state) where
    abbrev power : ℕ
    power = power_left code (world_of state).limits

    abbrev last : TurnUnderway
    last = until (is_over code) (moved_on code) 0 power (at_turn steps state)

    over : StepsLead (is_over code) (moved_on code) 0 power (at_turn steps state) last → is_over code last ≡ true
    over led = by (is_over code last) refl
      where
        stopped : is_over code last ≡ false → (is_over code last ≡ true) ⊎ (2 ^ (0 + power) ≤ led.count + 2 ^ 0) → is_over code last ≡ true
        stopped on (inl done) = done
        stopped on (inr many) =
            let few = lowered led.count (at_turn steps state) valid (ap (is_over code) led.is ∙ on) in
            let none : 0 + power ≡ power = omega arith in
            let same = ap (λ n. 2 ^ n) none in
            let most = known.below state valid in
            absurd (omega (arith, few, many, most, same))

        by : (b : Bool) → is_over code last ≡ b → is_over code last ≡ true
        by true e = e
        by false e = stopped e led.done

    pub turn_is_made : Turns code steps state (turned code steps state)
    turn_is_made =
        let led = leads (is_over code) (moved_on code) 0 power (at_turn steps state) in
        turn_made code led.count steps state last led.is (over led)

  pub turns_are_turned : TurnsAreTurned code grants
  turns_are_turned steps old new valid turns =
      known.one steps old new (turned code steps old) turns (turn_is_made steps old valid)
