-- A turn is moves: each keeps the state valid, and where the run comes to rest.
use Rattle.std.proofs.Common.{ℕ, zero, suc, refl, subst, ◌∙◌, Bool, true, false, if◌then◌else◌}
use Rattle.ns_code.specs.declared.program.CodeProgram.{CodeProgram}
use Rattle.ns_facets.specs.declared.row.Grants.{Grants}
use Rattle.ns_moves.specs.Doubling.{times}
use Rattle.ns_moves.specs.Falling.{power_left}
use Rattle.ns_moves.specs.laws.Doubling.{leads}
use Rattle.ns_moves.specs.Move.{move}
use Rattle.ns_moves.specs.Standing.{MovesKeepValid}
use Rattle.ns_moves.specs.State.{State, world_of}
use Rattle.ns_moves.specs.Turn.{charges}
use Rattle.ns_run_code.specs.Resting.{MovesKeepRest}
use Rattle.ns_run_snap.specs.Laws.{GoesOnFrom, TurnsGoOn}
use Rattle.ns_session.specs.Turned.{TurnUnderway, is_over, moved_on, steps_behind}

module _ (code : CodeProgram) (grants : Grants) (keeps : MovesKeepValid code grants) (stays : MovesKeepRest code grants) where
  one_move : (old : State) (turn : TurnUnderway) → GoesOnFrom code grants old turn.state → GoesOnFrom code grants old (moved_on code turn).state
  one_move old turn is = by (is_over code turn)
    where
      by : (over : Bool) → GoesOnFrom code grants old (if over then turn else record { steps = steps_behind (charges code turn.state) turn.steps; state = move code turn.state }).state
      by true = is
      by false = record { valid = keeps 1 turn.state is.valid; rests = stays 1 turn.state is.valid ∙ is.rests }

  all_moves : (old : State) (count : ℕ) (turn : TurnUnderway) → GoesOnFrom code grants old turn.state → GoesOnFrom code grants old (times (moved_on code) count turn).state
  all_moves old zero turn is = is
  all_moves old (suc count) turn is = all_moves old count (moved_on code turn) (one_move old turn is)

  pub turn_goes_on : TurnsGoOn code grants
  turn_goes_on steps state valid =
      let turn : TurnUnderway = record { steps = steps; state = state } in
      let led = leads (is_over code) (moved_on code) 0 (power_left code (world_of state).limits) turn in
      subst (λ (last : TurnUnderway). GoesOnFrom code grants state last.state) led.is
      (all_moves state led.count turn (record { valid = valid; rests = refl }))
