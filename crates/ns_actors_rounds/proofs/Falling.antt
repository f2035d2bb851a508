-- Turns of runs use up steps, and so does a send that comes to its end.
use Rattle.std.proofs.Common.{◌≡◌, ◌<◌, ◌≤◌, ℕ, zero, suc, ◌+◌, ◌-◌, inl, inr, refl, sym, ap, ◌∙◌, subst, arith, Option, Some, None, Bool, true, false}
use Rattle.ns_code.specs.declared.program.CodeProgram.{CodeProgram}
use Rattle.ns_facets.specs.declared.row.Grants.{Grants}
use Rattle.ns_moves.specs.Charges.{MoveTook, TakesAsTold}
use Rattle.ns_moves.specs.Charging.{will_charge}
use Rattle.ns_moves.specs.Move.{move, moves}
use Rattle.ns_moves.specs.MovesOnward.{MovesGoOnward}
use Rattle.ns_moves.specs.Standing.{MovesKeepValid}
use Rattle.ns_moves.specs.State.{State, Unbegun, Going, Pends, Ended, Stuck, ending_of, progress_of, world_of}
use Rattle.ns_moves.specs.StatedMoves.{StaysStill}
use Rattle.ns_moves.specs.Turn.{is_still, ends_with_steps, Turns}
use Rattle.ns_moves.specs.laws.Still.{can_move, limited_still}
use Rattle.ns_world.specs.declared.ending.Ending.{Ending}
use Rattle.ns_world.specs.declared.ending.Ending.TheVariants.{Done, Error, Limit}
use Rattle.ns_world.specs.declared.value.Value.{Value}
use Rattle.ns_session.specs.Laws.{TurnsLower, TurnsReach}
use Rattle.ns_session.specs.Member.{Application, MemberView, OwnTurn, board_of}
use Rattle.ns_session.specs.Reached.{StateIsReached, left_by, left_for}
use Rattle.ns_session.specs.RobinLaws.{TurnsAreMade}
use Rattle.ns_session.specs.Turned.{turned}
use Rattle.ns_actors.specs.Laws.{SendBegins}

-- What is known of moves and of turns.
pub record Known : Type 0 where
  pub made : (code : CodeProgram) (grants : Grants) → TurnsAreMade code grants
  pub lower : (application : Application) → TurnsLower application
  pub reach : (application : Application) → TurnsReach application
  pub stay : (code : CodeProgram) (state : State) → StaysStill code state
  pub onward : (code : CodeProgram) → MovesGoOnward code
  pub keeps : (code : CodeProgram) (grants : Grants) → MovesKeepValid code grants
  pub took : (code : CodeProgram) → TakesAsTold code

-- the steps that a run has used
abbrev pub used : State → ℕ
used state = (world_of state).steps

-- ---- states

-- a run that has ended moves no more
ended_still : (state : State) (ending : Ending) → ending_of state ≡ Some ending → is_still state ≡ true
ended_still (Unbegun arguments p) ending e = refl
ended_still (Going phase frames p) ending e = absurd (cc (e))
ended_still (Pends phase pending frames p) ending e = absurd (cc (e))
ended_still (Ended other phase p) ending e = refl
ended_still (Stuck p) ending e = refl

-- and it ended with no value, if it found no step left
ends_otherwise : (state : State) (value : Value) → ends_with_steps state ≡ true → ending_of state ≡ Some (Done value) → ⊥
ends_otherwise (Unbegun arguments p) value e f = absurd (cc (e))
ends_otherwise (Going phase frames p) value e f = absurd (cc (e))
ends_otherwise (Pends phase pending frames p) value e f = absurd (cc (e))
ends_otherwise (Stuck p) value e f = absurd (cc (e))
ends_otherwise (Ended (Done v) phase p) value e f = absurd (cc (e))
ends_otherwise (Ended (Error error) phase p) value e f = absurd (cc (f))
ends_otherwise (Ended (Limit limit) phase p) value e f = absurd (cc (f))

never_both : (b : Bool) → b ≡ true → b ≡ false → ⊥
never_both true e f = absurd (cc (f))
never_both false e f = absurd (cc (e))

-- a turn is some moves
record Moved (code : CodeProgram) (old new : State) : Type 0 where
  count : ℕ
  is : moves code count old ≡ new

moved_by : (code : CodeProgram) (steps : ℕ) (old new : State) → Turns code steps old new → Moved code old new
moved_by code steps old new (inl turn) = record { count = turn.count; is = turn.is }
moved_by code steps old new (inr turn) = record { count = turn.count; is = turn.is }

-- What a turn of a reached run leaves.
pub record RunFalls (application : Application) (old new : State) : Type 0 where
  pub reached : StateIsReached application new
  pub grows : used old ≤ used new
  pub goes : ending_of new ≡ None → application.limits.steps - used new < application.limits.steps - used old

module _ (known : Known) where
  -- steps are used, and none is given back
  used_grow : (code : CodeProgram) (count : ℕ) (old new : State) → moves code count old ≡ new → used old ≤ used new
  used_grow code count old new is = subst (λ (s : State). used old ≤ used s) is (known.onward code count old).later.steps

  -- ---- a turn

  module _ (application : Application) (steps : ℕ) (old : State) (some : 1 ≤ steps) (reached : StateIsReached application old) where
    abbrev new : State
    new = turned application.code steps old

    turn : Turns application.code steps old new
    turn = known.made application.code application.grants steps old reached.valid

    own : OwnTurn application.code steps old (board_of old) new (board_of old)
    own = record { turns = turn; board = refl }

    -- a run that goes on went on before
    went_on : ending_of new ≡ None → (o : Option Ending) → ending_of old ≡ o → ending_of old ≡ None
    went_on goes None e = e
    went_on goes (Some ending) e =
        let moved = moved_by application.code steps old new turn in
        let same : new ≡ old = sym moved.is ∙ known.stay application.code old moved.count (ended_still old ending e) in
        absurd (cc (sym goes ∙ (ap ending_of same ∙ e)))

    falls : ending_of new ≡ None → application.limits.steps - used new < application.limits.steps - used old
    falls goes =
        let went = went_on goes (ending_of old) refl in
        let less = known.lower application false steps old (board_of old) new (board_of old) own reached some went in
        let before : left_for (record { application = application; state = old }) ≡ suc (application.limits.steps - used old)
        = ap (λ (o : Option Ending). left_by o (record { application = application; state = old })) went in
        let after : left_for (record { application = application; state = new }) ≡ suc (application.limits.steps - used new)
        = ap (λ (o : Option Ending). left_by o (record { application = application; state = new })) goes in
        omega (arith, less, before, after)

    pub run_falls : RunFalls application old (turned application.code steps old)
    run_falls =
        let moved = moved_by application.code steps old new turn in
        record {
          reached = known.reach application false steps old (board_of old) new (board_of old) own reached;
          grows = used_grow application.code moved.count old new moved.is;
          goes = falls;
        }

    -- ---- a send

    -- a send that comes to its end with a value has used a step
    module _ (before : State) (begins : SendBegins application before old) (value : Value)
        (ends : ending_of (turned application.code steps old) ≡ Some (Done value)) where
      first : (count : ℕ) → MoveTook true (progress_of old) (move application.code old)
          → moves application.code count (move application.code old) ≡ new → suc (used old) ≤ used new
      first count (inl one) is =
          let more = used_grow application.code count (move application.code old) new is in
          omega (arith, one, more)
      first count (inr none) is =
          let still = limited_still (move application.code old) none.ended in
          let same : move application.code old ≡ new = sym (known.stay application.code (move application.code old) count still) ∙ is in
          absurd (ends_otherwise (move application.code old) value none.ended (ap ending_of same ∙ ends))

      by_moves : (count : ℕ) → moves application.code count old ≡ new → suc (used old) ≤ used new
      by_moves zero is = absurd (never_both (is_still old) (ended_still old (Done value) (ap ending_of is ∙ ends)) begins.on)
      by_moves (suc count) is =
          let can = can_move application.code application.grants (known.keeps application.code application.grants) old reached.valid in
          first count
          (subst (λ (b : Bool). MoveTook b (progress_of old) (move application.code old)) begins.charges (known.took application.code old begins.on can))
          is

      pub send_uses : suc (used old) ≤ used (turned application.code steps old)
      send_uses = let moved = moved_by application.code steps old new turn in by_moves moved.count moved.is
