-- The states that an application of a session reaches, and how its turns use up its steps.
use Rattle.std.proofs.Common.{◌≡◌, ℕ, zero, suc, ◌+◌, ◌≤◌, ◌<◌, List, [], ◌∷◌, refl, ap, sym, ◌∙◌, subst, inl, inr, arith, Bool, true, false, Option, Some, None}
use Rattle.std.specs.Prelude.{slice_get, slice_set}
use Rattle.std.proofs.lemmas.Option.{same_Some}
use Rattle.ns_base.specs.declared.limits.Limits.{Limits}
use Rattle.ns_code.specs.declared.program.CodeProgram.{CodeProgram}
use Rattle.ns_facets.specs.declared.row.Grants.{Grants}
use Rattle.ns_facets.specs.declared.board.Board.{Board}
use Rattle.ns_world.specs.declared.ending.Ending.{Ending}
use Rattle.ns_moves.specs.State.{State, Unbegun, Going, Pends, Ended, Stuck, world_of, ending_of, swapped}
use Rattle.ns_moves.specs.Move.{moves}
use Rattle.ns_moves.specs.Turn.{is_still, charged_in, one_if, Turns}
use Rattle.ns_moves.specs.MovesOnward.{MovesGoOnward}
use Rattle.ns_moves.specs.Standing.{MovesKeepValid}
use Rattle.ns_moves.specs.WorldStays.{SwapsKeepValid}
use Rattle.ns_moves.specs.Valid.{Valid}
use Rattle.ns_moves.specs.laws.Still.{moves_on}
use Rattle.ns_moves.specs.Start.{start_made}
use Rattle.ns_session.specs.Member.{Application, MemberView, start_of, taken, board_of, TurnOf}
use Rattle.ns_session.specs.Reached.{HasBegun, StateIsReached, left_by, left_for, left_of}
use Rattle.ns_session.specs.Laws.{TurnsReach, TurnsLower}
use Rattle.ns_session.proofs.Begun.{moves_begun, started_begun}
use Rattle.ns_session.proofs.Counting.{Known, used, counted}
use Rattle.ns_session.proofs.Starting.{start_unused}

-- ---- what a turn keeps

-- what another board leaves of a state
world_swapped : (board : Board) (s : State) → world_of (swapped board s) ≡ world_of s
world_swapped board (Unbegun arguments p) = refl
world_swapped board (Going phase frames p) = refl
world_swapped board (Pends phase pending frames p) = refl
world_swapped board (Ended ending phase p) = refl
world_swapped board (Stuck p) = refl

ending_swapped : (board : Board) (s : State) → ending_of (swapped board s) ≡ ending_of s
ending_swapped board (Unbegun arguments p) = refl
ending_swapped board (Going phase frames p) = refl
ending_swapped board (Pends phase pending frames p) = refl
ending_swapped board (Ended ending phase p) = refl
ending_swapped board (Stuck p) = refl

begun_swapped : (board : Board) (s : State) → HasBegun s → HasBegun (swapped board s)
begun_swapped board (Unbegun arguments p) h = h
begun_swapped board (Going phase frames p) h = tt
begun_swapped board (Pends phase pending frames p) h = tt
begun_swapped board (Ended ending phase p) h = tt
begun_swapped board (Stuck p) h = tt

-- what is known of moves and of boards
pub record KnownMoves (application : Application) : Type 0 where
  pub keeps : MovesKeepValid application.code application.grants
  pub onward : MovesGoOnward application.code
  pub swaps : SwapsKeepValid application.code application.grants

swap_reaches : (application : Application) → KnownMoves application → (board : Board) (s : State) → StateIsReached application s →
    StateIsReached application (swapped board s)
swap_reaches application k board s is = record {
  valid = k.swaps board s is.valid;
  limits_are = ap (λ w. w.limits) (world_swapped board s) ∙ is.limits_are;
  begun = begun_swapped board s is.begun;
}

moves_reach : (application : Application) → KnownMoves application → (count : ℕ) (old new : State) →
    moves application.code count old ≡ new → StateIsReached application old
    → StateIsReached application new
moves_reach application k count old new e is = subst (StateIsReached application) e (record {
  valid = k.keeps count old is.valid;
  limits_are = (k.onward count old).later.limits ∙ is.limits_are;
  begun = moves_begun application.code count old is.begun;
})

turns_reach : (application : Application) → KnownMoves application → (steps : ℕ) (old new : State) → Turns application.code steps old new →
    StateIsReached application old
    → StateIsReached application new
turns_reach application k steps old new (inl turn) is = moves_reach application k turn.count old new turn.is is
turns_reach application k steps old new (inr turn) is = moves_reach application k turn.count old new turn.is is

turn_reached : (granted : Bool) (application : Application) → KnownMoves application →
    (steps : ℕ) (old : State) (board : Board) (new : State) (left : Board)
    → TurnOf granted application.code steps old board new left → StateIsReached application old → StateIsReached application new
turn_reached true application k steps old board new left turn is =
    subst (StateIsReached application) (sym turn.state)
    (swap_reaches application k (board_of old) turn.inside
    (turns_reach application k steps (swapped board old) turn.inside turn.turns (swap_reaches application k board old is)))
turn_reached false application k steps old board new left turn is = turns_reach application k steps old new turn.turns is

pub turn_reaches : (application : Application) → KnownMoves application → TurnsReach application
turn_reaches application k granted = turn_reached granted application k

pub start_reached : (application : Application) → Valid application.code application.grants (start_of application) →
    StateIsReached application (start_of application)
start_reached application valid = record {
  valid = valid;
  limits_are = (start_unused application).limits_are;
  begun = started_begun application.code (start_made application.code application.grants [] application.limits);
}

-- ---- steps are used up

-- a run that has begun and hasn't ended moves on
on : (code : CodeProgram) (grants : Grants) (s : State) → Valid code grants s → HasBegun s → ending_of s ≡ None → is_still s ≡ false
on code grants (Unbegun arguments p) valid begun e = absurd begun
on code grants (Stuck p) valid begun e = absurd valid
on code grants (Ended ending phase p) valid begun e = absurd (cc)
on code grants (Going phase frames p) valid begun e = refl
on code grants (Pends phase pending frames p) valid begun e = refl

within : (code : CodeProgram) (grants : Grants) (s : State) → Valid code grants s → is_still s ≡ false → used s ≤ (world_of s).limits.steps
within code grants (Unbegun arguments p) valid e = absurd (cc)
within code grants (Ended ending phase p) valid e = absurd (cc)
within code grants (Stuck p) valid e = absurd (cc)
within code grants (Going phase frames p) valid e = valid.0.world.lawful.within.steps
within code grants (Pends phase pending frames p) valid e = valid.0.world.lawful.within.steps

still_or : (b : Bool) → b ≡ true → b ≡ false → ⊥
still_or true e f = absurd (cc)
still_or false e f = absurd (cc)

-- A turn after which the run goes on has used all of its steps, and they are within the limit.
record UsesAll (limit steps before after : ℕ) : Type 0 where
  all : steps + before ≤ after
  few : after ≤ limit

uses : (application : Application) → Known application.code application.grants → KnownMoves application → (steps : ℕ) (old new : State) →
    Turns application.code steps old new → StateIsReached application old
    → StateIsReached application new → ending_of new ≡ None → UsesAll application.limits.steps steps (used old) (used new)
uses application known k steps old new (inr turn) is are e =
    absurd (still_or (is_still new) turn.still (on application.code application.grants new are.valid are.begun e))
uses application known k steps old new (inl turn) is are e =
    let going = on application.code application.grants new are.valid are.begun e in
    let most = subst (λ (s : State). charged_in application.code turn.count old + used old ≤ taken s) turn.is
    (counted application.code application.grants known turn.count old is.valid).most in
    let same = ap (λ b. used new + one_if b 0) (moves_on new going) in
    let charged = turn.charged in
    let few = within application.code application.grants new are.valid going in
    let at = ap (λ (l : Limits). l.steps) are.limits_are in
    record { all = omega (arith, most, same, charged); few = omega (arith, few, at) }

turn_uses : (granted : Bool) (application : Application) → Known application.code application.grants → KnownMoves application →
    (steps : ℕ) (old : State) (board : Board) (new : State) (left : Board)
    → TurnOf granted application.code steps old board new left → StateIsReached application old → ending_of new ≡ None
    → UsesAll application.limits.steps steps (used old) (used new)
turn_uses true application known k steps old board new left turn is e =
    let inside = turns_reach application k steps (swapped board old) turn.inside turn.turns (swap_reaches application k board old is) in
    let goes = sym (ending_swapped (board_of old) turn.inside) ∙ (ap ending_of (sym turn.state) ∙ e) in
    let u = uses application known k steps (swapped board old) turn.inside turn.turns (swap_reaches application k board old is) inside goes in
    let before = ap (λ w. w.steps) (world_swapped board old) in
    let after = ap (λ (s : State). used s) turn.state ∙ ap (λ w. w.steps) (world_swapped (board_of old) turn.inside) in
    let all = u.all in
    let few = u.few in
    record { all = omega (arith, all, before, after); few = omega (arith, few, after) }
turn_uses false application known k steps old board new left turn is e =
    uses application known k steps old new turn.turns is (turns_reach application k steps old new turn.turns is) e

lowered : (granted : Bool) (application : Application) → Known application.code application.grants → KnownMoves application →
    (steps : ℕ) (old : State) (board : Board) (new : State) (left : Board)
    → TurnOf granted application.code steps old board new left → StateIsReached application old → 1 ≤ steps → (ending : Option Ending) → ending_of new ≡ ending
    → left_by ending (record { application = application; state = new }) < left_by None (record { application = application; state = old })
lowered granted application known k steps old board new left turn is some (Some ending) e = omega arith
lowered granted application known k steps old board new left turn is some None e =
    let u = turn_uses granted application known k steps old board new left turn is e in
    let all = u.all in
    let few = u.few in
    omega (arith, all, few, some)

-- so less is left for it
pub turn_lowers : (application : Application) → Known application.code application.grants → KnownMoves application → TurnsLower application
turn_lowers application known k granted steps old board new left turn is some goes =
    subst (λ (e : Option Ending). left_for (record { application = application; state = new }) < left_by e (record { application = application; state = old }))
    (sym goes) (lowered granted application known k steps old board new left turn is some (ending_of new) refl)

-- and for all
pub one_lowers : (members : List MemberView) (number : ℕ) (old new : MemberView) → slice_get members number ≡ Some old →
    left_for new < left_for old
    → left_of (slice_set members number new) < left_of members
one_lowers [] number old new e less = absurd (cc)
one_lowers (member ∷ members) zero old new e less =
    let same : member ≡ old = same_Some member old e in
    let at = ap left_for same in
    omega (arith, less, at)
one_lowers (member ∷ members) (suc number) old new e less = let rest = one_lowers members number old new e less in omega (arith, rest)
