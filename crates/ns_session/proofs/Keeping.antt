-- What holds of an application at every moment: from its start on, and after each turn.
use Rattle.std.proofs.Common.{◌≡◌, ℕ, refl, sym, subst, Option, Bool, true, false}
use Rattle.ns_base.specs.declared.limits.Limits.{Limits}
use Rattle.ns_world.specs.declared.ending.Ending.{Ending}
use Rattle.ns_facets.specs.declared.board.Board.{Board}
use Rattle.ns_facets.specs.declared.row.Grants.{Grants}
use Rattle.ns_moves.specs.State.{State, ending_of}
use Rattle.ns_machine.specs.Machine.{MachineView}
use Rattle.ns_session.specs.Member.{Application, MayStart, start_of, IsAlone, KeepsAlone, TurnOf}
use Rattle.ns_session.specs.Kept.{member_shown, IsMember}
use Rattle.ns_session.specs.Laws.{StartsAlone, TurnsStayAlone, StartsReached, TurnsReach}

-- ---- the start

keeps : (granted : Bool) (application : Application) (state : State) → IsAlone application state → KeepsAlone granted application state
keeps true application state alone = tt
keeps false application state alone = alone

-- a machine of an application that has started
abbrev started_machine : Application → MachineView
started_machine application = record { code = application.code; grants = application.grants; state = start_of application }

pub kept_start : (application : Application) (machine : MachineView) (ending : Option Ending) → MayStart application →
    StartsAlone application
    → StartsReached application → machine ≡ started_machine application → ending ≡ ending_of machine.state
    → IsMember machine application.grants application.limits ending
kept_start application machine ending may alone reached is ends =
    subst (λ (m : MachineView). ending ≡ ending_of m.state → IsMember m application.grants application.limits ending) (sym is)
    (λ e. record {
      granted = refl;
      may = record { sound = may.sound; fits = may.fits; range = may.range };
      reached = reached may;
      alone = keeps application.grants.board application (start_of application) (alone may);
      ending_is = e;
    }) ends

-- ---- turns

turned : (granted : Bool) (application : Application) (steps : ℕ) (old : State) (shared : Board) (new : State) (left : Board) →
    MayStart application
    → TurnsStayAlone application → TurnOf granted application.code steps old shared new left → KeepsAlone granted application old
    → KeepsAlone granted application new
turned true application steps old shared new left may stay turn alone = tt
turned false application steps old shared new left may stay turn alone = stay may steps old new alone turn.turns

pub kept_turn : (old new : MachineView) (grants : Grants) (limits : Limits) (before after : Option Ending) (steps : ℕ) (shared left : Board)
    → IsMember old grants limits before → TurnsStayAlone (member_shown old grants limits).application → TurnsReach (member_shown old grants limits).application
    → TurnOf grants.board old.code steps old.state shared new.state left → new ≡ record old { state = new.state } → after ≡ ending_of new.state
    → IsMember new grants limits after
kept_turn old new grants limits before after steps shared left is stay reach turn rest ends =
    subst (λ (m : MachineView). IsMember m grants limits after) (sym rest)
    (let application = (member_shown old grants limits).application in
    record {
      granted = is.granted;
      may = is.may;
      reached = reach grants.board steps old.state shared new.state left turn is.reached;
      alone = turned grants.board application steps old.state shared new.state left is.may stay turn is.alone;
      ending_is = ends;
    })
