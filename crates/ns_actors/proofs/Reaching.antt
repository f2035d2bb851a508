-- Where a send begins its run is reached, and its outbox has no more letters than the limit on cells.
use Rattle.std.proofs.Common.{◌≡◌, ◌≤◌, ℕ, List, [], ◌∷◌, refl, ap, ◌∙◌, subst, arith, Option, Some, None, Bool, true, slice_get, length}
use Rattle.std.proofs.lemmas.Option.{get_or_from_slice_get}
use Rattle.ns_base.specs.declared.limits.Limits.{Limits}
use Rattle.ns_base.specs.declared.selector.Sel.{Sel}
use Rattle.ns_code.specs.declared.program.CodeProgram.{CodeProgram}
use Rattle.ns_code.specs.Selector.{has_name}
use Rattle.ns_facets.specs.Board.{value_of}
use Rattle.ns_facets.specs.declared.row.Grants.{Grants}
use Rattle.ns_machine.specs.Asking.{named}
use Rattle.ns_moves.specs.Beginning.{HostKeepsValid}
use Rattle.ns_moves.specs.Charging.{will_charge}
use Rattle.ns_moves.specs.Starts.{begun}
use Rattle.ns_moves.specs.State.{State, Unbegun, Going, Pends, Ended, Stuck, ending_of, is_idle, world_of}
use Rattle.ns_session.specs.Member.{Application}
use Rattle.ns_session.specs.Reached.{StateIsReached}
use Rattle.ns_world.specs.World.{World}
use Rattle.ns_world.specs.declared.ending.Ending.{Ending}
use Rattle.ns_world.specs.declared.ending.Ending.TheVariants.{Done, Error, Limit}
use Rattle.ns_world.specs.declared.value.Value.{Value}
use Rattle.ns_actors.specs.declared.letter.Letter.{Letter}
use Rattle.ns_actors.specs.Actor.{ActorView, Stage, Between}
use Rattle.ns_actors.specs.Alone.{letters_at, letters_in}
use Rattle.ns_actors.specs.Laws.{SendBegins, SendsBegin}
use Rattle.ns_actors.specs.Stated.{IsActor, LetterIsGood, StandsAt}
use Rattle.ns_actors.specs.Turn.{sending}
use Rattle.ns_actors.proofs.Begins.{may_begin}
use Rattle.ns_actors.proofs.Kept.{begins, lawful_of}
use Rattle.ns_actors.proofs.Lists.{within_is}
use Rattle.ns_actors.proofs.Short.{outbox_short}

-- ---- outboxes

few_in : (ending : Option Ending) (application : Application) (state : State) (k count : ℕ) (letters : List Letter) → StateIsReached application state
    → letters_in ending application k count state ≡ Some letters → length letters ≤ application.limits.cells
few_in (Some (Done v)) application state k count letters reached e =
    let few = outbox_short application.code (world_of state).cells v k count letters e in
    let within = (lawful_of application.code application.grants state reached.valid).within.cells in
    let same = ap (λ (l : Limits). l.cells) reached.limits_are in
    omega (arith, few, within, same)
few_in (Some (Error error)) application state k count letters reached e = absurd (cc (e))
few_in (Some (Limit limit)) application state k count letters reached e = absurd (cc (e))
few_in None application state k count letters reached e = absurd (cc (e))

pub outbox_few : (application : Application) (state : State) (k count : ℕ) (letters : List Letter) → StateIsReached application state
    → letters_at application k count state ≡ Some letters → length letters ≤ application.limits.cells
outbox_few application state k count letters reached e = few_in (ending_of state) application state k count letters reached e

pub steps_within : (application : Application) (state : State) → StateIsReached application state → (world_of state).steps ≤ application.limits.steps
steps_within application state reached =
    let within = (lawful_of application.code application.grants state reached.valid).within.steps in
    let same = ap (λ (l : Limits). l.steps) reached.limits_are in
    omega (arith, within, same)

-- ---- sends

-- a send that waits charges a step
waits_to_charge : (code : CodeProgram) (receiver : Value) (sel : Sel) (arguments : List Value) (state : State) → is_idle state ≡ true
    → will_charge code (begun receiver sel arguments state) ≡ true
waits_to_charge code receiver sel arguments (Unbegun args p) idle = refl
waits_to_charge code receiver sel arguments (Ended (Done v) phase p) idle = refl
waits_to_charge code receiver sel arguments (Ended (Error error) phase p) idle = absurd (cc (idle))
waits_to_charge code receiver sel arguments (Ended (Limit limit) phase p) idle = absurd (cc (idle))
waits_to_charge code receiver sel arguments (Going phase frames p) idle = absurd (cc (idle))
waits_to_charge code receiver sel arguments (Pends phase pending frames p) idle = absurd (cc (idle))
waits_to_charge code receiver sel arguments (Stuck p) idle = absurd (cc (idle))

pub send_begins : ((code : CodeProgram) (grants : Grants) → HostKeepsValid code grants) → SendsBegin
send_begins hosts k count behaviour letter actor is e got known =
    let at : StandsAt (Between behaviour) k count actor = subst (λ (s : Stage). StandsAt s k count actor) e is.stage in
    let within = within_is actor.box actor.taken letter got in
    let good : LetterIsGood count letter
    = subst (LetterIsGood count) (get_or_from_slice_get actor.box actor.taken letter letter got) (is.box actor.taken letter within) in
    let may = may_begin behaviour letter actor (at.1) (at.0).live known good.one in
    let sel = named actor.application.code letter.sel in
    let start = begins behaviour sel (value_of letter.arg ∷ []) actor.state may.idle in
    record {
      reached = record {
        valid = hosts actor.application.code actor.application.grants behaviour sel (value_of letter.arg ∷ []) actor.state is.reached.valid may;
        limits_are = ap (λ (w : World). w.limits) start.world ∙ is.reached.limits_are;
        begun = start.has;
      };
      world = start.world;
      on = start.on;
      charges = waits_to_charge actor.application.code behaviour sel (value_of letter.arg ∷ []) actor.state may.idle;
    }
