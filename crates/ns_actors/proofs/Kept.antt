-- All that holds of actors is kept: by one more actor, by a letter of the host, and by a turn.
use Rattle.std.proofs.Common.{◌≡◌, ℕ, ◌+◌, ◌-◌, List, [], ◌∷◌, ◌++◌, refl, sym, ap, ◌∙◌, subst, arith, Option, Some, None, Bool, true, false, slice_get, take, IsSome, All}
use Rattle.std.proofs.lemmas.Option.{same_Some, get_or_from_slice_get}
use Rattle.std.proofs.lemmas.List.Elements.{All-append}
use Rattle.ns_code.specs.declared.program.CodeProgram.{CodeProgram}
use Rattle.ns_code.specs.Fits.{Fits}
use Rattle.ns_code.specs.Selector.{has_name}
use Rattle.ns_base.specs.declared.selector.Sel.{Sel}
use Rattle.ns_facets.specs.Board.{value_of}
use Rattle.ns_facets.specs.declared.row.Grants.{Grants}
use Rattle.ns_run_code.specs.Machine.{rested}
use Rattle.ns_moves.specs.Beginning.{HostKeepsValid}
use Rattle.ns_moves.specs.MovesOnward.{MovesGoOnward}
use Rattle.ns_moves.specs.Standing.{MovesKeepValid}
use Rattle.ns_moves.specs.Starts.{begun}
use Rattle.ns_moves.specs.State.{Start, First, Second, Hosted, State, Unbegun, Going, Pends, Ended, Stuck, ending_of, is_idle, world_of}
use Rattle.ns_moves.specs.Turn.{is_still}
use Rattle.ns_moves.specs.Valid.{Valid}
use Rattle.ns_session.specs.Member.{Application, MayStart}
use Rattle.ns_session.specs.Reached.{HasBegun, StateIsReached}
use Rattle.ns_session.specs.Turned.{turned}
use Rattle.ns_world.specs.Later.{IsLater, Lasts}
use Rattle.ns_world.specs.World.{World}
use Rattle.ns_world.specs.Lawful.{IsLawful, IsLiveValue}
use Rattle.ns_world.specs.declared.ending.Ending.{Ending}
use Rattle.ns_world.specs.declared.ending.Ending.TheVariants.{Done, Error, Limit}
use Rattle.ns_world.specs.declared.ending.LimitKind.TheVariants.{Steps, Cells, Depth, Out}
use Rattle.ns_world.specs.declared.value.Value.{Value}
use Rattle.ns_machine.specs.Asking.{named}
use Rattle.ns_actors.specs.declared.letter.Letter.{Letter}
use Rattle.ns_actors.specs.Actor.{ActorView, Stage, Opening, Between, Sending, Holding, Stopped}
use Rattle.ns_actors.specs.Alone.{alone, letters_at, letters_in, opened, value_at, value_in}
use Rattle.ns_actors.proofs.Premises.{KnowsRest, StaysBegun}
use Rattle.ns_actors.specs.Outbox.{outbox}
use Rattle.ns_actors.specs.Stated.{HasAnswered, IsActor, LetterIsGood, StandsAlone, StandsAt}
use Rattle.ns_actors.specs.Turn.{done_in, next_taken, ran_to, run_on, sending, taken_by, turn_at, turn_taken, with_outbox}
use Rattle.ns_actors.proofs.Begins.{may_begin}
use Rattle.ns_actors.proofs.Good.{letters_at_are_spelled}
use Rattle.ns_actors.proofs.Held.{letters_at_are_from}
use Rattle.ns_actors.proofs.Lists.{within_is}
use Rattle.ns_actors.proofs.Stands.{IsKept, posted_right, turn_kept}
use Rattle.ns_actors.proofs.Standing.{IsRunning, Known, Moved, answered_still, sending_stands, stands_here, turned_moved}
use Rattle.ns_actors.proofs.Turning.{OnlyStage, ran_stage, turn_keeps}

-- ---- what an ended run has

-- the world of a valid state is lawful
pub lawful_of : (code : CodeProgram) (grants : Grants) (state : State) → Valid code grants state → IsLawful (world_of state) code
lawful_of code grants (Unbegun arguments p) valid = valid.0.lawful
lawful_of code grants (Going phase frames p) valid = valid.0.world.lawful
lawful_of code grants (Pends phase pending frames p) valid = valid.0.world.lawful
lawful_of code grants (Stuck p) valid = absurd valid
lawful_of code grants (Ended (Done v) Start p) valid = absurd valid
lawful_of code grants (Ended (Done v) (First arguments) p) valid = absurd valid
lawful_of code grants (Ended (Done v) Second p) valid = valid.0.lawful
lawful_of code grants (Ended (Done v) Hosted p) valid = valid.0.lawful
lawful_of code grants (Ended (Error error) Start p) valid = absurd valid
lawful_of code grants (Ended (Error error) (First arguments) p) valid = valid.0.lawful
lawful_of code grants (Ended (Error error) Second p) valid = valid.0.lawful
lawful_of code grants (Ended (Error error) Hosted p) valid = valid.0.lawful
lawful_of code grants (Ended (Limit Cells) Start p) valid = valid.lawful
lawful_of code grants (Ended (Limit Steps) Start p) valid = absurd valid
lawful_of code grants (Ended (Limit Depth) Start p) valid = absurd valid
lawful_of code grants (Ended (Limit Out) Start p) valid = absurd valid
lawful_of code grants (Ended (Limit Cells) (First arguments) p) valid = valid.0.lawful
lawful_of code grants (Ended (Limit Steps) (First arguments) p) valid = valid.0.lawful
lawful_of code grants (Ended (Limit Depth) (First arguments) p) valid = valid.0.lawful
lawful_of code grants (Ended (Limit Out) (First arguments) p) valid = valid.0.lawful
lawful_of code grants (Ended (Limit Cells) Second p) valid = valid.0.lawful
lawful_of code grants (Ended (Limit Steps) Second p) valid = valid.0.lawful
lawful_of code grants (Ended (Limit Depth) Second p) valid = valid.0.lawful
lawful_of code grants (Ended (Limit Out) Second p) valid = valid.0.lawful
lawful_of code grants (Ended (Limit Cells) Hosted p) valid = valid.0.lawful
lawful_of code grants (Ended (Limit Steps) Hosted p) valid = valid.0.lawful
lawful_of code grants (Ended (Limit Depth) Hosted p) valid = valid.0.lawful
lawful_of code grants (Ended (Limit Out) Hosted p) valid = valid.0.lawful

-- the value that a valid run ended with is live
done_live : (code : CodeProgram) (grants : Grants) (state : State) (v : Value) → Valid code grants state → ending_of state ≡ Some (Done v)
    → IsLiveValue (world_of state).cells code v
done_live code grants (Unbegun arguments p) v valid e = absurd (cc (e))
done_live code grants (Going phase frames p) v valid e = absurd (cc (e))
done_live code grants (Pends phase pending frames p) v valid e = absurd (cc (e))
done_live code grants (Stuck p) v valid e = absurd (cc (e))
done_live code grants (Ended (Error error) phase p) v valid e = absurd (cc (e))
done_live code grants (Ended (Limit limit) phase p) v valid e = absurd (cc (e))
done_live code grants (Ended (Done w) Start p) v valid e = absurd valid
done_live code grants (Ended (Done w) (First arguments) p) v valid e = absurd valid
done_live code grants (Ended (Done w) Second p) v valid e = subst (IsLiveValue p.world.cells code) (ap value_in e) (valid.1.0)
done_live code grants (Ended (Done w) Hosted p) v valid e = subst (IsLiveValue p.world.cells code) (ap value_in e) (valid.1.0)

answered_now : (actor : ActorView) (v : Value) → ending_of actor.state ≡ Some (Done v) → HasAnswered actor
answered_now actor v e =
    (λ ending f. (v, same_Some ending (Done v) (sym f ∙ e)), subst (λ (o : Option Ending). IsSome o) (sym e) refl)

ended_still : (actor : ActorView) (ending : Ending) → ending_of actor.state ≡ Some ending → is_still actor.state ≡ true
ended_still actor ending e = answered_still actor.state (subst (λ (o : Option Ending). IsSome o) (sym e) refl)

-- where a send begins, the world is the same, something was begun, and it goes on
pub record Begins (state later : State) : Type 0 where
  pub world : world_of later ≡ world_of state
  pub has : HasBegun later
  pub on : is_still later ≡ false

pub begins : (receiver : Value) (sel : Sel) (arguments : List Value) (state : State) → is_idle state ≡ true → Begins state (begun receiver sel arguments state)
begins receiver sel arguments (Unbegun args p) idle = record { world = refl; has = tt; on = refl }
begins receiver sel arguments (Ended (Done v) phase p) idle = record { world = refl; has = tt; on = refl }
begins receiver sel arguments (Ended (Error error) phase p) idle = absurd (cc (idle))
begins receiver sel arguments (Ended (Limit limit) phase p) idle = absurd (cc (idle))
begins receiver sel arguments (Going phase frames p) idle = absurd (cc (idle))
begins receiver sel arguments (Pends phase pending frames p) idle = absurd (cc (idle))
begins receiver sel arguments (Stuck p) idle = absurd (cc (idle))

-- the letters of an outbox are good, and from the actor
pub good_of : (application : Application) → Fits application.code → (k count : ℕ) (state : State) (letters : List Letter) → letters_at application k count state ≡ Some letters
    → All (λ (letter : Letter). LetterIsGood count letter × (letter.from ≡ k)) letters
good_of application fits k count state letters e =
    let from = letters_at_are_from application k count state letters e in
    let spelled = letters_at_are_spelled application fits k count state letters e in
    λ n d w. (record { selector = (spelled n d w).selector; one = (spelled n d w).one; there = (from n d w).there }, (from n d w).from)

-- ---- a turn

-- An actor that was reached, and of which its stage says what it should.
pub record IsFull (k count : ℕ) (actor : ActorView) : Type 0 where
  pub reached : StateIsReached actor.application actor.state
  pub stage : StandsAt actor.stage k count actor

module _ (rest : KnowsRest) (stays : StaysBegun) (hosts : (code : CodeProgram) (grants : Grants) → HostKeepsValid code grants)
    (keeps : (code : CodeProgram) (grants : Grants) → MovesKeepValid code grants) (onward : (code : CodeProgram) → MovesGoOnward code)
    (lives : (value : Value) → Lasts (λ heap code. IsLiveValue heap code value)) (k steps count : ℕ) where
  outbox_at : (behaviour : Value) (v : Value) (actor : ActorView) (o : Option (List Letter)) → outbox actor.application.code (world_of actor.state).cells v k count ≡ o
      → ending_of actor.state ≡ Some (Done v) → StandsAt (Sending behaviour) k count actor
      → StandsAt (with_outbox behaviour actor o).actor.stage k count (with_outbox behaviour actor o).actor
  outbox_at behaviour v actor None e ended at = (ended_still actor (Done v) ended, answered_now actor v ended)
  outbox_at behaviour v actor (Some letters) e ended at = (
    record { is = at.0.is; live = at.0.live },
    at.1,
    answered_now actor v ended,
    ap (λ (o : Option Ending). letters_in o actor.application k count actor.state) ended ∙ e,
    at.2,
  )

  done_at : (stage : Stage) (v : Value) (actor : ActorView) → ending_of actor.state ≡ Some (Done v) → IsRunning stage actor.taken → StandsAt stage k count actor → StandsAlone actor
      → Valid actor.application.code actor.application.grants actor.state
      → StandsAt (done_in stage k count v actor).actor.stage k count (done_in stage k count v actor).actor
  done_at Opening v actor ended run at stands valid =
      let still = ended_still actor (Done v) ended in
      let here : actor.state ≡ alone actor.application (take actor.taken actor.box)
      = sym ((rest actor.application.code actor.application.grants).1 actor.state valid still) ∙ stands in
      let start : actor.state ≡ opened actor.application = here ∙ ap (λ n. alone actor.application (take n actor.box)) run in
      (record { is = ap value_at (sym start) ∙ ap value_in ended; live = done_live actor.application.code actor.application.grants actor.state v valid ended }, answered_now actor v ended)
  done_at (Between behaviour) v actor ended run at stands valid = absurd run
  done_at (Sending behaviour) v actor ended run at stands valid =
      outbox_at behaviour v actor (outbox actor.application.code (world_of actor.state).cells v k count) refl ended at
  done_at (Holding behaviour letters) v actor ended run at stands valid = absurd run
  done_at (Stopped why) v actor ended run at stands valid = absurd run

  ran_at : (ending : Option Ending) (actor : ActorView) → ending_of actor.state ≡ ending → IsRunning actor.stage actor.taken → StandsAt actor.stage k count actor → StandsAlone actor
      → Valid actor.application.code actor.application.grants actor.state → StandsAt (ran_to ending k count actor).actor.stage k count (ran_to ending k count actor).actor
  ran_at None actor ended run at stands valid = at
  ran_at (Some (Done v)) actor ended run at stands valid = done_at actor.stage v actor ended run at stands valid
  ran_at (Some (Error error)) actor ended run at stands valid = (ended_still actor (Error error) ended, ended)
  ran_at (Some (Limit limit)) actor ended run at stands valid = (ended_still actor (Limit limit) ended, ended)

  run_full : (actor : ActorView) → IsRunning actor.stage actor.taken → StandsAt actor.stage k count actor → StateIsReached actor.application actor.state → StandsAlone actor
      → IsFull k count (run_on k steps count actor).actor
  run_full actor run at reached stands = record {
    reached = subst (λ (a : ActorView). StateIsReached a.application a.state) (sym only) reached_now;
    stage = ran_at (ending_of now_state) (record actor { state = now_state }) refl run (at_stage actor.stage run at) (same_rest ∙ stands) reached_now.valid;
  }
    where
      now_state : State
      now_state = turned actor.application.code steps actor.state

      moved : Moved actor.application.code actor.state now_state
      moved = turned_moved actor.application.code steps actor.state

      only : OnlyStage (record actor { state = now_state }) (run_on k steps count actor).actor
      only = ran_stage (ending_of now_state) k count (record actor { state = now_state })

      reached_now : StateIsReached actor.application now_state
      reached_now = subst (StateIsReached actor.application) moved.is (record {
        valid = keeps actor.application.code actor.application.grants moved.count actor.state reached.valid;
        limits_are = (onward actor.application.code moved.count actor.state).later.limits ∙ reached.limits_are;
        begun = stays actor.application.code moved.count actor.state reached.begun;
      })

      same_rest : rested actor.application.code now_state ≡ rested actor.application.code actor.state
      same_rest = ap (rested actor.application.code) (sym moved.is) ∙ (rest actor.application.code actor.application.grants).0 moved.count actor.state reached.valid

      live_now : (v : Value) → IsLiveValue (world_of actor.state).cells actor.application.code v → IsLiveValue (world_of now_state).cells actor.application.code v
      live_now v live = lives v actor.application.code (world_of actor.state) (world_of now_state) (record {
        before = lawful_of actor.application.code actor.application.grants actor.state reached.valid;
        after = lawful_of actor.application.code actor.application.grants now_state reached_now.valid;
        later = subst (λ (s : State). IsLater (world_of actor.state) (world_of s)) moved.is (onward actor.application.code moved.count actor.state).later;
      }) live

      at_stage : (stage : Stage) → IsRunning stage actor.taken → StandsAt stage k count actor → StandsAt stage k count (record actor { state = now_state })
      at_stage Opening run at = at
      at_stage (Between behaviour) run at = absurd run
      at_stage (Sending behaviour) run at = (record { is = at.0.is; live = live_now behaviour at.0.live }, at.1, at.2)
      at_stage (Holding behaviour letters) run at = absurd run
      at_stage (Stopped why) run at = absurd run

  module _ (actor : ActorView) (is : IsActor k count actor) where
    stage_at : (stage : Stage) → actor.stage ≡ stage → StandsAt stage k count actor
    stage_at stage e = subst (λ (s : Stage). StandsAt s k count actor) e is.stage

    taken_full : (b : Bool) (behaviour : Value) (letter : Letter) → has_name actor.application.code letter.sel ≡ b → actor.stage ≡ Between behaviour
        → slice_get actor.box actor.taken ≡ Some letter → IsFull k count (taken_by b behaviour letter k steps count actor).actor
    taken_full true behaviour letter named_it e got =
        let at : StandsAt (Between behaviour) k count actor = stage_at (Between behaviour) e in
        let within = within_is actor.box actor.taken letter got in
        let good : LetterIsGood count letter = subst (LetterIsGood count) (get_or_from_slice_get actor.box actor.taken letter letter got) (is.box actor.taken letter within) in
        let may = may_begin behaviour letter actor (at.1) (at.0).live named_it good.one in
        let start = begins behaviour (named actor.application.code letter.sel) (value_of letter.arg ∷ []) actor.state may.idle in
        let known : Known actor.application.code actor.application.grants =
        record { moves = (rest actor.application.code actor.application.grants).0; still = (rest actor.application.code actor.application.grants).1 } in
        let here = stands_here actor.application.grants actor known is.reached.valid is.alone (answered_still actor.state (at.1.1)) in
        let same : actor.taken + 1 - 1 ≡ actor.taken = omega arith in
        run_full (sending behaviour letter actor) tt (
          record { is = (at.0).is; live = subst (λ (w : World). IsLiveValue w.cells actor.application.code behaviour) (sym start.world) (at.0).live },
          omega arith,
          λ one f. subst (λ (m : Letter). has_name actor.application.code m.sel ≡ true) (same_Some letter one (sym got ∙ (ap (λ n. slice_get actor.box n) (sym same) ∙ f))) named_it,
        ) (record {
          valid = hosts actor.application.code actor.application.grants behaviour (named actor.application.code letter.sel) (value_of letter.arg ∷ []) actor.state is.reached.valid may;
          limits_are = ap (λ (w : World). w.limits) start.world ∙ is.reached.limits_are;
          begun = start.has;
        }) (sending_stands behaviour letter actor here (at.0).is got named_it)
    taken_full false behaviour letter unnamed e got =
        let at : StandsAt (Between behaviour) k count actor = stage_at (Between behaviour) e in
        record {
          reached = is.reached;
          stage = subst (λ (s : Stage). StandsAt s k count (record actor { taken = actor.taken + 1 })) (sym e) (record { is = (at.0).is; live = (at.0).live }, at.1);
        }

    next_full : (o : Option Letter) (behaviour : Value) → actor.stage ≡ Between behaviour → slice_get actor.box actor.taken ≡ o
        → IsFull k count (next_taken o behaviour k steps count actor).actor
    next_full None behaviour e got = record { reached = is.reached; stage = is.stage }
    next_full (Some letter) behaviour e got = taken_full (has_name actor.application.code letter.sel) behaviour letter refl e got

    turn_at_full : (stage : Stage) → actor.stage ≡ stage → IsFull k count (turn_at stage k steps count actor).actor
    turn_at_full Opening e = run_full actor (subst (λ (s : Stage). IsRunning s actor.taken) (sym e) (stage_at Opening e)) is.stage is.reached is.alone
    turn_at_full (Between behaviour) e = next_full (slice_get actor.box actor.taken) behaviour e refl
    turn_at_full (Sending behaviour) e = run_full actor (subst (λ (s : Stage). IsRunning s actor.taken) (sym e) tt) is.stage is.reached is.alone
    turn_at_full (Holding behaviour letters) e = record { reached = is.reached; stage = is.stage }
    turn_at_full (Stopped why) e = record { reached = is.reached; stage = is.stage }

    pub turn_is : IsActor k count (turn_taken k steps count actor).actor
    turn_is =
        let same = turn_keeps k steps count actor in
        let kept = turn_kept rest hosts keeps k steps count actor is in
        let full = turn_at_full actor.stage refl in
        record {
          may = subst MayStart (sym same.application) is.may;
          boardless = ap (λ (a : Application). a.grants.board) same.application ∙ is.boardless;
          reached = full.reached;
          stage = full.stage;
          takes = kept.right.takes;
          alone = kept.right.stands;
          posts = kept.right.alike;
          box = subst (All (LetterIsGood count)) (sym same.box) is.box;
          posted = subst (All (λ (letter : Letter). LetterIsGood count letter × (letter.from ≡ k))) (sym same.posted) is.posted;
        }

  -- what it holds is posted
  pub own_is : (behaviour : Value) (letters : List Letter) (now : ActorView) → now.stage ≡ Holding behaviour letters → IsActor k count now → IsKept rest hosts keeps k steps count now
      → IsActor k count (record now { stage = Between behaviour; posted = now.posted ++ letters })
  own_is behaviour letters now e is kept =
      let at : StandsAt (Holding behaviour letters) k count now = subst (λ (s : Stage). StandsAt s k count now) e is.stage in
      let right = posted_right rest hosts keeps k steps count behaviour letters now e kept in
      record {
        may = is.may;
        boardless = is.boardless;
        reached = is.reached;
        stage = (record { is = (at.0).is; live = (at.0).live }, at.2);
        takes = right.takes;
        alone = right.stands;
        posts = right.alike;
        box = is.box;
        posted = All-append (λ (letter : Letter). LetterIsGood count letter × (letter.from ≡ k)) now.posted letters is.posted (good_of now.application is.may.fits k count now.state letters (at.3));
      }
