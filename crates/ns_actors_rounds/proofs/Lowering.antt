-- A turn of an actor that doesn't rest leaves less to do.
use Rattle.std.proofs.Common.{◌≡◌, ◌<◌, ◌≤◌, ℕ, zero, suc, ◌+◌, ◌-◌, ◌*◌, List, [], ◌∷◌, ◌++◌, refl, sym, ap, ◌∙◌, subst, arith, Option, Some, None, Bool, true, false, eqb, slice_get, length}
use Rattle.std.specs.Prelude.{slice_set}
use Rattle.std.proofs.Math.Nat.{mul-le-mul_right, suc-mul}
use Rattle.std.proofs.lemmas.Bool.{eqb-false}
use Rattle.ns_base.specs.declared.limits.Limits.{Limits}
use Rattle.ns_code.specs.Selector.{has_name}
use Rattle.ns_moves.specs.State.{State, ending_of, world_of}
use Rattle.ns_session.specs.Reached.{StateIsReached}
use Rattle.ns_session.specs.Turned.{turned}
use Rattle.ns_world.specs.World.{World}
use Rattle.ns_world.specs.declared.ending.Ending.{Ending}
use Rattle.ns_world.specs.declared.ending.Ending.TheVariants.{Done, Error, Limit}
use Rattle.ns_world.specs.declared.value.Value.{Value}
use Rattle.ns_actors.specs.declared.letter.Letter.{Letter}
use Rattle.ns_actors.specs.Actor.{ActorView, Stage, Opening, Between, Sending, Holding, Stopped}
use Rattle.ns_actors.specs.Alone.{letters_at, letters_in}
use Rattle.ns_actors.specs.Laws.{EndsAreShort, SendBegins, SendsBegin, StepsAreWithin}
use Rattle.ns_actors.specs.Outbox.{outbox}
use Rattle.ns_actors.specs.Rounds.{rests_at}
use Rattle.ns_actors.specs.Stated.{AreActors, IsActor, StandsAt}
use Rattle.ns_actors.specs.Turn.{ActorsView, done_in, next_taken, ran, ran_to, run_on, sending, settled, taken_by, turn_at, turn_for, turn_of, turn_taken, with_outbox}
use Rattle.ns_actors_rounds.specs.Left.{actor_left, all_left, left, letters_left, stage_left, steps_left}
use Rattle.ns_actors_rounds.proofs.Delivering.{delivers_few, set_left}
use Rattle.ns_actors_rounds.proofs.Falling.{Known, run_falls, send_uses}

-- ---- numbers

fewer_times : (a b c : ℕ) → a < b → a * c + c ≤ b * c
fewer_times a b c less =
    let more : suc a ≤ b = omega (arith, less) in
    let all = mul-le-mul_right c more in
    let each = suc-mul a c in
    omega (arith, all, each)

-- what is left without a next letter is none
got_none : {A : Type 0} (xs : List A) (k : ℕ) → slice_get xs k ≡ None → length xs ≤ k
got_none [] k e = omega arith
got_none (x ∷ xs) zero e = absurd (cc (e))
got_none (x ∷ xs) (suc k) e = let rest = got_none xs k e in omega (arith, rest)

got_some : {A : Type 0} (xs : List A) (k : ℕ) (x : A) → slice_get xs k ≡ Some x → k < length xs
got_some [] k x e = absurd (cc (e))
got_some (y ∷ xs) zero x e = omega arith
got_some (y ∷ xs) (suc k) x e = let rest = got_some xs k x e in omega (arith, rest)

-- ---- what is held is posted

-- what is left for an actor, once what it holds is posted, and for these letters
abbrev pub settled_left : Stage → ActorView → ℕ
settled_left Opening actor = actor_left actor
settled_left (Between behaviour) actor = actor_left actor
settled_left (Sending behaviour) actor = actor_left actor
settled_left (Holding behaviour letters) actor =
    actor_left (record actor { stage = Between behaviour; posted = actor.posted ++ letters }) + length letters
settled_left (Stopped why) actor = actor_left actor

pub posting_left : (stage : Stage) (k : ℕ) (old new : ActorView) (view : ActorsView) → slice_get view.actors k ≡ Some old
    → left (settled stage k new view) + actor_left old ≤ left view + settled_left stage new
posting_left Opening k old new view got = let set = set_left view.actors k old new got in omega (arith, set)
posting_left (Between behaviour) k old new view got = let set = set_left view.actors k old new got in omega (arith, set)
posting_left (Sending behaviour) k old new view got = let set = set_left view.actors k old new got in omega (arith, set)
posting_left (Stopped why) k old new view got = let set = set_left view.actors k old new got in omega (arith, set)
posting_left (Holding behaviour letters) k old new view got =
    let own : ActorView = record new { stage = Between behaviour; posted = new.posted ++ letters } in
    let set = set_left view.actors k old own got in
    let few = delivers_few letters (slice_set view.actors k own) in
    omega (arith, set, few)

-- ---- what a run comes to

-- It opens, or is in a send.
abbrev pub Runs : Stage → Type 0
Runs Opening = Unit {0}
Runs (Between behaviour) = ⊥
Runs (Sending behaviour) = Unit {0}
Runs (Holding behaviour letters) = ⊥
Runs (Stopped why) = ⊥

-- how many letters may come of it at most
abbrev most_letters : Stage → Limits → ℕ
most_letters Opening limits = 0
most_letters (Between behaviour) limits = 0
most_letters (Sending behaviour) limits = limits.cells
most_letters (Holding behaviour letters) limits = 0
most_letters (Stopped why) limits = 0

fewer_letters : (stage : Stage) (limits : Limits) → Runs stage → most_letters stage limits < stage_left stage limits
fewer_letters Opening limits run = omega arith
fewer_letters (Sending behaviour) limits run = omega arith
fewer_letters (Between behaviour) limits run = absurd run
fewer_letters (Holding behaviour letters) limits run = absurd run
fewer_letters (Stopped why) limits run = absurd run

-- one that runs holds nothing
running_left : (stage : Stage) (actor : ActorView) → Runs stage → settled_left stage actor ≡ actor_left actor
running_left Opening actor run = refl
running_left (Sending behaviour) actor run = refl
running_left (Between behaviour) actor run = absurd run
running_left (Holding behaviour letters) actor run = absurd run
running_left (Stopped why) actor run = absurd run

-- what is left for an actor but for its stage
abbrev apart_left : ActorView → ℕ
apart_left actor = steps_left actor * (actor.application.limits.cells + 2) + letters_left actor

-- What a run comes to in a turn leaves less than so much.
record RunsBelow (bound : ℕ) (now : ActorView) : Type 0 where
  runs : Runs now.stage
  reached : StateIsReached now.application now.state
  goes : ending_of now.state ≡ None → apart_left now + stage_left now.stage now.application.limits < bound
  done : (value : Value) → ending_of now.state ≡ Some (Done value) → apart_left now + most_letters now.stage now.application.limits < bound
  ends : apart_left now < bound

module _ (short : EndsAreShort) (k count bound : ℕ) (now : ActorView) (is : RunsBelow bound now) where
  outbox_less : (behaviour value : Value) (o : Option (List Letter)) → outbox now.application.code (world_of now.state).cells value k count ≡ o
      → ending_of now.state ≡ Some (Done value) → apart_left now + now.application.limits.cells < bound
      → settled_left (with_outbox behaviour now o).actor.stage (with_outbox behaviour now o).actor < bound
  outbox_less behaviour value None e ends below = let less = is.ends in omega (arith, less)
  outbox_less behaviour value (Some letters) e ends below =
      let at : letters_at now.application k count now.state ≡ Some letters
      = ap (λ (o : Option Ending). letters_in o now.application k count now.state) ends ∙ e in
      let few = short now.application now.state k count letters is.reached at in
      omega (arith, few, below)

  done_less : (stage : Stage) (value : Value) → now.stage ≡ stage → ending_of now.state ≡ Some (Done value)
      → settled_left (done_in stage k count value now).actor.stage (done_in stage k count value now).actor < bound
  done_less Opening value e ends = let less = is.ends in omega (arith, less)
  done_less (Sending behaviour) value e ends =
      let all = is.done value ends in
      let same = ap (λ (s : Stage). most_letters s now.application.limits) e in
      outbox_less behaviour value (outbox now.application.code (world_of now.state).cells value k count) refl ends (omega (arith, all, same))
  done_less (Between behaviour) value e ends = absurd (subst Runs e is.runs)
  done_less (Holding behaviour letters) value e ends = absurd (subst Runs e is.runs)
  done_less (Stopped why) value e ends = absurd (subst Runs e is.runs)

  ran_less : (ending : Option Ending) → ending_of now.state ≡ ending
      → settled_left (ran_to ending k count now).actor.stage (ran_to ending k count now).actor < bound
  ran_less None e =
      let less = is.goes e in
      let same = running_left now.stage now is.runs in
      omega (arith, less, same)
  ran_less (Some (Done value)) e = done_less now.stage value refl e
  ran_less (Some (Error error)) e = let less = is.ends in omega (arith, less)
  ran_less (Some (Limit limit)) e = let less = is.ends in omega (arith, less)

-- ---- a turn

module _ (known : Known) (begin : SendsBegin) (short : EndsAreShort) (within : StepsAreWithin) (k steps count : ℕ) (some : 1 ≤ steps)
    (old : ActorView) (is : IsActor k count old) where
  -- its run goes on
  run_less : (stage : Stage) → old.stage ≡ stage → Runs stage
      → settled_left (run_on k steps count old).actor.stage (run_on k steps count old).actor < actor_left old
  run_less stage e run =
      let now : ActorView = record old { state = turned old.application.code steps old.state } in
      let falls = run_falls known old.application steps old.state some is.reached in
      let grows = falls.grows in
      let here : steps_left now ≤ steps_left old = omega (arith, grows) in
      let kept = mul-le-mul_right (old.application.limits.cells + 2) here in
      let runs : Runs old.stage = subst Runs (sym e) run in
      let room = fewer_letters old.stage old.application.limits runs in
      ran_less short k count (actor_left old) now (record {
        runs = runs;
        reached = falls.reached;
        goes = λ goes. let less = fewer_times (steps_left now) (steps_left old) (old.application.limits.cells + 2) (falls.goes goes) in omega (arith, less);
        done = λ value ends. omega (arith, kept, room);
        ends = omega (arith, kept, room);
      }) (ending_of now.state) refl

  -- it has taken a letter, and its send begins
  sends_less : (behaviour : Value) (letter : Letter) → old.stage ≡ Between behaviour → slice_get old.box old.taken ≡ Some letter
      → has_name old.application.code letter.sel ≡ true
      → settled_left (run_on k steps count (sending behaviour letter old)).actor.stage (run_on k steps count (sending behaviour letter old)).actor < actor_left old
  sends_less behaviour letter e got knows =
      let start : ActorView = sending behaviour letter old in
      let now : ActorView = record start { state = turned old.application.code steps start.state } in
      let begins = begin k count behaviour letter old is e got knows in
      let falls = run_falls known old.application steps start.state some begins.reached in
      let grows = falls.grows in
      let same = ap (λ (w : World). w.steps) begins.world in
      let here : steps_left now ≤ steps_left old = omega (arith, grows, same) in
      let kept = mul-le-mul_right (old.application.limits.cells + 2) here in
      let there = got_some old.box old.taken letter got in
      ran_less short k count (actor_left old) now (record {
        runs = tt;
        reached = falls.reached;
        goes = λ goes.
            let fewer = falls.goes goes in
            let fall : steps_left now < steps_left old = omega (arith, fewer, same) in
            let less = fewer_times (steps_left now) (steps_left old) (old.application.limits.cells + 2) fall in
            omega (arith, less, there);
        done = λ value ends.
            let uses = send_uses known old.application steps start.state some begins.reached old.state begins value ends in
            let most = within old.application now.state falls.reached in
            let fall : steps_left now < steps_left old = omega (arith, uses, most, same) in
            let less = fewer_times (steps_left now) (steps_left old) (old.application.limits.cells + 2) fall in
            omega (arith, less, there);
        ends = omega (arith, kept, there);
      }) (ending_of now.state) refl

  -- one that isn't known is taken
  passed_less : (behaviour : Value) (letter : Letter) → old.stage ≡ Between behaviour → slice_get old.box old.taken ≡ Some letter
      → settled_left old.stage (record old { taken = old.taken + 1 }) < actor_left old
  passed_less behaviour letter e got =
      let there = got_some old.box old.taken letter got in
      let same = ap (λ (s : Stage). settled_left s (record old { taken = old.taken + 1 })) e in
      omega (arith, there, same)

  taken_less : (b : Bool) (behaviour : Value) (letter : Letter) → has_name old.application.code letter.sel ≡ b → old.stage ≡ Between behaviour
      → slice_get old.box old.taken ≡ Some letter
      → settled_left (taken_by b behaviour letter k steps count old).actor.stage (taken_by b behaviour letter k steps count old).actor < actor_left old
  taken_less true behaviour letter knows e got = sends_less behaviour letter e got knows
  taken_less false behaviour letter knows e got = passed_less behaviour letter e got

  next_less : (o : Option Letter) (behaviour : Value) → slice_get old.box old.taken ≡ o → old.stage ≡ Between behaviour
      → rests_at (Between behaviour) old ≡ false
      → settled_left (next_taken o behaviour k steps count old).actor.stage (next_taken o behaviour k steps count old).actor < actor_left old
  next_less None behaviour got e on =
      let past = got_none old.box old.taken got in
      let takes = is.takes in
      let differ = eqb-false old.taken (length old.box) on in
      absurd (differ (omega (arith, past, takes)))
  next_less (Some letter) behaviour got e on = taken_less (has_name old.application.code letter.sel) behaviour letter refl e got

  held_less : (behaviour : Value) (letters : List Letter) → old.stage ≡ Holding behaviour letters → settled_left old.stage old < actor_left old
  held_less behaviour letters e =
      let at : StandsAt (Holding behaviour letters) k count old = subst (λ (s : Stage). StandsAt s k count old) e is.stage in
      let few = short old.application old.state k count letters is.reached (at.3) in
      let same = ap (λ (s : Stage). settled_left s old) e in
      let room = ap (λ (s : Stage). stage_left s old.application.limits) e in
      omega (arith, few, same, room)

  turn_less_at : (stage : Stage) → old.stage ≡ stage → rests_at stage old ≡ false
      → settled_left (turn_at stage k steps count old).actor.stage (turn_at stage k steps count old).actor < actor_left old
  turn_less_at Opening e on = run_less Opening e tt
  turn_less_at (Between behaviour) e on = next_less (slice_get old.box old.taken) behaviour refl e on
  turn_less_at (Sending behaviour) e on = run_less (Sending behaviour) e tt
  turn_less_at (Holding behaviour letters) e on = held_less behaviour letters e
  turn_less_at (Stopped why) e on = absurd (cc (on))

  pub turn_less : rests_at old.stage old ≡ false
      → settled_left (turn_taken k steps count old).actor.stage (turn_taken k steps count old).actor < actor_left old
  turn_less on = turn_less_at old.stage refl on

-- A turn of one that doesn't rest leaves less to do for all.
pub turn_lowers : Known → SendsBegin → EndsAreShort → StepsAreWithin → (k steps : ℕ) (view : ActorsView) → AreActors view → 1 ≤ steps
    → (actor : ActorView) → slice_get view.actors k ≡ Some actor → rests_at actor.stage actor ≡ false → left (turn_of k steps view).view < left view
turn_lowers known begin short within k steps view are some actor got on =
    let new : ActorView = (turn_taken k steps (length view.actors) actor).actor in
    let less = turn_less known begin short within k steps (length view.actors) some actor (are.each k actor got) on in
    let posts = posting_left new.stage k actor new view got in
    let same = ap (λ (o : Option ActorView). left (turn_for o k steps view).view) got in
    omega (arith, less, posts, same)
