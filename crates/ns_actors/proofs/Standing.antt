-- After a turn an actor stands, and has posted, as it would alone with the letters that it has taken.
use Rattle.std.proofs.Common.{◌≡◌, ◌≤◌, ℕ, zero, suc, ◌+◌, ◌-◌, List, [], ◌∷◌, ◌++◌, refl, sym, ap, ap₂, ◌∙◌, subst, arith, Option, Some, None, Bool, true, false, slice_get, length, take, append-nil, append_assoc, IsSome, if◌then◌else◌}
use Rattle.ns_code.specs.declared.program.CodeProgram.{CodeProgram}
use Rattle.ns_code.specs.Selector.{has_name}
use Rattle.ns_facets.specs.Board.{value_of}
use Rattle.ns_facets.specs.declared.row.Grants.{Grants}
use Rattle.ns_moves.specs.Doubling.{times}
use Rattle.ns_moves.specs.Falling.{power_left}
use Rattle.ns_moves.specs.laws.Doubling.{leads}
use Rattle.ns_run_code.specs.Machine.{rested}
use Rattle.ns_moves.specs.Move.{move, moves}
use Rattle.ns_moves.specs.Starts.{begun}
use Rattle.ns_moves.specs.State.{State, Unbegun, Going, Pends, Ended, Stuck, ending_of, world_of}
use Rattle.ns_moves.specs.Turn.{charges, is_still}
use Rattle.ns_moves.specs.Valid.{Valid}
use Rattle.ns_session.specs.Member.{Application}
use Rattle.ns_session.specs.Turned.{TurnUnderway, is_over, moved_on, steps_behind, turned}
use Rattle.ns_world.specs.declared.ending.Ending.{Ending}
use Rattle.ns_world.specs.declared.ending.Ending.TheVariants.{Done, Error, Limit}
use Rattle.ns_world.specs.declared.value.Value.{Value}
use Rattle.ns_machine.specs.Asking.{named}
use Rattle.ns_actors.specs.declared.letter.Letter.{Letter}
use Rattle.ns_actors.specs.Actor.{ActorView, Stage, Opening, Between, Sending, Holding, Stopped, dealt_with}
use Rattle.ns_actors.specs.Alone.{alone, after_letters, answered, answered_where, behaviour_of, joined, letters_at, opened, posts, posts_after, posts_where}
use Rattle.ns_run_code.specs.Resting.{MovesKeepRest, StillIsRested}
use Rattle.ns_actors.specs.Outbox.{outbox}
use Rattle.ns_actors.specs.Stated.{PostsAlone, StandsAlone}
use Rattle.ns_actors.specs.Turn.{done_in, ran_to, receiving, run_on, sending, with_outbox}
use Rattle.ns_actors.proofs.Lists.{take_before, take_next}
use Rattle.ns_actors.proofs.Turning.{ran_stage}

-- ---- a turn is some moves

pub record Moved (code : CodeProgram) (old new : State) : Type 0 where
  pub count : ℕ
  pub is : moves code count old ≡ new

abbrev next_of : CodeProgram → TurnUnderway → TurnUnderway
next_of code turn = record { steps = steps_behind (charges code turn.state) turn.steps; state = move code turn.state }

times_moved : (code : CodeProgram) (count : ℕ) (turn : TurnUnderway) → Moved code turn.state (times (moved_on code) count turn).state
times_moved code zero turn = record { count = 0; is = refl }
times_moved code (suc count) turn = by (is_over code turn) refl (times_moved code count)
  where
    by : (b : Bool) → is_over code turn ≡ b → ((other : TurnUnderway) → Moved code other.state (times (moved_on code) count other).state)
        → Moved code turn.state (times (moved_on code) count (moved_on code turn)).state
    by true e rest =
        let same : moved_on code turn ≡ turn = ap (λ (b : Bool). if b then turn else next_of code turn) e in
        let more = rest turn in
        record { count = more.count; is = more.is ∙ ap (λ (t : TurnUnderway). (times (moved_on code) count t).state) (sym same) }
    by false e rest =
        let same : moved_on code turn ≡ next_of code turn = ap (λ (b : Bool). if b then turn else next_of code turn) e in
        let more = rest (next_of code turn) in
        record { count = suc more.count; is = more.is ∙ ap (λ (t : TurnUnderway). (times (moved_on code) count t).state) (sym same) }

pub turned_moved : (code : CodeProgram) (steps : ℕ) (state : State) → Moved code state (turned code steps state)
turned_moved code steps state =
    let led = leads (is_over code) (moved_on code) 0 (power_left code (world_of state).limits) (record { steps = steps; state = state }) in
    let more = times_moved code led.count (record { steps = steps; state = state }) in
    record { count = more.count; is = more.is ∙ ap (λ (t : TurnUnderway). t.state) led.is }

-- a state with an ending moves no more
pub answered_still : (state : State) → IsSome (ending_of state) → is_still state ≡ true
answered_still (Unbegun arguments p) some = refl
answered_still (Going phase frames p) some = absurd (cc (some))
answered_still (Pends phase pending frames p) some = absurd (cc (some))
answered_still (Ended ending phase p) some = refl
answered_still (Stuck p) some = refl

-- ---- one letter more

after_next : (application : Application) (behaviour : Value) (letters : List Letter) (letter : Letter) (state : State)
    → after_letters application behaviour (letters ++ letter ∷ []) state ≡ answered application behaviour letter (after_letters application behaviour letters state)
after_next application behaviour [] letter state = refl
after_next application behaviour (first ∷ letters) letter state = after_next application behaviour letters letter (answered application behaviour first state)

pub alone_next : (application : Application) (letters : List Letter) (letter : Letter)
    → alone application (letters ++ letter ∷ []) ≡ answered application (behaviour_of application) letter (alone application letters)
alone_next application letters letter = after_next application (behaviour_of application) letters letter (opened application)

joined_none : (letters : Option (List Letter)) → joined letters (Some []) ≡ joined (Some []) letters
joined_none None = refl
joined_none (Some letters) = ap Some (append-nil letters)

joined_more : (one two three : Option (List Letter)) → joined one (joined two three) ≡ joined (joined one two) three
joined_more None two three = refl
joined_more (Some one) None three = refl
joined_more (Some one) (Some two) None = refl
joined_more (Some one) (Some two) (Some three) = ap Some (sym (append_assoc one two three))

posts_next_from : (application : Application) (behaviour : Value) (k count : ℕ) (letters : List Letter) (letter : Letter) (state : State)
    → posts_after application behaviour k count (letters ++ letter ∷ []) state
    ≡ joined (posts_after application behaviour k count letters state)
    (posts_where (has_name application.code letter.sel) application k count (after_letters application behaviour (letters ++ letter ∷ []) state))
posts_next_from application behaviour k count [] letter state =
    joined_none (posts_where (has_name application.code letter.sel) application k count (answered application behaviour letter state))
posts_next_from application behaviour k count (first ∷ letters) letter state =
    ap (joined (posts_where (has_name application.code first.sel) application k count (answered application behaviour first state)))
    (posts_next_from application behaviour k count letters letter (answered application behaviour first state))
    ∙ joined_more (posts_where (has_name application.code first.sel) application k count (answered application behaviour first state))
    (posts_after application behaviour k count letters (answered application behaviour first state))
    (posts_where (has_name application.code letter.sel) application k count
    (after_letters application behaviour (letters ++ letter ∷ []) (answered application behaviour first state)))

pub posts_next : (application : Application) (k count : ℕ) (letters : List Letter) (letter : Letter)
    → posts application k count (letters ++ letter ∷ [])
    ≡ joined (posts application k count letters) (posts_where (has_name application.code letter.sel) application k count (alone application (letters ++ letter ∷ [])))
posts_next application k count letters letter = posts_next_from application (behaviour_of application) k count letters letter (opened application)

-- ---- what is known of rest

pub record Known (code : CodeProgram) (grants : Grants) : Type 0 where
  pub moves : MovesKeepRest code grants
  pub still : StillIsRested code grants

-- ---- point 3

module _ (grants : Grants) (k steps count : ℕ) where
  -- a run that goes on
  pub run_stands : (actor : ActorView) → Known actor.application.code grants → Valid actor.application.code grants actor.state → StandsAlone actor
      → StandsAlone (run_on k steps count actor).actor
  run_stands actor known valid stands =
      let now : ActorView = record actor { state = turned actor.application.code steps actor.state } in
      let moved = turned_moved actor.application.code steps actor.state in
      let rest = ap (rested actor.application.code) (sym moved.is) ∙ known.moves moved.count actor.state valid in
      subst StandsAlone (sym (ran_stage (ending_of now.state) k count now)) (rest ∙ stands)

-- where it is at rest, it is there
pub stands_here : (grants : Grants) (actor : ActorView) → Known actor.application.code grants → Valid actor.application.code grants actor.state → StandsAlone actor
    → is_still actor.state ≡ true → actor.state ≡ alone actor.application (take actor.taken actor.box)
stands_here grants actor known valid stands still = sym (known.still actor.state valid still) ∙ stands

-- a send begins
pub sending_stands : (behaviour : Value) (letter : Letter) (actor : ActorView) → actor.state ≡ alone actor.application (take actor.taken actor.box)
    → behaviour_of actor.application ≡ behaviour → slice_get actor.box actor.taken ≡ Some letter → has_name actor.application.code letter.sel ≡ true
    → StandsAlone (sending behaviour letter actor)
sending_stands behaviour letter actor here opened got named_it =
    ap (λ (s : State). rested actor.application.code (begun behaviour (named actor.application.code letter.sel) (value_of letter.arg ∷ []) s)) here
    ∙ (ap (λ (b : Value). rested actor.application.code
    (begun b (named actor.application.code letter.sel) (value_of letter.arg ∷ []) (alone actor.application (take actor.taken actor.box)))) (sym opened)
    ∙ (sym (ap (λ (t : Bool). answered_where t actor.application (behaviour_of actor.application) letter (alone actor.application (take actor.taken actor.box))) named_it)
    ∙ (sym (alone_next actor.application (take actor.taken actor.box) letter)
    ∙ ap (alone actor.application) (sym (take_next actor.taken actor.box letter got)))))

-- a letter that its code doesn't name is taken
pub unknown_stands : (letter : Letter) (actor : ActorView) → StandsAlone actor → slice_get actor.box actor.taken ≡ Some letter
    → has_name actor.application.code letter.sel ≡ false → StandsAlone (record actor { taken = actor.taken + 1 })
unknown_stands letter actor stands got unnamed =
    stands
    ∙ (sym (ap (λ (t : Bool). answered_where t actor.application (behaviour_of actor.application) letter (alone actor.application (take actor.taken actor.box))) unnamed)
    ∙ (sym (alone_next actor.application (take actor.taken actor.box) letter)
    ∙ ap (alone actor.application) (sym (take_next actor.taken actor.box letter got))))

-- letters that come behind its box change nothing of it
pub received_stands : (letters : List Letter) (actor : ActorView) → actor.taken ≤ length actor.box → StandsAlone actor → StandsAlone (receiving letters actor)
received_stands letters actor few stands = stands ∙ ap (alone actor.application) (sym (take_before actor.taken actor.box letters few))

-- ---- points 4 and 5

dealt_few : (stage : Stage) (n : ℕ) → dealt_with stage n ≤ n
dealt_few Opening n = omega arith
dealt_few (Between behaviour) n = omega arith
dealt_few (Sending behaviour) n = omega arith
dealt_few (Holding behaviour letters) n = omega arith
dealt_few (Stopped why) n = omega arith

pub received_posts : (k count : ℕ) (letters : List Letter) (actor : ActorView) → actor.taken ≤ length actor.box → PostsAlone k count actor
    → PostsAlone k count (receiving letters actor)
received_posts k count letters actor few alike =
    let less = dealt_few actor.stage actor.taken in
    ap (posts actor.application k count) (take_before (dealt_with actor.stage actor.taken) actor.box letters (omega (arith, few, less))) ∙ alike

-- It opens and has taken none, or it is in a send: its run has a turn.
abbrev pub IsRunning : Stage → ℕ → Type 0
IsRunning Opening n = n ≡ 0
IsRunning (Between behaviour) n = ⊥
IsRunning (Sending behaviour) n = Unit {0}
IsRunning (Holding behaviour letters) n = ⊥
IsRunning (Stopped why) n = ⊥

-- such a turn deals with no letter
outbox_dealt : (behaviour : Value) (actor : ActorView) (letters : Option (List Letter)) (n : ℕ)
    → dealt_with (with_outbox behaviour actor letters).actor.stage n ≡ n - 1
outbox_dealt behaviour actor None n = refl
outbox_dealt behaviour actor (Some letters) n = refl

done_dealt : (stage : Stage) (k count : ℕ) (v : Value) (actor : ActorView) (n : ℕ) → IsRunning stage n
    → dealt_with (done_in stage k count v actor).actor.stage n ≡ dealt_with stage n
done_dealt Opening k count v actor n run = refl
done_dealt (Between behaviour) k count v actor n run = absurd run
done_dealt (Sending behaviour) k count v actor n run = outbox_dealt behaviour actor (outbox actor.application.code (world_of actor.state).cells v k count) n
done_dealt (Holding behaviour letters) k count v actor n run = absurd run
done_dealt (Stopped why) k count v actor n run = absurd run

stopped_dealt : (stage : Stage) (n : ℕ) → IsRunning stage n → n - 1 ≡ dealt_with stage n
stopped_dealt Opening n run = omega (arith, run)
stopped_dealt (Between behaviour) n run = absurd run
stopped_dealt (Sending behaviour) n run = refl
stopped_dealt (Holding behaviour letters) n run = absurd run
stopped_dealt (Stopped why) n run = absurd run

ran_dealt : (ending : Option Ending) (k count : ℕ) (actor : ActorView) (n : ℕ) → IsRunning actor.stage n
    → dealt_with (ran_to ending k count actor).actor.stage n ≡ dealt_with actor.stage n
ran_dealt None k count actor n run = refl
ran_dealt (Some (Done v)) k count actor n run = done_dealt actor.stage k count v actor n run
ran_dealt (Some (Error error)) k count actor n run = stopped_dealt actor.stage n run
ran_dealt (Some (Limit limit)) k count actor n run = stopped_dealt actor.stage n run

pub run_posts : (k steps count : ℕ) (actor : ActorView) → IsRunning actor.stage actor.taken → PostsAlone k count actor → PostsAlone k count (run_on k steps count actor).actor
run_posts k steps count actor run alike =
    let now : ActorView = record actor { state = turned actor.application.code steps actor.state } in
    subst (PostsAlone k count) (sym (ran_stage (ending_of now.state) k count now))
    (ap (λ n. posts actor.application k count (take n actor.box)) (ran_dealt (ending_of now.state) k count now actor.taken run) ∙ alike)

-- a send begins: the letter isn't dealt with yet
pub sending_posts : (k count : ℕ) (behaviour : Value) (letter : Letter) (actor : ActorView)
    → posts actor.application k count (take actor.taken actor.box) ≡ Some actor.posted → PostsAlone k count (sending behaviour letter actor)
sending_posts k count behaviour letter actor alike =
    let same : actor.taken + 1 - 1 ≡ actor.taken = omega arith in
    ap (λ n. posts actor.application k count (take n actor.box)) same ∙ alike

-- a letter that its code doesn't name posts nothing
pub unknown_posts : (k count : ℕ) (letter : Letter) (actor : ActorView) → posts actor.application k count (take actor.taken actor.box) ≡ Some actor.posted
    → slice_get actor.box actor.taken ≡ Some letter → has_name actor.application.code letter.sel ≡ false
    → posts actor.application k count (take (actor.taken + 1) actor.box) ≡ Some actor.posted
unknown_posts k count letter actor alike got unnamed =
    ap (posts actor.application k count) (take_next actor.taken actor.box letter got)
    ∙ (posts_next actor.application k count (take actor.taken actor.box) letter
    ∙ (ap₂ joined alike
    (ap (λ (t : Bool). posts_where t actor.application k count (alone actor.application (take actor.taken actor.box ++ letter ∷ []))) unnamed)
    ∙ ap Some (append-nil actor.posted)))

-- What it holds is posted: the letter that it took last is dealt with.
pub posted_posts : (k count before : ℕ) (letter : Letter) (letters : List Letter) (actor : ActorView) → actor.taken ≡ before + 1
    → posts actor.application k count (take before actor.box) ≡ Some actor.posted → slice_get actor.box before ≡ Some letter
    → has_name actor.application.code letter.sel ≡ true → actor.state ≡ alone actor.application (take actor.taken actor.box)
    → letters_at actor.application k count actor.state ≡ Some letters
    → posts actor.application k count (take actor.taken actor.box) ≡ Some (actor.posted ++ letters)
posted_posts k count before letter letters actor one alike got named_it here are =
    let next : take actor.taken actor.box ≡ take before actor.box ++ letter ∷ [] = ap (λ n. take n actor.box) one ∙ take_next before actor.box letter got in
    ap (posts actor.application k count) next
    ∙ (posts_next actor.application k count (take before actor.box) letter
    ∙ ap₂ joined alike
    (ap (λ (t : Bool). posts_where t actor.application k count (alone actor.application (take before actor.box ++ letter ∷ []))) named_it
    ∙ (ap (λ (s : State). letters_at actor.application k count s) (sym (here ∙ ap (alone actor.application) next)) ∙ are)))
