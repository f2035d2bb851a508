-- A turn of one of the actors, with what is posted after it.
use Rattle.std.proofs.Common.{◌≡◌, ◌<◌, ℕ, List, ◌++◌, refl, sym, ap, ◌∙◌, subst, Option, Some, slice_get, length, map}
use Rattle.std.specs.Prelude.{slice_set}
use Rattle.std.proofs.lemmas.List.{map-set, set-set}
use Rattle.ns_actors.specs.declared.letter.Letter.{Letter}
use Rattle.ns_actors.specs.declared.turn.ActorTurn.{ActorTurn}
use Rattle.ns_actors.specs.Actor.{ActorView, Stage, Opening, Between, Sending, Holding, Stopped}
use Rattle.ns_actors.specs.Laws.{HeldTurnsKeepActors}
use Rattle.ns_actors.specs.Stated.{AreActors, IsActor}
use Rattle.ns_actors.specs.Turn.{ActorsView, Taken, answering, delivered, held_after, held_for, settled, turn_for, turn_of, turn_taken}
use Rattle.ns_actors_calls.specs.declared.actor.Actor.{Actor}
use Rattle.ns_actors_calls.specs.Posting.{HasTurned, alone, settled_at, settled_of}
use Rattle.ns_actors_calls.specs.Shown.{shown}
use Rattle.ns_actors_calls.specs.Seen.{seen}
use Rattle.ns_actors_calls.proofs.Lists.{set_got}
use Rattle.ns_actors_calls.proofs.Told.{get_shown, length_shown}

-- ---- what is seen of all

-- with the actor of a turn in its place, what settles is what the turn leaves
turn_settles : (k steps : ℕ) (view : ActorsView) (old new : ActorView) (answer : ActorTurn) → slice_get view.actors k ≡ Some old → k < length view.actors
    → answering answer new ≡ turn_taken k steps (length view.actors) old
    → record { actors = settled_at k (slice_set view.actors k new); host = view.host } ≡ (turn_of k steps view).view
turn_settles k steps view old new answer got within e =
    let new_is : new ≡ (turn_taken k steps (length view.actors) old).actor = ap (λ (t : Taken). t.actor) e in
    ap (λ (o : Option ActorView). record { actors = settled_of o k (slice_set view.actors k new); host = view.host }) (set_got view.actors k new within)
    ∙ (by new.stage refl
    ∙ (ap (λ (a : ActorView). settled a.stage k a view) new_is
    ∙ ap (λ (o : Option ActorView). (turn_for o k steps view).view) (sym got)))
  where
    by : (stage : Stage) → new.stage ≡ stage
        → record { actors = (settled new.stage k new (alone (slice_set view.actors k new))).actors; host = view.host }
        ≡ settled new.stage k new view
    by stage e =
        ap (λ (s : Stage). record { actors = (settled s k new (alone (slice_set view.actors k new))).actors; host = view.host }) e
        ∙ (at stage ∙ ap (λ (s : Stage). settled s k new view) (sym e))
      where
        at : (s : Stage) → record { actors = (settled s k new (alone (slice_set view.actors k new))).actors; host = view.host }
            ≡ settled s k new view
        at Opening = ap (λ (actors : List ActorView). record { actors = actors; host = view.host }) (set-set view.actors k new new)
        at (Between behaviour) = ap (λ (actors : List ActorView). record { actors = actors; host = view.host }) (set-set view.actors k new new)
        at (Sending behaviour) = ap (λ (actors : List ActorView). record { actors = actors; host = view.host }) (set-set view.actors k new new)
        at (Holding behaviour letters) =
            ap (λ (actors : List ActorView). record { actors = delivered 0 letters actors; host = view.host })
            (set-set view.actors k new (record new { stage = Between behaviour; posted = new.posted ++ letters }))
        at (Stopped why) = ap (λ (actors : List ActorView). record { actors = actors; host = view.host }) (set-set view.actors k new new)

turn_answers : (k steps : ℕ) (view : ActorsView) (old new : ActorView) (answer : ActorTurn) → slice_get view.actors k ≡ Some old
    → answering answer new ≡ turn_taken k steps (length view.actors) old → Some answer ≡ (turn_of k steps view).answer
turn_answers k steps view old new answer got e =
    ap (λ (t : Taken). Some t.answer) e ∙ ap (λ (o : Option ActorView). (turn_for o k steps view).answer) (sym got)

turn_holds : (k steps : ℕ) (view : ActorsView) (old new : ActorView) (answer : ActorTurn) → slice_get view.actors k ≡ Some old
    → answering answer new ≡ turn_taken k steps (length view.actors) old
    → record { actors = slice_set view.actors k new; host = view.host } ≡ held_after k steps view
turn_holds k steps view old new answer got e =
    ap (λ (t : Taken). record { actors = slice_set view.actors k t.actor; host = view.host }) e
    ∙ ap (λ (o : Option ActorView). held_for o k steps view) (sym got)

-- ---- one of those that are kept

-- it has made its turn, as the law of a turn counts actors
as_seen : (k steps : ℕ) (host : List Letter) (old : List Actor) (one two : Actor) (answer : ActorTurn)
    → answering answer (shown two) ≡ turn_taken k steps (length old) (shown one)
    → answering answer (shown two) ≡ turn_taken k steps (length (seen host old).actors) (shown one)
as_seen k steps host old one two answer e =
    e ∙ ap (λ (n : ℕ). turn_taken k steps n (shown one)) (sym (length_shown old))

-- what it holds is posted
pub has_turned : (k steps : ℕ) (host : List Letter) (old new : List Actor) (one two : Actor) (answer : ActorTurn) → slice_get old k ≡ Some one
    → k < length old → answering answer (shown two) ≡ turn_taken k steps (length old) (shown one)
    → map shown new ≡ settled_at k (map shown (slice_set old k two)) → HasTurned k steps answer (seen host old) (seen host new)
has_turned k steps host old new one two answer got within e settles =
    let there = get_shown old k one got in
    let turns = as_seen k steps host old one two answer e in
    record {
      after =
          ap (λ (views : List ActorView). record { actors = views; host = host })
          (settles ∙ ap (settled_at k) (map-set shown old k two))
          ∙ turn_settles k steps (seen host old) (shown one) (shown two) answer there
          (subst (λ (n : ℕ). k < n) (sym (length_shown old)) within) turns;
      answer_is = turn_answers k steps (seen host old) (shown one) (shown two) answer there turns;
    }

-- it is held
pub has_held : (k steps : ℕ) (host : List Letter) (old new : List Actor) (one two : Actor) (answer : ActorTurn) → slice_get old k ≡ Some one
    → answering answer (shown two) ≡ turn_taken k steps (length old) (shown one)
    → map shown new ≡ map shown (slice_set old k two) → seen host new ≡ held_after k steps (seen host old)
has_held k steps host old new one two answer got e same =
    ap (λ (views : List ActorView). record { actors = views; host = host }) (same ∙ map-set shown old k two)
    ∙ turn_holds k steps (seen host old) (shown one) (shown two) answer (get_shown old k one got) (as_seen k steps host old one two answer e)

-- ---- what holds of each

pub own_is : (host : List Letter) (actors : List Actor) (k : ℕ) (actor : Actor) → AreActors (seen host actors) → slice_get actors k ≡ Some actor
    → IsActor k (length actors) (shown actor)
own_is host actors k actor are got =
    subst (λ (n : ℕ). IsActor k n (shown actor)) (length_shown actors) (are.each k (shown actor) (get_shown actors k actor got))

-- also before what it holds is posted
pub own_stays : (k steps : ℕ) (host : List Letter) (old : List Actor) (one two actor : Actor) (answer : ActorTurn) → HeldTurnsKeepActors
    → AreActors (seen host old) → slice_get old k ≡ Some one → answering answer (shown two) ≡ turn_taken k steps (length old) (shown one)
    → slice_get (slice_set old k two) k ≡ Some actor → IsActor k (length (slice_set old k two)) (shown actor)
own_stays k steps host old one two actor answer law are got e there =
    own_is host (slice_set old k two) k actor
    (subst AreActors (sym (has_held k steps host old (slice_set old k two) one two answer got e refl)) (law k steps (seen host old) are)) there
