-- All that holds of actors is kept by each call.
use Rattle.std.proofs.Common.{◌≡◌, ◌<◌, ◌≤◌, ℕ, zero, suc, ◌+◌, ◌-◌, List, [], ◌∷◌, ◌++◌, refl, sym, ◌∙◌, subst, arith, Option, Some, None, false, slice_get, length, take, All, eqb}
use Rattle.std.specs.Prelude.{slice_set}
use Rattle.std.specs.Option.{ForSome}
use Rattle.std.proofs.lemmas.Option.{same_Some}
use Rattle.std.proofs.lemmas.List.Elements.{All-append, All-filter, All-nil, All-cons}
use Rattle.ns_code.specs.declared.program.CodeProgram.{CodeProgram}
use Rattle.ns_facets.specs.declared.row.Grants.{Grants}
use Rattle.ns_moves.specs.Beginning.{HostKeepsValid}
use Rattle.ns_moves.specs.MovesOnward.{MovesGoOnward}
use Rattle.ns_moves.specs.Standing.{MovesKeepValid}
use Rattle.ns_session.specs.Member.{Application, MayStart, start_of}
use Rattle.ns_session.specs.Reached.{StateIsReached}
use Rattle.ns_world.specs.Later.{Lasts}
use Rattle.ns_world.specs.Lawful.{IsLiveValue}
use Rattle.ns_world.specs.declared.value.Value.{Value}
use Rattle.ns_actors.specs.declared.letter.Letter.{Letter}
use Rattle.ns_actors.specs.declared.turn.Stop.{Stop}
use Rattle.ns_actors.specs.declared.turn.Stop.TheVariants as stop
use Rattle.ns_actors.specs.Actor.{ActorView, Stage, Opening, Between, Sending, Holding, Stopped, dealt_with, starting}
use Rattle.ns_actors.proofs.Premises.{KnowsRest, StaysBegun}
use Rattle.ns_actors.specs.Stated.{AreActors, BoxesAgree, HasStopped, IsActor, KnowsLast, LetterIsGood, StandsAt}
use Rattle.ns_actors.specs.Turn.{ActorsView, added, delivered, held_for, host_number, letters_to, posted, posted_by, receiving, settled, turn_for, turn_taken, with_actor}
use Rattle.ns_actors.proofs.Boxes.{added_agrees, count_delivered, host_posts, posts_agree}
use Rattle.ns_actors.proofs.Growing.{letters_at_grow, posts_grow, was_there}
use Rattle.ns_actors.proofs.Kept.{good_of, own_is, turn_is}
use Rattle.ns_actors.proofs.Lists.{alike, last_got, length_set, longer, within_is}
use Rattle.ns_actors.proofs.Standing.{received_posts, received_stands}
use Rattle.ns_actors.proofs.Stands.{IsKept, delivered_all, set_each, turn_kept}
use Rattle.ns_actors.proofs.Turning.{all_below, held_agrees, turn_agrees}

-- ---- letters that come

before_both : {A : Type 0} (xs ys : List A) (n : ℕ) → n < length xs → slice_get (xs ++ ys) n ≡ slice_get xs n
before_both [] ys n within = absurd (omega (arith, within))
before_both (x ∷ xs) ys zero within = refl
before_both (x ∷ xs) ys (suc n) within = before_both xs ys n (omega (arith, within))

length_more : (xs ys : List Letter) → length xs ≤ length (xs ++ ys)
length_more [] ys = omega arith
length_more (x ∷ xs) ys = let rest = length_more xs ys in omega (arith, rest)

last_stays : (letters : List Letter) (actor : ActorView) → 1 ≤ actor.taken → actor.taken ≤ length actor.box → KnowsLast actor → KnowsLast (receiving letters actor)
last_stays letters actor some few known one got = known one (sym (before_both actor.box letters (actor.taken - 1) (omega (arith, some, few))) ∙ got)

stopped_stays : (why : Stop) (k count : ℕ) (letters : List Letter) (actor : ActorView) → HasStopped why k count actor → HasStopped why k count (receiving letters actor)
stopped_stays (stop.Ended ending) k count letters actor has = has
stopped_stays stop.BadOutbox k count letters actor has = has

stage_stays : (stage : Stage) (k count : ℕ) (letters : List Letter) (actor : ActorView) → actor.taken ≤ length actor.box → StandsAt stage k count actor
    → StandsAt stage k count (receiving letters actor)
stage_stays Opening k count letters actor few at = at
stage_stays (Between behaviour) k count letters actor few at = (record { is = (at.0).is; live = (at.0).live }, at.1)
stage_stays (Sending behaviour) k count letters actor few at =
    (record { is = (at.0).is; live = (at.0).live }, at.1, last_stays letters actor (at.1) few (at.2))
stage_stays (Holding behaviour outbox) k count letters actor few at =
    (record { is = (at.0).is; live = (at.0).live }, at.1, at.2, at.3, last_stays letters actor (at.1) few (at.4))
stage_stays (Stopped why) k count letters actor few at = (at.0, stopped_stays why k count letters actor (at.1))

pub receives_is : (number count : ℕ) (letters : List Letter) (actor : ActorView) → All (LetterIsGood count) letters → IsActor number count actor
    → IsActor number count (receiving letters actor)
receives_is number count letters actor good is =
    let few : actor.taken ≤ length actor.box = is.takes in
    let more = length_more actor.box letters in
    record {
      may = is.may;
      boardless = is.boardless;
      reached = is.reached;
      stage = stage_stays actor.stage number count letters actor few is.stage;
      takes = omega (arith, few, more);
      alone = received_stands letters actor few is.alone;
      posts = received_posts number count letters actor few is.posts;
      box = All-append (LetterIsGood count) actor.box letters is.box good;
      posted = is.posted;
    }

-- ---- more actors

letter_grows : (count : ℕ) (letter : Letter) → LetterIsGood count letter → LetterIsGood (count + 1) letter
letter_grows count letter good =
    let there = good.there in
    record { selector = good.selector; one = good.one; there = omega (arith, there) }

stage_grows : (stage : Stage) (k count : ℕ) (actor : ActorView) → StandsAt stage k count actor → StandsAt stage k (count + 1) actor
stage_grows Opening k count actor at = at
stage_grows (Between behaviour) k count actor at = at
stage_grows (Sending behaviour) k count actor at = at
stage_grows (Holding behaviour letters) k count actor at = (at.0, at.1, at.2, letters_at_grow actor.application k count actor.state letters (at.3), at.4)
stage_grows (Stopped (stop.Ended ending)) k count actor at = at
stage_grows (Stopped stop.BadOutbox) k count actor at = at

grows_is : (number count : ℕ) (actor : ActorView) → IsActor number count actor → IsActor number (count + 1) actor
grows_is number count actor is = record {
  may = is.may;
  boardless = is.boardless;
  reached = is.reached;
  stage = stage_grows actor.stage number count actor is.stage;
  takes = is.takes;
  alone = is.alone;
  posts = posts_grow actor.application number count (take (dealt_with actor.stage actor.taken) actor.box) actor.posted is.posts;
  box = λ n d w. letter_grows count _ (is.box n d w);
  posted = λ n d w. (letter_grows count _ (is.posted n d w).0, (is.posted n d w).1);
}

-- ---- views

are_with : (count : ℕ) (view : ActorsView) → length view.actors ≡ count → count ≤ 16 → ((number : ℕ) → ForSome (slice_get view.actors number) (IsActor number count))
    → All (λ (letter : Letter). LetterIsGood count letter × (letter.from ≡ host_number)) view.host → BoxesAgree view → AreActors view
are_with count view same few each host boxes = record {
  few = subst (λ n. n ≤ 16) (sym same) few;
  each = λ number one got. subst (λ n. IsActor number n one) (sym same) (each number one got);
  host = subst (λ n. All (λ (letter : Letter). LetterIsGood n letter × (letter.from ≡ host_number)) view.host) (sym same) host;
  boxes = boxes;
}

delivered_are : (count : ℕ) (letters : List Letter) (actors : List ActorView) → All (LetterIsGood count) letters → ((number : ℕ) → ForSome (slice_get actors number) (IsActor number count))
    → (number : ℕ) → ForSome (slice_get (delivered 0 letters actors) number) (IsActor number count)
delivered_are count letters actors good each =
    delivered_all (λ number actor. IsActor number count actor) letters actors
    (λ number actor is. receives_is number count (letters_to (0 + number) letters) actor
    (All-filter (λ (letter : Letter). eqb letter.to (0 + number)) (LetterIsGood count) letters good) is) each

-- one more actor
pub added_are : (application : Application) (view : ActorsView) → MayStart application → application.grants.board ≡ false → StateIsReached application (start_of application)
    → length view.actors < 16 → AreActors view → AreActors (added application view)
added_are application view may boardless reached room are =
    are_with (length view.actors + 1) (added application view) (longer view.actors (starting application)) (omega (arith, room))
    (λ number one got. alike number (length view.actors)
    (λ same. subst (IsActor number (length view.actors + 1)) (same_Some (starting application) one
    (sym (last_got view.actors (starting application)) ∙ subst (λ n. slice_get (view.actors ++ starting application ∷ []) n ≡ Some one) same got))
    (record {
      may = may;
      boardless = boardless;
      reached = reached;
      stage = refl;
      takes = omega arith;
      alone = refl;
      posts = refl;
      box = All-nil (LetterIsGood (length view.actors + 1));
      posted = All-nil (λ (letter : Letter). LetterIsGood (length view.actors + 1) letter × (letter.from ≡ number));
    }))
    (λ differ. grows_is number (length view.actors) one (are.each number one (was_there view.actors (starting application) number one differ got))))
    (λ n d w. (letter_grows (length view.actors) _ (are.host n d w).0, (are.host n d w).1))
    (added_agrees application view (all_below view are) are.boxes)

-- a letter of the host
pub posted_are : (letter : Letter) (view : ActorsView) → LetterIsGood (length view.actors) letter → letter.from ≡ host_number → AreActors view → AreActors (posted letter view)
posted_are letter view good from are =
    are_with (length view.actors) (posted letter view) (count_delivered 0 (letter ∷ []) view.actors) are.few
    (delivered_are (length view.actors) (letter ∷ []) view.actors
    (All-cons (LetterIsGood (length view.actors)) letter [] good (All-nil (LetterIsGood (length view.actors)))) are.each)
    (All-append (λ (one : Letter). LetterIsGood (length view.actors) one × (one.from ≡ host_number)) view.host (letter ∷ []) are.host
    (All-cons (λ (one : Letter). LetterIsGood (length view.actors) one × (one.from ≡ host_number)) letter [] (good, from)
    (All-nil (λ (one : Letter). LetterIsGood (length view.actors) one × (one.from ≡ host_number)))))
    (posts_agree (letter ∷ []) view (posted letter view)
    (host_posts (letter ∷ []) (All-cons (λ (one : Letter). one.from ≡ host_number) letter [] from (All-nil (λ (one : Letter). one.from ≡ host_number))) view) are.boxes)

-- a turn
module _ (rest : KnowsRest) (stays : StaysBegun) (hosts : (code : CodeProgram) (grants : Grants) → HostKeepsValid code grants)
    (keeps : (code : CodeProgram) (grants : Grants) → MovesKeepValid code grants) (onward : (code : CodeProgram) → MovesGoOnward code)
    (lives : (value : Value) → Lasts (λ heap code. IsLiveValue heap code value)) (k steps : ℕ) (view : ActorsView) (are : AreActors view) where
  set_are : (now : ActorView) → IsActor k (length view.actors) now → k < length view.actors → BoxesAgree (with_actor k now view) → AreActors (with_actor k now view)
  set_are now is within boxes =
      are_with (length view.actors) (with_actor k now view) (length_set view.actors k now) are.few
      (set_each (λ number actor. IsActor number (length view.actors) actor) view.actors k now are.each is within) are.host boxes

  settled_are : (stage : Stage) (now : ActorView) → now.stage ≡ stage → IsActor k (length view.actors) now → IsKept rest hosts keeps k steps (length view.actors) now
      → k < length view.actors → BoxesAgree (settled stage k now view) → AreActors (settled stage k now view)
  settled_are Opening now e is kept within boxes = set_are now is within boxes
  settled_are (Between behaviour) now e is kept within boxes = set_are now is within boxes
  settled_are (Sending behaviour) now e is kept within boxes = set_are now is within boxes
  settled_are (Stopped why) now e is kept within boxes = set_are now is within boxes
  settled_are (Holding behaviour letters) now e is kept within boxes =
      let own : ActorView = record now { stage = Between behaviour; posted = now.posted ++ letters } in
      let at : StandsAt (Holding behaviour letters) k (length view.actors) now = subst (λ (s : Stage). StandsAt s k (length view.actors) now) e is.stage in
      let good = good_of now.application is.may.fits k (length view.actors) now.state letters (at.3) in
      are_with (length view.actors) (posted_by k behaviour letters now view) (count_delivered 0 letters (slice_set view.actors k own) ∙ length_set view.actors k own) are.few
      (delivered_are (length view.actors) letters (slice_set view.actors k own) (λ n d w. (good n d w).0)
      (set_each (λ number actor. IsActor number (length view.actors) actor) view.actors k own are.each
      (own_is rest stays hosts keeps onward lives k steps (length view.actors) behaviour letters now e is kept) within)) are.host boxes

  pub turn_are : (o : Option ActorView) → slice_get view.actors k ≡ o → AreActors (turn_for o k steps view).view
  turn_are None got = are
  turn_are (Some actor) got =
      settled_are (turn_taken k steps (length view.actors) actor).actor.stage (turn_taken k steps (length view.actors) actor).actor refl
      (turn_is rest stays hosts keeps onward lives k steps (length view.actors) actor (are.each k actor got))
      (turn_kept rest hosts keeps k steps (length view.actors) actor (are.each k actor got)) (within_is view.actors k actor got)
      (turn_agrees k steps view are (Some actor) got)

  pub held_are : (o : Option ActorView) → slice_get view.actors k ≡ o → AreActors (held_for o k steps view)
  held_are None got = are
  held_are (Some actor) got =
      set_are (turn_taken k steps (length view.actors) actor).actor
      (turn_is rest stays hosts keeps onward lives k steps (length view.actors) actor (are.each k actor got)) (within_is view.actors k actor got)
      (held_agrees k steps view are (Some actor) got)
