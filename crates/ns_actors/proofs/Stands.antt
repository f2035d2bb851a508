-- The invariant's part on single actors is kept by a turn, whether its outbox is posted or held.
use Rattle.std.proofs.Common.{◌≡◌, ◌<◌, ◌≤◌, ℕ, ◌+◌, ◌-◌, List, [], ◌∷◌, ◌++◌, refl, sym, ap, ◌∙◌, subst, arith, Option, Some, None, Bool, true, false, slice_get, length, take, IsSome, option_map}
use Rattle.std.specs.Prelude.{slice_set}
use Rattle.std.specs.Option.{ForSome}
use Rattle.std.proofs.lemmas.Option.{same_Some, get_or_from_slice_get}
use Rattle.ns_code.specs.declared.program.CodeProgram.{CodeProgram}
use Rattle.ns_code.specs.Selector.{has_name}
use Rattle.ns_facets.specs.Board.{value_of}
use Rattle.ns_facets.specs.declared.row.Grants.{Grants}
use Rattle.ns_moves.specs.Beginning.{HostKeepsValid}
use Rattle.ns_moves.specs.Standing.{MovesKeepValid}
use Rattle.ns_moves.specs.State.{ending_of, world_of}
use Rattle.ns_moves.specs.Valid.{Valid}
use Rattle.ns_session.specs.Turned.{turned}
use Rattle.ns_world.specs.declared.ending.Ending.{Ending}
use Rattle.ns_world.specs.declared.ending.Ending.TheVariants.{Done, Error, Limit}
use Rattle.ns_world.specs.declared.value.Value.{Value}
use Rattle.ns_machine.specs.Asking.{named}
use Rattle.ns_actors.specs.declared.letter.Letter.{Letter}
use Rattle.ns_actors.specs.Actor.{ActorView, Stage, Opening, Between, Sending, Holding, Stopped, dealt_with}
use Rattle.ns_actors.specs.Alone.{letters_at, letters_in, posts}
use Rattle.ns_actors.specs.Laws.{AllAlone}
use Rattle.ns_actors.proofs.Premises.{KnowsRest}
use Rattle.ns_actors.specs.Outbox.{outbox}
use Rattle.ns_actors.specs.Stated.{AreActors, IsActor, KnowsLast, LetterIsGood, PostsAlone, StandsAlone, StandsAt, TakesInOrder}
use Rattle.ns_actors.specs.Turn.{ActorsView, delivered, done_in, held_for, letters_to, next_taken, posted, posted_by, ran_to, receiving, run_on, sending, settled, taken_by, turn_at, turn_for, turn_taken, with_actor, with_outbox}
use Rattle.ns_actors.proofs.Begins.{may_begin}
use Rattle.ns_actors.proofs.Boxes.{count_delivered}
use Rattle.ns_actors.proofs.Lists.{alike, length_set, same_set, there_is, within_is}
use Rattle.ns_actors.proofs.Others.{delivered_at, other_set}
use Rattle.ns_actors.proofs.Standing.{IsRunning, Known, answered_still, posted_posts, received_posts, received_stands, run_posts, run_stands, sending_posts, sending_stands, stands_here, turned_moved, unknown_posts, unknown_stands}
use Rattle.ns_actors.proofs.Turning.{ran_stage}

-- An actor in a valid state that has taken a beginning of its box, and stands and has posted as it would alone.
pub record IsRight (k count : ℕ) (actor : ActorView) : Type 0 where
  pub valid : Valid actor.application.code actor.application.grants actor.state
  pub takes : TakesInOrder actor
  pub stands : StandsAlone actor
  pub alike : PostsAlone k count actor

-- What is kept of an outbox that is to come, and of one that is held.
abbrev pub HoldsLast : ℕ → ℕ → Stage → ActorView → Type 0
HoldsLast k count Opening actor = Unit {0}
HoldsLast k count (Between behaviour) actor = Unit {0}
HoldsLast k count (Sending behaviour) actor = (1 ≤ actor.taken) × KnowsLast actor
HoldsLast k count (Holding behaviour letters) actor =
    (1 ≤ actor.taken) × KnowsLast actor × IsSome (ending_of actor.state) × (letters_at actor.application k count actor.state ≡ Some letters)
HoldsLast k count (Stopped why) actor = Unit {0}

pub is_right : (k count : ℕ) (actor : ActorView) → IsActor k count actor → IsRight k count actor
is_right k count actor is = record { valid = is.reached.valid; takes = is.takes; stands = is.alone; alike = is.posts }

module _ (rest : KnowsRest) (hosts : (code : CodeProgram) (grants : Grants) → HostKeepsValid code grants) (keeps : (code : CodeProgram) (grants : Grants) → MovesKeepValid code grants)
    (k steps count : ℕ) where
  known : (code : CodeProgram) (grants : Grants) → Known code grants
  known code grants = record { moves = (rest code grants).0; still = (rest code grants).1 }

  -- ---- a run has a turn

  run_right : (actor : ActorView) → IsRunning actor.stage actor.taken → IsRight k count actor → IsRight k count (run_on k steps count actor).actor
  run_right actor run right =
      let now : ActorView = record actor { state = turned actor.application.code steps actor.state } in
      let moved = turned_moved actor.application.code steps actor.state in
      let only = ran_stage (ending_of now.state) k count now in
      record {
        valid = subst (λ (a : ActorView). Valid a.application.code a.application.grants a.state) (sym only)
            (subst (Valid actor.application.code actor.application.grants) moved.is
            (keeps actor.application.code actor.application.grants moved.count actor.state right.valid));
        takes = subst TakesInOrder (sym only) right.takes;
        stands = run_stands actor.application.grants k steps count actor (known actor.application.code actor.application.grants) right.valid right.stands;
        alike = run_posts k steps count actor run right.alike;
      }

  outbox_lasts : (behaviour : Value) (v : Value) (actor : ActorView) (o : Option (List Letter)) → outbox actor.application.code (world_of actor.state).cells v k count ≡ o
      → ending_of actor.state ≡ Some (Done v) → (1 ≤ actor.taken) × KnowsLast actor
      → HoldsLast k count (with_outbox behaviour actor o).actor.stage (with_outbox behaviour actor o).actor
  outbox_lasts behaviour v actor None e ended last = tt
  outbox_lasts behaviour v actor (Some letters) e ended last =
      (last.0, last.1, subst (λ (o : Option Ending). IsSome o) (sym ended) refl, ap (λ (o : Option Ending). letters_in o actor.application k count actor.state) ended ∙ e)

  done_lasts : (stage : Stage) (v : Value) (actor : ActorView) → ending_of actor.state ≡ Some (Done v) → HoldsLast k count stage actor → HoldsLast k count actor.stage actor
      → HoldsLast k count (done_in stage k count v actor).actor.stage (done_in stage k count v actor).actor
  done_lasts Opening v actor ended at last = tt
  done_lasts (Between behaviour) v actor ended at last = last
  done_lasts (Sending behaviour) v actor ended at last =
      outbox_lasts behaviour v actor (outbox actor.application.code (world_of actor.state).cells v k count) refl ended at
  done_lasts (Holding behaviour letters) v actor ended at last = last
  done_lasts (Stopped why) v actor ended at last = last

  ran_lasts : (ending : Option Ending) (actor : ActorView) → ending_of actor.state ≡ ending → HoldsLast k count actor.stage actor
      → HoldsLast k count (ran_to ending k count actor).actor.stage (ran_to ending k count actor).actor
  ran_lasts None actor ended last = last
  ran_lasts (Some (Done v)) actor ended last = done_lasts actor.stage v actor ended last last
  ran_lasts (Some (Error error)) actor ended last = tt
  ran_lasts (Some (Limit limit)) actor ended last = tt

  run_lasts : (actor : ActorView) → HoldsLast k count actor.stage (record actor { state = turned actor.application.code steps actor.state })
      → HoldsLast k count (run_on k steps count actor).actor.stage (run_on k steps count actor).actor
  run_lasts actor last =
      ran_lasts (ending_of (turned actor.application.code steps actor.state)) (record actor { state = turned actor.application.code steps actor.state }) refl last

  -- ---- a turn

  pub record IsKept (actor : ActorView) : Type 0 where
    pub right : IsRight k count actor
    pub last : HoldsLast k count actor.stage actor

  module _ (actor : ActorView) (is : IsActor k count actor) where
    abbrev code : CodeProgram
    code = actor.application.code

    at_stage : (stage : Stage) → actor.stage ≡ stage → StandsAt stage k count actor
    at_stage stage e = subst (λ (s : Stage). StandsAt s k count actor) e is.stage

    taken_kept : (b : Bool) (behaviour : Value) (letter : Letter) → has_name code letter.sel ≡ b → actor.stage ≡ Between behaviour → slice_get actor.box actor.taken ≡ Some letter
        → IsKept (taken_by b behaviour letter k steps count actor).actor
    taken_kept true behaviour letter named_it e got =
        let at : StandsAt (Between behaviour) k count actor = at_stage (Between behaviour) e in
        let within = within_is actor.box actor.taken letter got in
        let good : LetterIsGood count letter = subst (LetterIsGood count) (get_or_from_slice_get actor.box actor.taken letter letter got) (is.box actor.taken letter within) in
        let still = answered_still actor.state (at.1.1) in
        let here = stands_here actor.application.grants actor (known code actor.application.grants) is.reached.valid is.alone still in
        let same : actor.taken + 1 - 1 ≡ actor.taken = omega arith in
        let right : IsRight k count (sending behaviour letter actor) = record {
          valid = hosts code actor.application.grants behaviour (named code letter.sel) (value_of letter.arg ∷ []) actor.state is.reached.valid
              (may_begin behaviour letter actor (at.1) (at.0).live named_it good.one);
          takes = omega (arith, within);
          stands = sending_stands behaviour letter actor here (at.0).is got named_it;
          alike = sending_posts k count behaviour letter actor
              (subst (λ (s : Stage). posts actor.application k count (take (dealt_with s actor.taken) actor.box) ≡ Some actor.posted) e is.posts);
        } in
        record {
          right = run_right (sending behaviour letter actor) tt right;
          last = run_lasts (sending behaviour letter actor) (
            omega arith,
            λ one f. subst (λ (m : Letter). has_name code m.sel ≡ true) (same_Some letter one (sym got ∙ (ap (λ n. slice_get actor.box n) (sym same) ∙ f))) named_it,
          );
        }
    taken_kept false behaviour letter unnamed e got =
        let within = within_is actor.box actor.taken letter got in
        record {
          right = record {
            valid = is.reached.valid;
            takes = omega (arith, within);
            stands = unknown_stands letter actor is.alone got unnamed;
            alike = subst (λ (s : Stage). posts actor.application k count (take (dealt_with s (actor.taken + 1)) actor.box) ≡ Some actor.posted) (sym e)
                (unknown_posts k count letter actor
                (subst (λ (s : Stage). posts actor.application k count (take (dealt_with s actor.taken) actor.box) ≡ Some actor.posted) e is.posts) got unnamed);
          };
          last = subst (λ (s : Stage). HoldsLast k count s (record actor { taken = actor.taken + 1 })) (sym e) tt;
        }

    next_kept : (o : Option Letter) (behaviour : Value) → actor.stage ≡ Between behaviour → slice_get actor.box actor.taken ≡ o
        → IsKept (next_taken o behaviour k steps count actor).actor
    next_kept None behaviour e got = record { right = is_right k count actor is; last = subst (λ (s : Stage). HoldsLast k count s actor) (sym e) tt }
    next_kept (Some letter) behaviour e got = taken_kept (has_name code letter.sel) behaviour letter refl e got

    turn_at_kept : (stage : Stage) → actor.stage ≡ stage → IsKept (turn_at stage k steps count actor).actor
    turn_at_kept Opening e =
        record {
          right = run_right actor (subst (λ (s : Stage). IsRunning s actor.taken) (sym e) (at_stage Opening e)) (is_right k count actor is);
          last = run_lasts actor (subst (λ (s : Stage). HoldsLast k count s (record actor { state = turned code steps actor.state })) (sym e) tt);
        }
    turn_at_kept (Between behaviour) e = next_kept (slice_get actor.box actor.taken) behaviour e refl
    turn_at_kept (Sending behaviour) e =
        let at : StandsAt (Sending behaviour) k count actor = at_stage (Sending behaviour) e in
        record {
          right = run_right actor (subst (λ (s : Stage). IsRunning s actor.taken) (sym e) tt) (is_right k count actor is);
          last = run_lasts actor (subst (λ (s : Stage). HoldsLast k count s (record actor { state = turned code steps actor.state })) (sym e) (at.1, at.2));
        }
    turn_at_kept (Holding behaviour letters) e =
        let at : StandsAt (Holding behaviour letters) k count actor = at_stage (Holding behaviour letters) e in
        record {
          right = is_right k count actor is;
          last = subst (λ (s : Stage). HoldsLast k count s actor) (sym e) (at.1, at.4, at.2.1, at.3);
        }
    turn_at_kept (Stopped why) e = record { right = is_right k count actor is; last = subst (λ (s : Stage). HoldsLast k count s actor) (sym e) tt }

    pub turn_kept : IsKept (turn_taken k steps count actor).actor
    turn_kept = turn_at_kept actor.stage refl

  -- ---- what it holds is posted

  pub posted_right : (behaviour : Value) (letters : List Letter) (now : ActorView) → now.stage ≡ Holding behaviour letters → IsKept now
      → IsRight k count (record now { stage = Between behaviour; posted = now.posted ++ letters })
  posted_right behaviour letters now e kept =
      let right = kept.right in
      let last : HoldsLast k count (Holding behaviour letters) now = subst (λ (s : Stage). HoldsLast k count s now) e kept.last in
      let some = last.0 in
      let takes : now.taken ≤ length now.box = right.takes in
      let one : now.taken ≡ now.taken - 1 + 1 = omega (arith, some) in
      let there = there_is now.box (now.taken - 1) (omega (arith, some, takes)) in
      let here = stands_here now.application.grants now (known now.application.code now.application.grants) right.valid right.stands (answered_still now.state (last.2)) in
      record {
        valid = right.valid;
        takes = right.takes;
        stands = right.stands;
        alike = posted_posts k count (now.taken - 1) there.element letters now one
            (subst (λ (s : Stage). posts now.application k count (take (dealt_with s now.taken) now.box) ≡ Some now.posted) e right.alike)
            there.is (last.1 there.element there.is) here (last.3);
      }

-- ---- all actors

-- What is kept of each, which letters behind its box leave.
abbrev pub IsFair : ℕ → ℕ → ActorView → Type 0
IsFair count number actor = TakesInOrder actor × StandsAlone actor × PostsAlone number count actor

pub set_each : (P : ℕ → ActorView → Type 0) (actors : List ActorView) (k : ℕ) (now : ActorView) → ((number : ℕ) → ForSome (slice_get actors number) (P number)) → P k now
    → k < length actors → (number : ℕ) → ForSome (slice_get (slice_set actors k now) number) (P number)
set_each P actors k now each own within number one got =
    alike number k
    (λ same. subst (λ n. P n one) (sym same)
    (subst (P k) (same_Some now one (sym (same_set actors k now within) ∙ subst (λ n. slice_get (slice_set actors k now) n ≡ Some one) same got)) own))
    (λ differ. each number one (sym (other_set actors k number now differ) ∙ got))

mapped : {P : Type 0} (f : ActorView → ActorView) (o : Option ActorView) (one : ActorView) → option_map f o ≡ Some one → ((old : ActorView) → o ≡ Some old → f old ≡ one → P) → P
mapped f None one e then = absurd (cc (e))
mapped f (Some old) one e then = then old refl (same_Some (f old) one e)

received_fair : (count number : ℕ) (letters : List Letter) (actor : ActorView) → IsFair count number actor → IsFair count number (receiving letters actor)
received_fair count number letters actor (takes, stands, alike) =
    let few : actor.taken ≤ length actor.box = takes in
    let more = length_more actor.box letters in
    (omega (arith, few, more), received_stands letters actor few stands, received_posts number count letters actor few alike)
  where
    length_more : (xs ys : List Letter) → length xs ≤ length (xs ++ ys)
    length_more [] ys = omega arith
    length_more (x ∷ xs) ys = let rest = length_more xs ys in omega (arith, rest)

pub delivered_all : (P : ℕ → ActorView → Type 0) (letters : List Letter) (actors : List ActorView)
    → ((number : ℕ) (actor : ActorView) → P number actor → P number (receiving (letters_to (0 + number) letters) actor))
    → ((number : ℕ) → ForSome (slice_get actors number) (P number)) → (number : ℕ) → ForSome (slice_get (delivered 0 letters actors) number) (P number)
delivered_all P letters actors receive each number one got =
    mapped (receiving (letters_to (0 + number) letters)) (slice_get actors number) one (sym (delivered_at 0 number letters actors) ∙ got)
    (λ old is same. subst (P number) same (receive number old (each number old is)))

delivered_each : (count : ℕ) (letters : List Letter) (actors : List ActorView) → ((number : ℕ) → ForSome (slice_get actors number) (IsFair count number))
    → (number : ℕ) → ForSome (slice_get (delivered 0 letters actors) number) (IsFair count number)
delivered_each count letters actors each =
    delivered_all (IsFair count) letters actors (λ number actor fair. received_fair count number (letters_to (0 + number) letters) actor fair) each

are_fair : (view : ActorsView) → AreActors view → (number : ℕ) → ForSome (slice_get view.actors number) (IsFair (length view.actors) number)
are_fair view are number one got = let is = are.each number one got in (is.takes, is.alone, is.posts)

-- so each stands and has posted alone, of as many actors
fair_alone : (count : ℕ) (view : ActorsView) → length view.actors ≡ count → ((number : ℕ) → ForSome (slice_get view.actors number) (IsFair count number)) → AllAlone view
fair_alone count view same each number one got =
    let fair = each number one got in
    (fair.1, subst (λ n. PostsAlone number n one) (sym same) (fair.2))

pub posted_alone : (letter : Letter) (view : ActorsView) → AreActors view → AllAlone (posted letter view)
posted_alone letter view are =
    fair_alone (length view.actors) (posted letter view) (count_delivered 0 (letter ∷ []) view.actors)
    (delivered_each (length view.actors) (letter ∷ []) view.actors (are_fair view are))

module _ (rest : KnowsRest) (hosts : (code : CodeProgram) (grants : Grants) → HostKeepsValid code grants) (keeps : (code : CodeProgram) (grants : Grants) → MovesKeepValid code grants)
    (k steps : ℕ) (view : ActorsView) (are : AreActors view) where
  fair_of : (actor : ActorView) → IsRight k (length view.actors) actor → IsFair (length view.actors) k actor
  fair_of actor right = (right.takes, right.stands, right.alike)

  set_fair : (now : ActorView) → IsRight k (length view.actors) now → k < length view.actors → (number : ℕ)
      → ForSome (slice_get (slice_set view.actors k now) number) (IsFair (length view.actors) number)
  set_fair now right within = set_each (IsFair (length view.actors)) view.actors k now (are_fair view are) (fair_of now right) within

  set_alone : (now : ActorView) → IsRight k (length view.actors) now → k < length view.actors → AllAlone (with_actor k now view)
  set_alone now right within = fair_alone (length view.actors) (with_actor k now view) (length_set view.actors k now) (set_fair now right within)

  settled_alone : (stage : Stage) (now : ActorView) → now.stage ≡ stage → IsKept rest hosts keeps k steps (length view.actors) now → k < length view.actors
      → AllAlone (settled stage k now view)
  settled_alone Opening now e kept within = set_alone now kept.right within
  settled_alone (Between behaviour) now e kept within = set_alone now kept.right within
  settled_alone (Sending behaviour) now e kept within = set_alone now kept.right within
  settled_alone (Stopped why) now e kept within = set_alone now kept.right within
  settled_alone (Holding behaviour letters) now e kept within =
      let own : ActorView = record now { stage = Between behaviour; posted = now.posted ++ letters } in
      let right = posted_right rest hosts keeps k steps (length view.actors) behaviour letters now e kept in
      fair_alone (length view.actors) (posted_by k behaviour letters now view) (count_delivered 0 letters (slice_set view.actors k own) ∙ length_set view.actors k own)
      (delivered_each (length view.actors) letters (slice_set view.actors k own) (set_fair own right within))

  pub turn_alone : (o : Option ActorView) → slice_get view.actors k ≡ o → AllAlone (turn_for o k steps view).view
  turn_alone None got = fair_alone (length view.actors) view refl (are_fair view are)
  turn_alone (Some actor) got =
      settled_alone (turn_taken k steps (length view.actors) actor).actor.stage (turn_taken k steps (length view.actors) actor).actor refl
      (turn_kept rest hosts keeps k steps (length view.actors) actor (are.each k actor got)) (within_is view.actors k actor got)

  pub held_alone : (o : Option ActorView) → slice_get view.actors k ≡ o → AllAlone (held_for o k steps view)
  held_alone None got = fair_alone (length view.actors) view refl (are_fair view are)
  held_alone (Some actor) got =
      set_alone (turn_taken k steps (length view.actors) actor).actor
      ((turn_kept rest hosts keeps k steps (length view.actors) actor (are.each k actor got)).right) (within_is view.actors k actor got)
