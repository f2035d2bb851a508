-- Letters that come next to boxes, and are received there.
use Rattle.std.proofs.Common.{◌≡◌, ◌<◌, ℕ, zero, suc, ◌+◌, List, [], ◌∷◌, ◌++◌, refl, sym, ap, ◌∙◌, subst, arith, append_assoc, Some, slice_get, length, take, drop, map}
use Rattle.std.specs.Prelude.{slice_set}
use Rattle.std.proofs.lemmas.List.{append-nil, drop-set-lt, drop_all, length-take-le, map-set, map_push, take_all, take_more_set}
use Rattle.std.proofs.lemmas.Option.{same_Some}
use Rattle.ns_actors_calls.specs.Letters.{LettersView}
use Rattle.ns_actors.specs.declared.letter.Letter.{Letter}
use Rattle.ns_actors.specs.Actor.{ActorView}
use Rattle.ns_actors.specs.Turn.{delivered, letters_to, receiving}
use Rattle.ns_actors_calls.specs.declared.actor.Actor.{Actor}
use Rattle.ns_actors_calls.specs.Posting.{AreReady}
use Rattle.ns_actors_calls.specs.Shown.{shown}
use Rattle.ns_actors_calls.proofs.Lists.{drop_got, set_same}
use Rattle.ns_actors_calls.proofs.Told.{get_shown}

-- ---- letters come next

pub ready_more : (number : ℕ) (letters : List Letter) (actors : List Actor) (actor : Actor) → AreReady number letters actors
    → actor.letters.coming ≡ letters_to (number + length actors) letters → AreReady number letters (actors ++ actor ∷ [])
ready_more number letters [] actor are e =
    let none : number + 0 ≡ number = omega arith in (e ∙ ap (λ (n : ℕ). letters_to n letters) none, tt)
ready_more number letters (first ∷ actors) actor are e =
    let next : number + suc (length actors) ≡ (number + 1) + length actors = omega arith in
    (are.0, ready_more (number + 1) letters actors actor (are.1) (e ∙ ap (λ (n : ℕ). letters_to n letters) next))

-- So many of the first actors are ready, and what is seen is as it was.
pub record AreExpecting (letters : List Letter) (old now : List Actor) (number : ℕ) : Type 0 where
  pub same : map shown now ≡ map shown old
  pub ready : AreReady 0 letters (take number now)

-- none of them yet
pub expects_none : (letters : List Letter) (actors : List Actor) → AreExpecting letters actors actors 0
expects_none letters actors = record { same = refl; ready = tt }

pub shown_set : (actors : List Actor) (number : ℕ) (old new : Actor) → slice_get actors number ≡ Some old → shown new ≡ shown old
    → map shown (slice_set actors number new) ≡ map shown actors
shown_set actors number old new got e =
    map-set shown actors number new
    ∙ (ap (λ (view : ActorView). slice_set (map shown actors) number view) e
    ∙ set_same (map shown actors) number (shown old) (get_shown actors number old got))

pub expects_more : (letters : List Letter) (old now : List Actor) (number : ℕ) (actor new : Actor) → slice_get now number ≡ Some actor → number < length now
    → shown new ≡ shown actor → new.letters.coming ≡ letters_to number letters → AreExpecting letters old now number
    → AreExpecting letters old (slice_set now number new) (number + 1)
expects_more letters old now number actor new got within seen coming are =
    let count = length-take-le number now (omega (arith, within)) in
    let all : 0 + length (take number now) ≡ number = omega (arith, count) in
    record {
      same = shown_set now number actor new got seen ∙ are.same;
      ready = subst (AreReady 0 letters) (sym (take_more_set now number new within))
          (ready_more 0 letters (take number now) new are.ready (coming ∙ ap (λ (n : ℕ). letters_to n letters) (sym all)));
    }

-- what comes next to a box isn't seen
pub coming_unseen : (actor : Actor) (letters : LettersView) (coming : List Letter) → letters ≡ record actor.letters { coming = coming }
    → shown (record actor { letters = letters }) ≡ shown actor
coming_unseen actor letters coming e = ap (λ (l : LettersView). shown (record actor { letters = l })) e

pub coming_is : (actor : Actor) (letters : LettersView) (coming : List Letter) → letters ≡ record actor.letters { coming = coming } → letters.coming ≡ coming
coming_is actor letters coming e = ap (λ (l : LettersView). l.coming) e

-- a change that leaves what comes next to a box
pub ready_set : (number k : ℕ) (letters : List Letter) (actors : List Actor) (old new : Actor) → slice_get actors k ≡ Some old → new.letters ≡ old.letters
    → AreReady number letters actors → AreReady number letters (slice_set actors k new)
ready_set number k letters [] old new got same are = are
ready_set number zero letters (first ∷ actors) old new got same are =
    (ap (λ (l : LettersView). l.coming) (same ∙ sym (ap (λ (a : Actor). a.letters) (same_Some first old got))) ∙ are.0, are.1)
ready_set number (suc k) letters (first ∷ actors) old new got same are =
    (are.0, ready_set (number + 1) k letters actors old new got same (are.1))

-- ---- they are received

-- an actor that has received what came next
abbrev received : Actor → Actor
received actor = record actor { letters = record { all = actor.letters.all ++ actor.letters.coming; coming = [] } }

-- The first actors have received them, and the others are ready.
pub record HaveReceived (letters : List Letter) (old now : List Actor) (number : ℕ) : Type 0 where
  pub done : map shown (take number now) ++ delivered number letters (map shown (drop number now)) ≡ delivered 0 letters (map shown old)
  pub ready : AreReady number letters (drop number now)

-- none of them yet
pub none_received : (letters : List Letter) (actors : List Actor) → AreReady 0 letters actors → HaveReceived letters actors actors 0
none_received letters actors ready = record { done = refl; ready = ready }

receives_more : (letters : List Letter) (old now : List Actor) (number : ℕ) (actor : Actor) → slice_get now number ≡ Some actor → number < length now
    → HaveReceived letters old now number → HaveReceived letters old (slice_set now number (received actor)) (number + 1)
receives_more letters old now number actor got within have =
    let there = drop_got now number actor got in
    let ready : AreReady number letters (actor ∷ drop (number + 1) now) = subst (AreReady number letters) there have.ready in
    let seen : shown (received actor) ≡ receiving (letters_to number letters) (shown actor)
    = ap (λ (coming : List Letter). record (shown actor) { box = actor.letters.all ++ coming }) (ready.0) in
    record {
      done =
          ap (λ (xs : List Actor). map shown xs ++ delivered (number + 1) letters (map shown (drop (number + 1) (slice_set now number (received actor)))))
          (take_more_set now number (received actor) within)
          ∙ (ap (λ (xs : List Actor). map shown (take number now ++ received actor ∷ []) ++ delivered (number + 1) letters (map shown xs))
          (drop-set-lt (number + 1) now number (received actor) (omega arith))
          ∙ (ap (λ (views : List ActorView). views ++ delivered (number + 1) letters (map shown (drop (number + 1) now)))
          (map_push shown (take number now) (received actor))
          ∙ (append_assoc (map shown (take number now)) (shown (received actor) ∷ []) (delivered (number + 1) letters (map shown (drop (number + 1) now)))
          ∙ (ap (λ (view : ActorView). map shown (take number now) ++ view ∷ delivered (number + 1) letters (map shown (drop (number + 1) now))) seen
          ∙ (ap (λ (xs : List Actor). map shown (take number now) ++ delivered number letters (map shown xs)) (sym there) ∙ have.done)))));
      ready = subst (AreReady (number + 1) letters) (sym (drop-set-lt (number + 1) now number (received actor) (omega arith))) (ready.1);
    }

-- with letters that are those received
pub receives_one : (letters : List Letter) (old now : List Actor) (number : ℕ) (actor : Actor) (all : LettersView) → slice_get now number ≡ Some actor
    → number < length now → all ≡ record { all = actor.letters.all ++ actor.letters.coming; coming = [] } → HaveReceived letters old now number
    → HaveReceived letters old (slice_set now number (record actor { letters = all })) (number + 1)
receives_one letters old now number actor all got within e have =
    subst (λ (l : LettersView). HaveReceived letters old (slice_set now number (record actor { letters = l })) (number + 1)) (sym e)
    (receives_more letters old now number actor got within have)

pub all_received : (letters : List Letter) (old now : List Actor) (number : ℕ) → number ≡ length now → HaveReceived letters old now number
    → map shown now ≡ delivered 0 letters (map shown old)
all_received letters old now number e have =
    ap (λ (xs : List Actor). map shown xs) (sym (take_all number now (omega (arith, e))))
    ∙ (sym (append-nil (map shown (take number now)))
    ∙ (ap (λ (xs : List Actor). map shown (take number now) ++ delivered number letters (map shown xs)) (sym (drop_all number now (omega (arith, e)))) ∙ have.done))
