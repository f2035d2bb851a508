-- What is kept of actors after each call.
use Rattle.std.proofs.Common.{◌≡◌, ◌≢◌, ◌<◌, ℕ, zero, suc, List, [], ◌∷◌, ◌++◌, refl, sym, ap, ◌∙◌, subst, Option, Some, None, Result, Ok, Err, Bool, true, false, ◌&&◌, ◌==◌, slice_get, length, map, eqb-true}
use Rattle.std.specs.Prelude.{slice_set, option_map}
use Rattle.std.specs.Result.{IfOk, OnErr, OnOk}
use Rattle.std.proofs.lemmas.List.{append-nil, map_push}
use Rattle.ns_base.specs.Spelling.{is_selector}
use Rattle.ns_code.specs.Selector.{text_arity}
use Rattle.ns_facets.specs.declared.board.Plain.{Plain}
use Rattle.ns_actors_calls.specs.Letters.{takes_one}
use Rattle.ns_session.specs.Member.{Application, MayStart}
use Rattle.ns_actors.specs.declared.letter.Letter.{Letter}
use Rattle.ns_actors.specs.declared.turn.ActorTurn.{ActorTurn}
use Rattle.ns_actors.specs.Actor.{ActorView, starting}
use Rattle.ns_actors.specs.Laws.{nobody, AddingKeepsActors, HeldTurnsKeepActors, PostingKeepsActors, TurnsKeepActors, TurnsKeepOthers}
use Rattle.ns_actors.specs.Stated.{AreActors, LetterIsGood, OthersReceive}
use Rattle.ns_actors.specs.Turn.{ActorsView, added, held_after, held_for, host_number, posted, receiving, turn_taken}
use Rattle.ns_actors_calls.specs.declared.actor.Actor.{Actor}
use Rattle.ns_actors_calls.specs.Posting.{HasTurned}
use Rattle.ns_actors_calls.specs.Shown.{shown}
use Rattle.ns_actors_calls.specs.Seen.{seen}

-- ---- none

pub none_seen : (host : List Letter) (actors : List Actor) → host ≡ [] → actors ≡ [] → seen host actors ≡ nobody
none_seen host actors no_letters no_actors = ap (λ (ls : List Letter). seen ls actors) no_letters ∙ ap (λ (xs : List Actor). seen [] xs) no_actors

-- ---- one more

pub one_more : (host : List Letter) (actors : List Actor) (actor : Actor) (application : Application) → shown actor ≡ starting application
    → seen host (actors ++ actor ∷ []) ≡ added application (seen host actors)
one_more host actors actor application e =
    ap (λ (views : List ActorView). record { actors = views; host = host })
    (map_push shown actors actor ∙ ap (λ (view : ActorView). map shown actors ++ view ∷ []) e)

pub one_more_kept : (host : List Letter) (actors : List Actor) (actor : Actor) (application : Application) → AddingKeepsActors → MayStart application
    → application.grants.board ≡ false → length (map shown actors) < 16 → AreActors (seen host actors) → shown actor ≡ starting application
    → AreActors (seen host (actors ++ actor ∷ []))
one_more_kept host actors actor application law may boardless room are e =
    subst AreActors (sym (one_more host actors actor application e)) (law application (seen host actors) may boardless room are)

-- ---- a letter of the host

both_true : (a b : Bool) → (a && b) ≡ true → (a ≡ true) × (b ≡ true)
both_true true true e = (refl, refl)
both_true true false e = absurd (cc (e))
both_true false b e = absurd (cc (e))

pub letter_good : (count to : ℕ) (sel : List ℕ) (arg : Plain) → takes_one sel ≡ true → to < count
    → LetterIsGood count (record { from = host_number; to = to; sel = sel; arg = arg })
letter_good count to sel arg takes within =
    let both = both_true (is_selector sel) (text_arity sel == 1) takes in
    record { selector = both.0; one = eqb-true (text_arity sel) 1 both.1; there = within }

pub posted_kept : (to : ℕ) (sel : List ℕ) (arg : Plain) (old new : ActorsView) → PostingKeepsActors → takes_one sel ≡ true → to < length old.actors
    → AreActors old → new ≡ posted (record { from = host_number; to = to; sel = sel; arg = arg }) old → AreActors new
posted_kept to sel arg old new law takes within are e =
    let letter : Letter = record { from = host_number; to = to; sel = sel; arg = arg } in
    subst AreActors (sym e) (law letter old (letter_good (length old.actors) to sel arg takes within) refl are)

-- whether it is posted, or refused
pub posted_or_kept : {T E : Type 0} (r : Result T E) (to : ℕ) (sel : List ℕ) (arg : Plain) (old new : ActorsView) → PostingKeepsActors
    → takes_one sel ≡ true → to < length old.actors → AreActors old
    → OnOk r (new ≡ posted (record { from = host_number; to = to; sel = sel; arg = arg }) old) → OnErr r (new ≡ old) → AreActors new
posted_or_kept (Ok x) to sel arg old new law takes within are posts kept = posted_kept to sel arg old new law takes within are posts
posted_or_kept (Err e) to sel arg old new law takes within are posts kept = subst AreActors (sym kept) are

-- ---- actors that are lent

pub lent_are : (host : List Letter) (lent actors : List Actor) → lent ≡ actors → AreActors (seen host actors) → AreActors (seen host lent)
lent_are host lent actors same are = subst (λ (xs : List Actor). AreActors (seen host xs)) (sym same) are

-- ---- a turn

pub turn_kept : (k steps : ℕ) (answer : ActorTurn) (old new : ActorsView) → TurnsKeepActors → AreActors old → HasTurned k steps answer old new → AreActors new
turn_kept k steps answer old new law are turns = subst AreActors (sym turns.after) (law k steps old are)

pub held_kept : (k steps : ℕ) (old new : ActorsView) → HeldTurnsKeepActors → AreActors old → new ≡ held_after k steps old → AreActors new
held_kept k steps old new law are held = subst AreActors (sym held) (law k steps old are)

pub turn_others : (k steps : ℕ) (answer : ActorTurn) (old new : ActorsView) → TurnsKeepOthers → HasTurned k steps answer old new → OthersReceive k old new
turn_others k steps answer old new law turns = subst (OthersReceive k old) (sym turns.after) (law k steps old)

-- whether its outbox is posted, or held
pub turned_or_held : {E : Type 0} (r : Result ActorTurn E) (k steps : ℕ) (old new : ActorsView) → TurnsKeepActors → HeldTurnsKeepActors → AreActors old
    → IfOk r (λ (answer : ActorTurn). HasTurned k steps answer old new) → OnErr r (new ≡ held_after k steps old) → AreActors new
turned_or_held (Ok answer) k steps old new law held_law are turns held = turn_kept k steps answer old new law are turns
turned_or_held (Err e) k steps old new law held_law are turns held = held_kept k steps old new held_law are held

-- with what is seen under other names
pub has_turned_as : (k steps : ℕ) (answer : ActorTurn) (old seen_old new seen_new : ActorsView) → old ≡ seen_old → new ≡ seen_new
    → HasTurned k steps answer old new → HasTurned k steps answer seen_old seen_new
has_turned_as k steps answer old seen_old new seen_new before after turns =
    subst (λ (v : ActorsView). HasTurned k steps answer v seen_new) before (subst (HasTurned k steps answer old) after turns)

-- ---- others, where an outbox is held

-- one that receives nothing
pub receives_nothing : (actor : Option ActorView) → actor ≡ option_map (receiving []) actor
receives_nothing None = refl
receives_nothing (Some actor) = ap (λ (box : List Letter). Some (record actor { box = box })) (sym (append-nil actor.box))

other_got : (actors : List ActorView) (k other : ℕ) (actor : ActorView) → other ≢ k → slice_get (slice_set actors k actor) other ≡ slice_get actors other
other_got [] k other actor differ = refl
other_got (first ∷ actors) zero zero actor differ = absurd (differ refl)
other_got (first ∷ actors) zero (suc other) actor differ = refl
other_got (first ∷ actors) (suc k) zero actor differ = refl
other_got (first ∷ actors) (suc k) (suc other) actor differ = other_got actors k other actor (λ e. differ (ap suc e))

held_others_of : (k steps : ℕ) (view : ActorsView) (actor : Option ActorView) → OthersReceive k view (held_for actor k steps view)
held_others_of k steps view None other differ = ([], receives_nothing (slice_get view.actors other))
held_others_of k steps view (Some actor) other differ =
    ([], other_got view.actors k other (turn_taken k steps (length view.actors) actor).actor differ ∙ receives_nothing (slice_get view.actors other))

pub held_others : (k steps : ℕ) (old new : ActorsView) → new ≡ held_after k steps old → OthersReceive k old new
held_others k steps old new held = subst (OthersReceive k old) (sym held) (held_others_of k steps old (slice_get old.actors k))

-- whether its outbox is posted, or held
pub others_receive : {E : Type 0} (r : Result ActorTurn E) (k steps : ℕ) (old new : ActorsView) → TurnsKeepOthers
    → IfOk r (λ (answer : ActorTurn). HasTurned k steps answer old new) → OnErr r (new ≡ held_after k steps old) → OthersReceive k old new
others_receive (Ok answer) k steps old new law turns held = turn_others k steps answer old new law turns
others_receive (Err e) k steps old new law turns held = held_others k steps old new held

-- with what is seen under other names
pub others_as : (k : ℕ) (old seen_old new seen_new : ActorsView) → old ≡ seen_old → new ≡ seen_new → OthersReceive k old new
    → OthersReceive k seen_old seen_new
others_as k old seen_old new seen_new before after others =
    subst (λ (v : ActorsView). OthersReceive k v seen_new) before (subst (OthersReceive k old) after others)
