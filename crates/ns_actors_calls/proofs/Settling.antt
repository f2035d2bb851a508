-- An outbox that is held is posted, or stays held.
use Rattle.std.proofs.Common.{◌≡◌, ℕ, List, [], ◌∷◌, ◌++◌, refl, sym, ap, ◌∙◌, Option, Some, slice_get, map}
use Rattle.std.specs.Prelude.{slice_set}
use Rattle.std.proofs.lemmas.List.{map-set}
use Rattle.std.proofs.lemmas.Option.{same_Some}
use Rattle.ns_world.specs.declared.value.Value.{Value}
use Rattle.ns_actors.specs.declared.letter.Letter.{Letter}
use Rattle.ns_actors.specs.Actor.{ActorView, Stage, Opening, Between, Sending, Holding, Stopped}
use Rattle.ns_actors.specs.Turn.{delivered, posted, settled}
use Rattle.ns_actors_calls.specs.declared.actor.Actor.{Actor}
use Rattle.ns_actors_calls.specs.Posting.{alone, posted_at, posted_from, settled_at, settled_of}
use Rattle.ns_actors_calls.specs.Shown.{shown}
use Rattle.ns_actors_calls.specs.Steps.{HoldsNone, HoldsOutbox, outbox_at}
use Rattle.ns_actors_calls.specs.Seen.{seen}
use Rattle.ns_actors_calls.proofs.Lists.{set_same}
use Rattle.ns_actors_calls.proofs.Told.{get_shown}

-- ---- one that holds nothing

settles_as : (k : ℕ) (actors : List ActorView) (actor : ActorView) (stage : Stage) → slice_get actors k ≡ Some actor → actor.stage ≡ stage
    → (settled stage k actor (alone actors)).actors ≡ settled_at k actors
settles_as k actors actor stage got e =
    ap (λ (s : Stage). (settled s k actor (alone actors)).actors) (sym e)
    ∙ ap (λ (o : Option ActorView). settled_of o k actors) (sym got)

-- an actor that holds nothing leaves all as it was
stays_settled : (k : ℕ) (actors : List ActorView) (actor : ActorView) → slice_get actors k ≡ Some actor → HoldsNone actor.stage → actors ≡ settled_at k actors
stays_settled k actors actor got none = by actor.stage refl none
  where
    as_it_was : (stage : Stage) → actor.stage ≡ stage → (settled stage k actor (alone actors)).actors ≡ slice_set actors k actor → actors ≡ settled_at k actors
    as_it_was stage e same = sym (set_same actors k actor got) ∙ (sym same ∙ settles_as k actors actor stage got e)

    by : (stage : Stage) → actor.stage ≡ stage → HoldsNone stage → actors ≡ settled_at k actors
    by Opening e none = as_it_was Opening e refl
    by (Between behaviour) e none = as_it_was (Between behaviour) e refl
    by (Sending behaviour) e none = as_it_was (Sending behaviour) e refl
    by (Holding behaviour letters) e none = absurd none
    by (Stopped why) e none = as_it_was (Stopped why) e refl

-- one that is kept
pub none_settles : (k : ℕ) (actors : List Actor) (actor : Actor) → slice_get actors k ≡ Some actor → HoldsNone (shown actor).stage
    → map shown actors ≡ settled_at k (map shown actors)
none_settles k actors actor got none = stays_settled k (map shown actors) (shown actor) (get_shown actors k actor got) none

-- ---- one that holds an outbox

-- the letters of the outbox that it holds are posted
pub outbox_settles : (k count : ℕ) (actors : List Actor) (one : Actor) (behaviour : Value) (letters : List Letter) → slice_get actors k ≡ Some one
    → HoldsOutbox k count behaviour (shown one) → outbox_at k count (shown one) ≡ Some letters
    → posted_at k behaviour letters (map shown actors) ≡ settled_at k (map shown actors)
outbox_settles k count actors one behaviour letters got holds is =
    let same_letters : holds.outbox ≡ letters = same_Some holds.outbox letters (sym holds.outbox_is ∙ is) in
    let stage : (shown one).stage ≡ Holding behaviour letters
    = holds.stage_is ∙ ap (λ (ls : List Letter). Holding behaviour ls) same_letters in
    let there = get_shown actors k one got in
    ap (λ (o : Option ActorView). posted_from o k behaviour letters (map shown actors)) there
    ∙ settles_as k (map shown actors) (shown one) (Holding behaviour letters) there stage

-- letters of one are posted, and they are in their boxes
pub letters_post : (k : ℕ) (old actors : List Actor) (one two : Actor) (behaviour : Value) (letters : List Letter) → slice_get actors k ≡ Some one
    → map shown actors ≡ map shown old
    → shown two ≡ record (shown one) { stage = Between behaviour; posted = one.posted.all ++ letters }
    → delivered 0 letters (map shown (slice_set actors k two)) ≡ posted_at k behaviour letters (map shown old)
letters_post k old actors one two behaviour letters got same posts =
    ap (λ (views : List ActorView). delivered 0 letters views)
    (map-set shown actors k two ∙ ap (λ (view : ActorView). slice_set (map shown actors) k view) posts)
    ∙ (sym (ap (λ (o : Option ActorView). posted_from o k behaviour letters (map shown actors)) (get_shown actors k one got))
    ∙ ap (posted_at k behaviour letters) same)

-- ---- a letter of the host

-- one letter behind none
pub one_pushed : (none pushed : List Letter) (made letter : Letter) → none ≡ [] → pushed ≡ none ++ made ∷ [] → made ≡ letter → pushed ≡ letter ∷ []
one_pushed none pushed made letter empty behind is =
    behind ∙ (ap (λ (ls : List Letter). ls ++ made ∷ []) empty ∙ ap (λ (l : Letter). l ∷ []) is)

-- one letter is in its box, and behind those that the host has posted
pub host_posts : (letter : Letter) (letters host all : List Letter) (old actors new : List Actor) → letters ≡ letter ∷ []
    → map shown actors ≡ map shown old → map shown new ≡ delivered 0 letters (map shown actors) → all ≡ host ++ letters
    → seen all new ≡ posted letter (seen host old)
host_posts letter letters host all old actors new one same received behind =
    ap (λ (views : List ActorView). record { actors = views; host = all })
    (received ∙ (ap (delivered 0 letters) same ∙ ap (λ (ls : List Letter). delivered 0 ls (map shown old)) one))
    ∙ ap (λ (ls : List Letter). record { actors = delivered 0 (letter ∷ []) (map shown old); host = ls })
    (behind ∙ ap (λ (ls : List Letter). host ++ ls) one)

-- nothing is seen of letters that come next where the host's stay
pub host_stays : (host all : List Letter) (old actors : List Actor) → map shown actors ≡ map shown old → all ≡ host → seen all actors ≡ seen host old
host_stays host all old actors same kept =
    ap (λ (views : List ActorView). record { actors = views; host = all }) same
    ∙ ap (λ (ls : List Letter). record { actors = map shown old; host = ls }) kept
