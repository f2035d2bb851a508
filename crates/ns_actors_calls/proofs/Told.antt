-- What is told of one of the actors that are kept.
use Rattle.std.proofs.Common.{◌≡◌, ◌≢◌, ℕ, List, refl, sym, ap, ◌∙◌, Option, Some, None, Bool, true, false, ◌==◌, if◌then◌else◌, eqb-true, slice_get, length, map}
use Rattle.std.specs.Prelude.{option_map, option_and_then}
use Rattle.std.proofs.lemmas.List.{length-map}
use Rattle.std.proofs.lemmas.Option.{slice_get-map}
use Rattle.ns_actors.specs.declared.letter.Letter.{Letter}
use Rattle.ns_actors.specs.Actor.{ActorView}
use Rattle.ns_actors.specs.Turn.{ActorsView, host_number}
use Rattle.ns_actors_calls.specs.declared.actor.Actor.{Actor}
use Rattle.ns_actors_calls.specs.Shown.{shown}
use Rattle.ns_actors_calls.specs.Seen.{posted_in, seen}

-- one that is there, or isn't
pub get_shown : (actors : List Actor) (k : ℕ) (actor : Actor) → slice_get actors k ≡ Some actor → slice_get (map shown actors) k ≡ Some (shown actor)
get_shown actors k actor got = slice_get-map shown actors k ∙ ap (λ (o : Option Actor). option_map shown o) got

none_shown : (actors : List Actor) (k : ℕ) → slice_get actors k ≡ None → slice_get (map shown actors) k ≡ None
none_shown actors k none = slice_get-map shown actors k ∙ ap (λ (o : Option Actor). option_map shown o) none

pub length_shown : (actors : List Actor) → length (map shown actors) ≡ length actors
length_shown actors = length-map actors shown

-- how many there are
pub count_seen : (host : List Letter) (actors : List Actor) (view : ActorsView) → seen host actors ≡ view → length actors ≡ length view.actors
count_seen host actors view is = sym (length_shown actors) ∙ ap (λ (v : ActorsView). length v.actors) is

-- ---- what is told of one that is there, and of one that isn't

module _ (host : List Letter) (actors : List Actor) (view : ActorsView) (k : ℕ) (is : seen host actors ≡ view) where
  pub told_at : {B : Type 0} (f : ActorView → B) (actor : Actor) → slice_get actors k ≡ Some actor
      → Some (f (shown actor)) ≡ option_map f (slice_get view.actors k)
  told_at f actor got =
      sym (ap (λ (o : Option ActorView). option_map f o) (get_shown actors k actor got))
      ∙ ap (λ (v : ActorsView). option_map f (slice_get v.actors k)) is

  pub none_told : {B : Type 0} (f : ActorView → B) → slice_get actors k ≡ None → None ≡ option_map f (slice_get view.actors k)
  none_told f none =
      sym (ap (λ (o : Option ActorView). option_map f o) (none_shown actors k none))
      ∙ ap (λ (v : ActorsView). option_map f (slice_get v.actors k)) is

  pub then_told : {B : Type 0} (f : ActorView → Option B) (actor : Actor) → slice_get actors k ≡ Some actor
      → f (shown actor) ≡ option_and_then f (slice_get view.actors k)
  then_told f actor got =
      sym (ap (λ (o : Option ActorView). option_and_then f o) (get_shown actors k actor got))
      ∙ ap (λ (v : ActorsView). option_and_then f (slice_get v.actors k)) is

  pub none_then : {B : Type 0} (f : ActorView → Option B) → slice_get actors k ≡ None → None ≡ option_and_then f (slice_get view.actors k)
  none_then f none =
      sym (ap (λ (o : Option ActorView). option_and_then f o) (none_shown actors k none))
      ∙ ap (λ (v : ActorsView). option_and_then f (slice_get v.actors k)) is

-- ---- what is posted by the host, or by one of them

pub host_posted : (host letters : List Letter) (actors : List Actor) (view : ActorsView) (k : ℕ) → k ≡ host_number → letters ≡ host
    → seen host actors ≡ view → Some letters ≡ posted_in view k
host_posted host letters actors view k number same is =
    ap (λ (ls : List Letter). Some ls) same ∙ (ap (λ (v : ActorsView). Some v.host) is ∙ sym (ap (posted_in view) number))

pub actor_posted : (view : ActorsView) (k : ℕ) → k ≢ host_number
    → option_map (λ (actor : ActorView). actor.posted) (slice_get view.actors k) ≡ posted_in view k
actor_posted view k differs = by (k == host_number) refl
  where
    by : (b : Bool) → (k == host_number) ≡ b
        → option_map (λ (actor : ActorView). actor.posted) (slice_get view.actors k) ≡ posted_in view k
    by true e = absurd (differs (eqb-true k host_number e))
    by false e =
        sym (ap (λ (b : Bool). if b then Some view.host else option_map (λ (actor : ActorView). actor.posted) (slice_get view.actors k)) e)
