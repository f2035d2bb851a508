-- A round of actors that rest changes nothing; and where each other round leaves less to do, and there is less than two to the
-- power, the rounds end where all rest.
use Rattle.std.proofs.Common.{◌≡◌, ◌<◌, ◌≤◌, ◌⊎◌, inl, inr, ℕ, zero, suc, ◌+◌, ◌^◌, List, [], ◌∷◌, refl, sym, ap, ◌∙◌, subst, arith, Option, Some, None, Bool, true, false, slice_get, length, eqb-true, ◌&&◌}
use Rattle.std.specs.Prelude.{slice_set}
use Rattle.std.proofs.lemmas.Option.{same_Some}
use Rattle.ns_base.specs.declared.limits.Limits.{Limits}
use Rattle.ns_moves.specs.Doubling.{times}
use Rattle.ns_moves.specs.laws.Doubling.{leads}
use Rattle.ns_actors.specs.Actor.{ActorView, Stage, Opening, Between, Sending, Holding, Stopped}
use Rattle.ns_actors.specs.Rounds.{all_rest, at_rest, power_of_rounds, rests_at, round_from, round_of, rounds}
use Rattle.ns_actors.specs.Turn.{ActorsView, next_taken, settled, turn_at, turn_for, turn_of, with_actor}
use Rattle.ns_actors.proofs.Lists.{none_past}

-- ---- actors that rest

both_true : (b c : Bool) → (b && c) ≡ true → (b ≡ true) × (c ≡ true)
both_true true c e = (refl, e)
both_true false c e = absurd (cc (e))

rest_there : (actors : List ActorView) (k : ℕ) (actor : ActorView) → all_rest actors ≡ true → slice_get actors k ≡ Some actor → rests_at actor.stage actor ≡ true
rest_there [] k actor all got = absurd (cc (got))
rest_there (one ∷ actors) zero actor all got =
    subst (λ (o : Option ActorView). RestsIn o) got ((both_true (rests_at one.stage one) (all_rest actors) all).0)
  where
    RestsIn : Option ActorView → Type 0
    RestsIn None = Unit {0}
    RestsIn (Some actor) = rests_at actor.stage actor ≡ true
rest_there (one ∷ actors) (suc k) actor all got = rest_there actors k actor ((both_true (rests_at one.stage one) (all_rest actors) all).1) got

rested_turn : (stage : Stage) (k steps count : ℕ) (actor : ActorView) → rests_at stage actor ≡ true → (turn_at stage k steps count actor).actor ≡ actor
rested_turn Opening k steps count actor r = absurd (cc (r))
rested_turn (Between behaviour) k steps count actor r =
    let all = eqb-true actor.taken (length actor.box) r in
    ap (λ o. (next_taken o behaviour k steps count actor).actor) (none_past actor.box actor.taken (omega (arith, all)))
rested_turn (Sending behaviour) k steps count actor r = absurd (cc (r))
rested_turn (Holding behaviour letters) k steps count actor r = absurd (cc (r))
rested_turn (Stopped why) k steps count actor r = refl

settled_rest : (stage : Stage) (k : ℕ) (actor : ActorView) (view : ActorsView) → rests_at stage actor ≡ true → settled stage k actor view ≡ with_actor k actor view
settled_rest Opening k actor view r = absurd (cc (r))
settled_rest (Between behaviour) k actor view r = refl
settled_rest (Sending behaviour) k actor view r = absurd (cc (r))
settled_rest (Holding behaviour letters) k actor view r = absurd (cc (r))
settled_rest (Stopped why) k actor view r = refl

itself_set : {A : Type 0} (xs : List A) (k : ℕ) (x : A) → slice_get xs k ≡ Some x → slice_set xs k x ≡ xs
itself_set [] k x e = refl
itself_set (y ∷ ys) zero x e = ap (λ z. z ∷ ys) (sym (same_Some y x e))
itself_set (y ∷ ys) (suc k) x e = ap (λ more. y ∷ more) (itself_set ys k x e)

-- a turn of one that rests changes nothing
pub turn_rests : (k steps : ℕ) (view : ActorsView) (actor : ActorView) → slice_get view.actors k ≡ Some actor → rests_at actor.stage actor ≡ true
    → (turn_of k steps view).view ≡ view
turn_rests k steps view actor got rest =
    ap (λ (o : Option ActorView). (turn_for o k steps view).view) got
    ∙ (ap (λ (a : ActorView). settled a.stage k a view) (rested_turn actor.stage k steps (length view.actors) actor rest)
    ∙ (settled_rest actor.stage k actor view rest ∙ ap (λ (xs : List ActorView). record view { actors = xs }) (itself_set view.actors k actor got)))

turn_among : (k steps : ℕ) (view : ActorsView) → at_rest view ≡ true → (o : Option ActorView) → slice_get view.actors k ≡ o → (turn_of k steps view).view ≡ view
turn_among k steps view rest None got = ap (λ (o : Option ActorView). (turn_for o k steps view).view) got
turn_among k steps view rest (Some actor) got = turn_rests k steps view actor got (rest_there view.actors k actor rest got)

from_rests : (steps more k : ℕ) (view : ActorsView) → at_rest view ≡ true → round_from steps more k view ≡ view
from_rests steps zero k view rest = refl
from_rests steps (suc more) k view rest =
    ap (λ (v : ActorsView). round_from steps more (k + 1) v) (turn_among k steps view rest (slice_get view.actors k) refl) ∙ from_rests steps more (k + 1) view rest

pub round_rests : (steps : ℕ) (view : ActorsView) → at_rest view ≡ true → round_of steps view ≡ view
round_rests steps view rest = from_rests steps (length view.actors) 0 view rest

-- ---- rounds end

times_rest : (steps count : ℕ) (view : ActorsView) → at_rest view ≡ true → times (round_of steps) count view ≡ view
times_rest steps zero view rest = refl
times_rest steps (suc count) view rest = ap (λ (v : ActorsView). times (round_of steps) count v) (round_rests steps view rest) ∙ times_rest steps count view rest

module _ (steps : ℕ) (left : ActorsView → ℕ) where
  lowered : (count : ℕ) (view : ActorsView) → ((n : ℕ) → at_rest (times (round_of steps) n view) ≡ false → left (times (round_of steps) (suc n) view) < left (times (round_of steps) n view))
      → at_rest (times (round_of steps) count view) ≡ false → left (times (round_of steps) count view) + count ≤ left view
  lowered zero view falls on = omega arith
  lowered (suc count) view falls on =
      let fewer = lowered count (round_of steps view) (λ n. falls (suc n)) on in
      let first = falls 0 (was_on (at_rest view) refl) in
      omega (arith, fewer, first)
    where
      was_on : (b : Bool) → at_rest view ≡ b → at_rest view ≡ false
      was_on false e = e
      was_on true e =
          let same : at_rest view ≡ false = ap at_rest (sym (times_rest steps (suc count) view e)) ∙ on in
          same

pub rounds_end : (limits : Limits) (view : ActorsView) (left : ActorsView → ℕ)
    → ((n : ℕ) → at_rest (times (round_of 1000) n view) ≡ false → left (times (round_of 1000) (suc n) view) < left (times (round_of 1000) n view))
    → left view < 2 ^ power_of_rounds (length view.actors) limits → at_rest (rounds limits view) ≡ true
rounds_end limits view left falls below =
    let led = leads at_rest (round_of 1000) 0 (power_of_rounds (length view.actors) limits) view in
    by (at_rest (rounds limits view)) refl led.count led.is led.done
  where
    by : (b : Bool) → at_rest (rounds limits view) ≡ b → (count : ℕ) → times (round_of 1000) count view ≡ rounds limits view
        → (at_rest (rounds limits view) ≡ true) ⊎ (2 ^ (0 + power_of_rounds (length view.actors) limits) ≤ count + 2 ^ 0) → at_rest (rounds limits view) ≡ true
    by true e count is done = e
    by false e count is (inl done) = done
    by false e count is (inr many) =
        let on : at_rest (times (round_of 1000) count view) ≡ false = ap at_rest is ∙ e in
        let all = lowered 1000 left count view falls on in
        let last = falls count on in
        let none : 0 + power_of_rounds (length view.actors) limits ≡ power_of_rounds (length view.actors) limits = omega arith in
        let same = ap (λ n. 2 ^ n) none in
        absurd (omega (arith, all, last, many, same, below))
