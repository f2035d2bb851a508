-- The turns of a round, one after another.
use Rattle.std.proofs.Common.{◌≡◌, ◌<◌, ℕ, suc, ◌+◌, ◌-◌, List, [], ◌∷◌, refl, sym, ap, ◌∙◌, arith, Option, Some, None, slice_get, length}
use Rattle.std.specs.Prelude.{slice_set}
use Rattle.std.proofs.lemmas.List.{length-set}
use Rattle.ns_actors.specs.declared.letter.Letter.{Letter}
use Rattle.ns_actors.specs.Actor.{ActorView, Stage, Opening, Between, Sending, Holding, Stopped}
use Rattle.ns_actors.specs.Rounds.{round_from}
use Rattle.ns_actors.specs.Turn.{ActorsView, delivered, settled, turn_for, turn_of, turn_taken}

-- ---- a turn leaves as many actors

pub length_delivered : (number : ℕ) (letters : List Letter) (actors : List ActorView) → length (delivered number letters actors) ≡ length actors
length_delivered number letters [] = refl
length_delivered number letters (actor ∷ actors) = ap suc (length_delivered (number + 1) letters actors)

length_settled : (stage : Stage) (k : ℕ) (actor : ActorView) (view : ActorsView) → length (settled stage k actor view).actors ≡ length view.actors
length_settled Opening k actor view = length-set view.actors k actor
length_settled (Between behaviour) k actor view = length-set view.actors k actor
length_settled (Sending behaviour) k actor view = length-set view.actors k actor
length_settled (Holding behaviour letters) k actor view =
    length_delivered 0 letters (slice_set view.actors k _) ∙ length-set view.actors k _
length_settled (Stopped why) k actor view = length-set view.actors k actor

length_turned_for : (actor : Option ActorView) (k steps : ℕ) (view : ActorsView) → length (turn_for actor k steps view).view.actors ≡ length view.actors
length_turned_for None k steps view = refl
length_turned_for (Some actor) k steps view =
    let taken = turn_taken k steps (length view.actors) actor in length_settled taken.actor.stage k taken.actor view

pub length_turned : (k steps : ℕ) (view : ActorsView) → length (turn_of k steps view).view.actors ≡ length view.actors
length_turned k steps view = length_turned_for (slice_get view.actors k) k steps view

-- ---- the turns that are left

-- The turns of those from k on make of it what the round makes of the actors, of which there are as many.
pub record IsUnderway (steps : ℕ) (old now : ActorsView) (k : ℕ) : Type 0 where
  pub turns : round_from steps (length old.actors - k) k now ≡ round_from steps (length old.actors) 0 old
  pub count : length now.actors ≡ length old.actors

pub not_begun : (steps : ℕ) (view : ActorsView) → IsUnderway steps view view 0
not_begun steps view =
    let all : length view.actors - 0 ≡ length view.actors = omega arith in
    record { turns = ap (λ (n : ℕ). round_from steps n 0 view) all; count = refl }

pub one_turned : (steps : ℕ) (old now new : ActorsView) (k : ℕ) → k < length old.actors → new ≡ (turn_of k steps now).view → IsUnderway steps old now k
    → IsUnderway steps old new (k + 1)
one_turned steps old now new k within turned underway =
    let more : length old.actors - k ≡ suc (length old.actors - (k + 1)) = omega (arith, within) in
    record {
      turns =
          ap (λ (v : ActorsView). round_from steps (length old.actors - (k + 1)) (k + 1) v) turned
          ∙ (sym (ap (λ (n : ℕ). round_from steps n k now) more) ∙ underway.turns);
      count = ap (λ (v : ActorsView). length v.actors) turned ∙ (length_turned k steps now ∙ underway.count);
    }

pub all_turned : (steps : ℕ) (old now : ActorsView) (k : ℕ) → k ≡ length old.actors → IsUnderway steps old now k
    → now ≡ round_from steps (length old.actors) 0 old
all_turned steps old now k all underway =
    let none : length old.actors - k ≡ 0 = omega (arith, all) in
    sym (ap (λ (n : ℕ). round_from steps n k now) none) ∙ underway.turns
