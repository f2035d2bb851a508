-- Letters that are delivered are as many more to be taken, and no more.
use Rattle.std.proofs.Common.{◌≡◌, ◌<◌, ◌≤◌, ℕ, zero, suc, ◌+◌, ◌-◌, List, [], ◌∷◌, ◌++◌, refl, sym, ap, ◌∙◌, arith, Some, None, Bool, true, false, not, nat_lt, ◌==◌, cond, slice_get, length}
use Rattle.std.specs.Prelude.{slice_set}
use Rattle.std.proofs.lemmas.Option.{same_Some}
use Rattle.std.proofs.lemmas.Bool.Decides.{nat_tests}
use Rattle.ns_actors.specs.declared.letter.Letter.{Letter}
use Rattle.ns_actors.specs.Actor.{ActorView}
use Rattle.ns_actors.specs.Turn.{delivered, letters_to, receiving}
use Rattle.ns_actors_rounds.specs.Left.{actor_left, all_left}

-- ---- letters

-- how many of these letters are to actors from that number on
letters_from_on : ℕ → List Letter → ℕ
letters_from_on number [] = 0
letters_from_on number (letter ∷ letters) = cond (nat_lt letter.to number) 0 1 + letters_from_on number letters

-- those to one, and those to all behind it
letters_split : (number : ℕ) (letters : List Letter) → length (letters_to number letters) + letters_from_on (number + 1) letters ≡ letters_from_on number letters
unfolding letters_from_on
letters_split number [] = refl
letters_split number (letter ∷ letters) = let rest = letters_split number letters in grind (arith, nat_tests)

no_more : (number : ℕ) (letters : List Letter) → letters_from_on number letters ≤ length letters
unfolding letters_from_on
no_more number [] = omega arith
no_more number (letter ∷ letters) = let rest = no_more number letters in grind (arith, nat_tests)

-- ---- boxes

length_both : {A : Type 0} (xs ys : List A) → length (xs ++ ys) ≡ length xs + length ys
length_both [] ys = omega arith
length_both (x ∷ xs) ys = let rest = length_both xs ys in omega (arith, rest)

receiving_left : (letters : List Letter) (actor : ActorView) → actor_left (receiving letters actor) ≤ actor_left actor + length letters
receiving_left letters actor = let both = length_both actor.box letters in omega (arith, both)

delivered_left : (number : ℕ) (letters : List Letter) (actors : List ActorView)
    → all_left (delivered number letters actors) ≤ all_left actors + letters_from_on number letters
delivered_left number letters [] = omega arith
delivered_left number letters (actor ∷ actors) =
    let rest = delivered_left (number + 1) letters actors in
    let own = receiving_left (letters_to number letters) actor in
    let split = letters_split number letters in
    omega (arith, rest, own, split)

pub delivers_few : (letters : List Letter) (actors : List ActorView) → all_left (delivered 0 letters actors) ≤ all_left actors + length letters
delivers_few letters actors =
    let all = delivered_left 0 letters actors in
    let few = no_more 0 letters in
    omega (arith, all, few)

-- ---- one actor in its place

pub set_left : (actors : List ActorView) (k : ℕ) (old new : ActorView) → slice_get actors k ≡ Some old
    → all_left (slice_set actors k new) + actor_left old ≡ all_left actors + actor_left new
set_left [] k old new e = absurd (cc (e))
set_left (actor ∷ actors) zero old new e =
    let same = ap actor_left (same_Some actor old e) in
    omega (arith, same)
set_left (actor ∷ actors) (suc k) old new e = let rest = set_left actors k old new e in omega (arith, rest)
