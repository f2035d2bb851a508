-- The ways up lead further up.
use Rattle.std.proofs.Common.{◌≡◌, ℕ, ◌<◌, ◌≤◌, List, length, get_or, refl, ap, sym, ◌∙◌, subst, arith, Option, Some, None, true}
use Rattle.ns_code.specs.declared.program.CodeProgram.{CodeProgram}
use Rattle.ns_world.specs.Heap.{Heap, chain_of, superclass_of, no_class}
use Rattle.ns_frozen.specs.Live.{has_chain}
use Rattle.ns_frozen_tables.specs.declared.chain.Chains.{Chains}
use Rattle.ns_frozen_seen.specs.declared.climbs.Climb.{Climb}
use Rattle.ns_frozen_tables.specs.Numbers.{IsPlaceOf}
use Rattle.ns_frozen_tables.specs.Chain.{AreChains}
use Rattle.ns_frozen_seen.specs.Climbs.{holds, Walks, IsUp, IsClimb, IsClimbOver}
use Rattle.ns_frozen_seen.specs.Keepers.{IsOver}
use Rattle.ns_frozen_seen.proofs.Walked.{chain_on, holder_on}

-- ---- further up

-- a class is as far up as itself
pub up_here : (code : CodeProgram) (heap : Heap) (numbers : List ℕ) (place : ℕ) → place < length numbers
    → has_chain code heap (get_or numbers place 0) ≡ true → IsUp code heap numbers place place
up_here code heap numbers place within e = record { within = within; low = omega arith; chain = e; same = λ holder h. refl }

-- a class further up than one that is further up
pub up_far : (code : CodeProgram) (heap : Heap) (numbers : List ℕ) (place middle end' : ℕ) → IsUp code heap numbers place middle
    → IsUp code heap numbers middle end' → IsUp code heap numbers place end'
up_far code heap numbers place middle end' one other = record {
  within = other.within;
  low = omega (arith, one.low, other.low);
  chain = other.chain;
  same = λ holder h. other.same holder h ∙ one.same holder (omega (arith, h, other.low));
}

-- the superclass of a class
pub up_over : (code : CodeProgram) (heap : Heap) (numbers : List ℕ) (place at class over : ℕ) → class ≡ get_or numbers place 0 → class ≤ no_class
    → over ≡ superclass_of heap class → over < class → IsPlaceOf numbers over (Some at) → has_chain code heap (get_or numbers place 0) ≡ true
    → IsUp code heap numbers place at
up_over code heap numbers place at class over here small is h there e = record {
  within = there.0;
  low = omega (arith, there.1, here, h);
  chain = subst (λ (n : ℕ). has_chain code heap n ≡ true) (sym (there.1 ∙ is)) (chain_on code heap class chained small (subst (λ (n : ℕ). n < class) is h));
  same = λ holder f.
      ap (λ (n : ℕ). holds holder (chain_of heap n)) there.1
      ∙ ((holder_on code heap class class over holder small (record { low = omega arith; chain = chained; same = refl }) is h (omega (arith, f, there.1, h))).same
      ∙ ap (λ (n : ℕ). holds holder (chain_of heap n)) here);
}
  where
    chained : has_chain code heap class ≡ true
    chained = subst (λ (n : ℕ). has_chain code heap n ≡ true) (sym here) e

-- ---- what is kept

-- by where the superclass of a class stands, if it has one
pub climb_is : (code : CodeProgram) (heap : Heap) (chains : Chains) (place class over : ℕ) (at : Option ℕ) (climb : Climb) → AreChains code heap chains
    → place < length chains.numbers.items → class ≡ get_or chains.numbers.items place 0 → class ≤ no_class → over ≡ superclass_of heap class
    → has_chain code heap class ≡ true → IsOver chains.numbers.items class over at → IsClimbOver code heap chains.numbers.items at climb
    → IsClimb code heap chains.numbers.items place climb
climb_is code heap chains place class over None climb are within here small is e top nowhere = record {
  over = λ h. absurd (omega (arith, are.few place within, here, small, nowhere.0, h));
  far = λ h. absurd (omega (arith, are.few place within, here, small, nowhere.1, h));
}
climb_is code heap chains place class over (Some at) climb are within here small is e there told = record {
  over = λ b. subst (IsUp code heap chains.numbers.items place) (sym told.0) up;
  far = λ b. up_far code heap chains.numbers.items place at climb.far up (told.1 up.chain);
}
  where
    up : IsUp code heap chains.numbers.items place at
    up = up_over code heap chains.numbers.items place at class over here small is there.0 there.1 (subst (λ (n : ℕ). has_chain code heap n ≡ true) here e)

-- ---- the walk

-- it begins at the class itself
pub walks_here : (code : CodeProgram) (heap : Heap) (class holder : ℕ) → has_chain code heap class ≡ true → Walks code heap class class (holds holder)
walks_here code heap class holder e = record { low = omega arith; chain = e; same = refl }

-- and goes on with a class further up that isn't above the holder
pub walks_up : (code : CodeProgram) (heap : Heap) (numbers : List ℕ) (class holder place above : ℕ) → Walks code heap class (get_or numbers place 0) (holds holder)
    → IsUp code heap numbers place above → holder ≤ get_or numbers above 0 → Walks code heap class (get_or numbers above 0) (holds holder)
walks_up code heap numbers class holder place above walks up h = record {
  low = omega (arith, walks.low, up.low);
  chain = up.chain;
  same = up.same holder h ∙ walks.same;
}
