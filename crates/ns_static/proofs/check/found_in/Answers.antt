use Rattle.std.proofs.lemmas.Grind.{common_steps}
use Rattle.std.proofs.Common.{◌≡◌, ◌⊎◌, inl, inr, refl, List, [], ◌∷◌, map, arith}
use Rattle.std.specs.Prelude.{zip}
use Rattle.std.proofs.lemmas.Slice.Zip.{either_empty_from_Zip}
use Rattle.ns_tree.specs.PlainOf.{unit_of}
use Rattle.ns_static.proofs.check.found_in.Goals as goal

no_pairs : {A B C : Type 0} (f : A → C) (xs : List A) (ys : List B) → (xs ≡ []) ⊎ (ys ≡ []) → zip (map f xs) ys ≡ []
no_pairs f [] ys h = refl
no_pairs f (x ∷ xs) [] h = refl
no_pairs f (x ∷ xs) (y ∷ ys) (inl h) = absurd cc
no_pairs f (x ∷ xs) (y ∷ ys) (inr h) = absurd cc

pub returns : goal.returns
returns c =
    let e : zip (map unit_of c.loop-unit.unit-iterator.a.rest.now) c.loop-unit.unit-iterator.b.rest.now ≡ [] = no_pairs unit_of _ _ (either_empty_from_Zip c.loop-unit.unit-iterator c.next.new.self c.next.result c.in-None.is c.next.ensures.steps) in
    rw e at c.loop-unit.invariant

pub loop-unit-preserved : goal.loop-unit-preserved
loop-unit-preserved c = grind (arith, common_steps)
