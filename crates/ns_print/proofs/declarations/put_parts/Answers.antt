use Rattle.std.proofs.Common.{◌≡◌, ◌⊎◌, inl, inr, refl, List, [], ◌∷◌, arith}
use Rattle.std.specs.Prelude.{zip}
use Rattle.std.proofs.lemmas.Grind.{common_steps}
use Rattle.std.proofs.lemmas.Slice.Zip.{either_empty_from_Zip}
use Rattle.ns_print.proofs.declarations.put_parts.Goals as goal

no_pairs : {A B : Type 0} → (xs : List A) (ys : List B) → (xs ≡ []) ⊎ (ys ≡ []) → zip xs ys ≡ []
no_pairs [] ys h = refl
no_pairs (x ∷ xs) [] h = refl
no_pairs (x ∷ xs) (y ∷ ys) (inl h) = absurd cc
no_pairs (x ∷ xs) (y ∷ ys) (inr h) = absurd cc

pub returns : goal.returns
returns c =
    let e : zip c.loop-part.part-iterator.a.rest.now c.loop-part.part-iterator.b.rest.now ≡ [] = no_pairs _ _ (either_empty_from_Zip c.loop-part.part-iterator c.next.new.self c.next.result c.in-None.is c.next.ensures.steps) in
    let i = rw e at c.loop-part.invariant in
    grind (arith, common_steps, i)

pub loop-part-preserved : goal.loop-part-preserved
loop-part-preserved c = grind (arith, common_steps)
