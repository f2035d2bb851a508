-- Bytes that are put behind others are put as one text with them.
use Rattle.std.proofs.Common.{◌≡◌, ℕ, ◌+◌, List, [], ◌∷◌, ◌++◌, length, refl, ap, sym, append-nil, append_assoc, length-append, ◌∙◌, arith}
use Rattle.ns_image_list.specs.Output.{Shown, Counted, Written, after, more}

more_more : (count a b : ℕ) → more (more count a) b ≡ more count (a + b)
more_more count a b = omega arith

pub after_after : (out : Shown) (a b : List ℕ) → after (after out a) b ≡ after out (a ++ b)
after_after (Written before) a b = ap Written (append_assoc before a b)
after_after (Counted count) [] b = refl
after_after (Counted count) (x ∷ a) [] = ap (λ l. after (Counted count) (x ∷ l)) (sym (append-nil a))
after_after (Counted count) (x ∷ a) (y ∷ b) =
    ap Counted (more_more count (length (x ∷ a)) (length (y ∷ b)) ∙ ap (more count) (sym (length-append (x ∷ a) (y ∷ b))))
