-- Numbered lines, one more of which was put.
use Rattle.std.proofs.Common.{◌≡◌, ◌<◌, ℕ, ◌+◌, List, ◌∷◌, length, drop, get_or, sym, ap, ◌∙◌}
use Rattle.std.proofs.lemmas.List.{drop_more}
use Rattle.ns_image_list.specs.Listing.{numbered}
use Rattle.ns_image_list.specs.Output.{Shown, after}
use Rattle.ns_image_members.proofs.Puts.{after_after}

-- Where a line was put, the lines that are left come behind it.
pub numbered_on : {A : Type 0} (line : ℕ → A → List ℕ) (k : ℕ) (items : List A) (item : A) (out made whole : Shown) → k < length items →
    item ≡ get_or items k item → after out (numbered line k (drop k items)) ≡ whole → made ≡ after out (line k item) →
    after made (numbered line (k + 1) (drop (k + 1) items)) ≡ whole
numbered_on line k items item out made whole within is before put =
    let left = drop (k + 1) items in
    let here : drop k items ≡ item ∷ left = drop_more items k item within ∙ ap (λ x. x ∷ left) (sym is) in
    ap (λ o. after o (numbered line (k + 1) left)) put
    ∙ after_after out (line k item) (numbered line (k + 1) left)
    ∙ ap (λ all. after out (numbered line k all)) (sym here)
    ∙ before
