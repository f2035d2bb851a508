-- Lists that are made item by item.
use Rattle.std.proofs.Common.{◌≡◌, ℕ, ◌+◌, ◌<◌, List, [], ◌∷◌, ◌++◌, length, map, drop, get_or, ap, sym, ◌∙◌, append_assoc}
use Rattle.std.proofs.lemmas.List.{drop_more}

-- What the next item gives goes behind what the items before it gave.
pub next_mapped : {X Y : Type 0} (f : X → Y) (xs : List X) (i : ℕ) (x : X) (y : Y) (ys zs all : List Y)
    → i < length xs → x ≡ get_or xs i x → ys ++ map f (drop i xs) ≡ all → y ≡ f x → zs ≡ ys ++ y ∷ [] → zs ++ map f (drop (i + 1) xs) ≡ all
next_mapped f xs i x y ys zs all l e h p q =
    let cut : drop i xs ≡ x ∷ drop (i + 1) xs = drop_more xs i x l ∙ ap (λ z. z ∷ drop (i + 1) xs) (sym e) in
    ap (λ vs. vs ++ map f (drop (i + 1) xs)) q
    ∙ append_assoc ys (y ∷ []) (map f (drop (i + 1) xs))
    ∙ ap (λ z. ys ++ z ∷ map f (drop (i + 1) xs)) p
    ∙ ap (λ vs. ys ++ map f vs) (sym cut)
    ∙ h
