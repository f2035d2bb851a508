-- Lists that differ in their first bytes.
use Rattle.std.proofs.Common.{◌≡◌, ℕ, List, [], ◌∷◌, ◌++◌, Bool, true, false, eqb, sym, ◌∙◌}
use Rattle.std.proofs.lemmas.List.{append_assoc}

pub clash : true ≡ false → ⊥
clash e = cc

pub same_head : {a b : ℕ} {xs ys : List ℕ} → a ∷ xs ≡ b ∷ ys → a ≡ b
same_head e = cc

pub same_tail : {a b : ℕ} {xs ys : List ℕ} → a ∷ xs ≡ b ∷ ys → xs ≡ ys
same_tail e = cc

-- whether a list begins with that byte
abbrev pub starts : ℕ → List ℕ → Bool
starts c [] = false
starts c (x ∷ xs) = eqb c x

-- three parts, the last of which is taken to the second, on both sides
pub regroup : (xs ys r xs' ys' s : List ℕ) → (xs ++ ys) ++ r ≡ (xs' ++ ys') ++ s → xs ++ (ys ++ r) ≡ xs' ++ (ys' ++ s)
regroup xs ys r xs' ys' s e = sym (append_assoc xs ys r) ∙ e ∙ append_assoc xs' ys' s
