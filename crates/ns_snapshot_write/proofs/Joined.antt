-- Fields that are put behind fields.
use Rattle.std.proofs.Common.{◌≡◌, ℕ, List, [], ◌∷◌, ◌++◌, subst, sym, ap, ◌∙◌, append_assoc}
use Rattle.std.specs.Prelude.{Result, OnOk}
use Rattle.std.specs.List.{concat}
use Rattle.std.proofs.lemmas.List.{append-nil}
use Rattle.std.proofs.lemmas.List.Folds.{concat-append}

pub both_put :
    {X E : Type 0} (result : Result X E) (before mid after : List ℕ) (first second : List (List ℕ))
    → mid ≡ before ++ concat first → OnOk result (after ≡ mid ++ concat second) → OnOk result (after ≡ before ++ concat (first ++ second))
both_put result before mid after first second e put =
    let joined : mid ++ concat second ≡ before ++ concat (first ++ second) = ap (λ (m : List ℕ). m ++ concat second) e ∙ append_assoc before (concat first) (concat second) ∙ ap (λ (m : List ℕ). before ++ m) (sym (concat-append first second)) in
    subst (λ (m : List ℕ). OnOk result (after ≡ m)) joined put

pub three_put :
    {X E : Type 0} (result : Result X E) (before one two after a b c : List ℕ)
    → one ≡ before ++ a → two ≡ one ++ b → OnOk result (after ≡ two ++ c) → OnOk result (after ≡ before ++ concat (a ∷ b ∷ c ∷ []))
three_put result before one two after a b c first second put =
    let there : two ≡ (before ++ a) ++ b = second ∙ ap (λ (m : List ℕ). m ++ b) first in
    let whole : c ≡ c ++ [] = sym (append-nil c) in
    let joined : two ++ c ≡ before ++ (a ++ (b ++ (c ++ []))) = ap (λ (m : List ℕ). m ++ c) there ∙ append_assoc (before ++ a) b c ∙ append_assoc before a (b ++ c) ∙ ap (λ (m : List ℕ). before ++ (a ++ (b ++ m))) whole in
    subst (λ (m : List ℕ). OnOk result (after ≡ m)) joined put
