-- The line of a send that nothing answers, put in pieces.
use Rattle.std.proofs.Common.{◌≡◌, ℕ, List, [], ◌∷◌, ◌++◌, ap, ◌∙◌, append_assoc}

-- Three pieces and a line feed, put one behind the other.
pub put_in_four : (lines front middle last one two three four : List ℕ) → one ≡ lines ++ front → two ≡ one ++ middle → three ≡ two ++ last
    → four ≡ three ++ 10 ∷ [] → four ≡ lines ++ (front ++ middle ++ last ++ 10 ∷ [])
put_in_four lines front middle last one two three four is_one is_two is_three is_four =
    is_four
    ∙ ap (λ x. x ++ 10 ∷ []) (is_three ∙ ap (λ x. x ++ last) (is_two ∙ ap (λ x. x ++ middle) is_one))
    ∙ ap (λ x. (x ++ last) ++ 10 ∷ []) (append_assoc lines front middle)
    ∙ ap (λ x. x ++ 10 ∷ []) (append_assoc lines (front ++ middle) last)
    ∙ append_assoc lines ((front ++ middle) ++ last) (10 ∷ [])
