-- The numbers of what stands behind.
use Rattle.std.proofs.Common.{◌≡◌, ◌<◌, ℕ, ◌+◌, List, ◌∷◌, ◌++◌, length, drop, get_or, sym, ap, ◌∙◌, length-append, arith}
use Rattle.std.proofs.lemmas.List.{drop_more}
use Rattle.ns_scope.specs.declared.scope.Scope.{Scope}

-- the number behind two parts
pub behind_both : (x y : List Scope) (next middle last : ℕ) → middle ≡ next + length x → last ≡ middle + length y →
    last ≡ next + length (x ++ y)
behind_both x y next middle last e f = omega (e, f, length-append x y, arith)

-- The number behind so many of the items of a list, after each turn of a loop over it.
pub loop_number : {A : Type 0} (one : A → List Scope) (rest : List A → List Scope) →
    ((x : A) (xs : List A) → rest (x ∷ xs) ≡ one x ++ rest xs) →
    (next next' k last : ℕ) (items : List A) (item : A) → k < length items → item ≡ get_or items k item →
    next + length (rest (drop k items)) ≡ last → next' ≡ next + length (one item) → next' + length (rest (drop (k + 1) items)) ≡ last
loop_number one rest parts next next' k last items item within is before number =
    let left = drop (k + 1) items in
    let here : drop k items ≡ item ∷ left = drop_more items k item within ∙ ap (λ x. x ∷ left) (sym is) in
    let e : next + length (one item ++ rest left) ≡ last =
    ap (λ all. next + length all) (sym (parts item left)) ∙ ap (λ all. next + length (rest all)) (sym here) ∙ before in
    omega (e, number, length-append (one item) (rest left), arith)

-- How many there are in so many of the items, after each turn.
pub loop_count : {A : Type 0} (one : A → ℕ) (rest : List A → ℕ) → ((x : A) (xs : List A) → rest (x ∷ xs) ≡ one x + rest xs) →
    (number number' k last : ℕ) (items : List A) (item : A) → k < length items → item ≡ get_or items k item →
    number + rest (drop k items) ≡ last → number' ≡ number + one item → number' + rest (drop (k + 1) items) ≡ last
loop_count one rest parts number number' k last items item within is before put =
    let left = drop (k + 1) items in
    let here : drop k items ≡ item ∷ left = drop_more items k item within ∙ ap (λ x. x ∷ left) (sym is) in
    let e : number + (one item + rest left) ≡ last = ap (number +◌) (sym (parts item left)) ∙ ap (λ all. number + rest all) (sym here) ∙ before in
    omega (e, put, arith)
