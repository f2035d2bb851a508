-- Bodies that are put in turn.
use Rattle.std.proofs.Common.{◌≡◌, ◌<◌, ℕ, ◌+◌, List, [], ◌∷◌, ◌++◌, length, drop, get_or, refl, sym, ap, ◌∙◌}
use Rattle.std.proofs.lemmas.List.{drop_more}
use Rattle.ns_resolved.specs.Program as m
use Rattle.ns_gen_bodies.specs.Coding.{Coded, with_one, with_bodies}

pub with_more : (first second : List m.Body) (before : Coded) →
    with_bodies (first ++ second) before ≡ with_bodies second (with_bodies first before)
with_more [] second before = refl
with_more (body ∷ first) second before = with_more first second (with_one body before)

-- two parts, of which the second begins at the number behind the first
pub both_put : (first : List m.Body) (second : ℕ → List m.Body) (next next' : ℕ) (s0 s1 s2 : Coded) →
    s1 ≡ with_bodies first s0 → next' ≡ next → s2 ≡ with_bodies (second next') s1 → s2 ≡ with_bodies (first ++ second next) s0
both_put first second next next' s0 s1 s2 one number two =
    two ∙ ap (λ n. with_bodies (second n) s1) number ∙ ap (with_bodies (second next)) one ∙ sym (with_more first (second next) s0)

-- ---- one of a list, and those behind it

pub loop_put : {A : Type 0} (one : ℕ → A → List m.Body) (count : A → ℕ) (rest : ℕ → List A → List m.Body) →
    ((n : ℕ) (x : A) (xs : List A) → rest n (x ∷ xs) ≡ one n x ++ rest (n + count x) xs) →
    (next next' k : ℕ) (items : List A) (item : A) (s0 s1 whole : Coded) → k < length items → item ≡ get_or items k item →
    with_bodies (rest next (drop k items)) s0 ≡ whole → s1 ≡ with_bodies (one next item) s0 → next' ≡ next + count item →
    with_bodies (rest next' (drop (k + 1) items)) s1 ≡ whole
loop_put one count rest parts next next' k items item s0 s1 whole within is before put number =
    let left = drop (k + 1) items in
    let here : drop k items ≡ item ∷ left = drop_more items k item within ∙ ap (λ x. x ∷ left) (sym is) in
    ap (λ n. with_bodies (rest n left) s1) number
    ∙ ap (with_bodies (rest (next + count item) left)) put
    ∙ sym (with_more (one next item) (rest (next + count item) left) s0)
    ∙ ap (λ all. with_bodies all s0) (sym (parts next item left))
    ∙ ap (λ all. with_bodies (rest next all) s0) (sym here)
    ∙ before

-- ---- the same, where classes are numbered too

pub loop_put_numbered : {A : Type 0} (one : ℕ → ℕ → A → List m.Body) (classes count : A → ℕ) (rest : ℕ → ℕ → List A → List m.Body) →
    ((i n : ℕ) (x : A) (xs : List A) → rest i n (x ∷ xs) ≡ one i n x ++ rest (i + classes x) (n + count x) xs) →
    (number number' next next' k : ℕ) (items : List A) (item : A) (s0 s1 whole : Coded) → k < length items → item ≡ get_or items k item →
    with_bodies (rest number next (drop k items)) s0 ≡ whole → s1 ≡ with_bodies (one number next item) s0 →
    number' ≡ number + classes item → next' ≡ next + count item → with_bodies (rest number' next' (drop (k + 1) items)) s1 ≡ whole
loop_put_numbered one classes count rest parts number number' next next' k items item s0 s1 whole within is before put p q =
    let left = drop (k + 1) items in
    let here : drop k items ≡ item ∷ left = drop_more items k item within ∙ ap (λ x. x ∷ left) (sym is) in
    ap (λ i. with_bodies (rest i next' left) s1) p
    ∙ ap (λ n. with_bodies (rest (number + classes item) n left) s1) q
    ∙ ap (with_bodies (rest (number + classes item) (next + count item) left)) put
    ∙ sym (with_more (one number next item) (rest (number + classes item) (next + count item) left) s0)
    ∙ ap (λ all. with_bodies all s0) (sym (parts number next item left))
    ∙ ap (λ all. with_bodies (rest number next all) s0) (sym here)
    ∙ before
