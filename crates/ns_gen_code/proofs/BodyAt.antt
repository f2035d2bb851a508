-- The body of a number is the code of the body of that number, and its literal texts stand from its first one on.
use Rattle.std.proofs.Common.{◌≡◌, ℕ, zero, suc, ◌+◌, List, [], ◌∷◌, ◌++◌, length, refl, sym, ap, ◌∙◌, subst, arith, append_assoc, length-append}
use Rattle.std.specs.Prelude.{Some, None, option_map, slice_get, take, drop, flat_map}
use Rattle.std.proofs.lemmas.List.{get_or_at}
use Rattle.std.proofs.lemmas.Option.{same_Some}
use Rattle.ns_resolved.specs.Program as m
use Rattle.ns_resolved.specs.Tables.{body_texts, texts_of, names_of}
use Rattle.ns_gen_code.specs.Code.{body_code, bodies_code, code_of}
use Rattle.ns_gen_code.specs.Stated.{TextsStand, first_text}

pub code_at : (names : List (List ℕ)) (bodies : List m.Body) (n k : ℕ) →
    slice_get (bodies_code names k bodies) n ≡ option_map (body_code names (k + first_text bodies n)) (slice_get bodies n)
code_at names [] n k = refl
code_at names (body ∷ bodies) zero k = let e : k ≡ k + 0 = omega arith in ap (λ j. Some (body_code names j body)) e
code_at names (body ∷ bodies) (suc n) k =
    let e : k + length (body_texts body) + first_text bodies n ≡ k + first_text (body ∷ bodies) (suc n) =
    omega (arith, length-append (body_texts body) (flat_map body_texts (take n bodies))) in
    code_at names bodies n (k + length (body_texts body)) ∙ ap (λ j. option_map (body_code names j) (slice_get bodies n)) e

-- the code's body of a number
pub body_of_code : (meant : m.Meant) (n : ℕ) →
    slice_get (code_of meant).bodies n ≡ option_map (body_code (names_of meant) (first_text meant.bodies n)) (slice_get meant.bodies n)
body_of_code meant n =
    let e : 0 + first_text meant.bodies n ≡ first_text meant.bodies n = omega arith in
    code_at (names_of meant) meant.bodies n 0 ∙ ap (λ j. option_map (body_code (names_of meant) j) (slice_get meant.bodies n)) e

-- ---- literal texts

pub stand_between : (before texts after : List (List ℕ)) → TextsStand (before ++ (texts ++ after)) (length before) texts
stand_between before [] after = tt
stand_between before (text ∷ texts) after = (
  get_or_at before text (texts ++ after) [] (length before) refl,
  subst (λ table. TextsStand table (length before + 1) texts) (append_assoc before (text ∷ []) (texts ++ after))
      (subst (λ k. TextsStand ((before ++ text ∷ []) ++ (texts ++ after)) k texts) (length-append before (text ∷ []))
      (stand_between (before ++ text ∷ []) texts after)),
)

texts_split : (bodies : List m.Body) (n : ℕ) (body : m.Body) → slice_get bodies n ≡ Some body →
    flat_map body_texts bodies ≡ flat_map body_texts (take n bodies) ++ (body_texts body ++ flat_map body_texts (drop (suc n) bodies))
texts_split [] n body h = absurd (let f : None ≡ Some body = h in cc)
texts_split (first ∷ bodies) zero body h = ap (λ b. body_texts b ++ flat_map body_texts bodies) (same_Some first body h)
texts_split (first ∷ bodies) (suc n) body h =
    ap (body_texts first ++◌) (texts_split bodies n body h)
    ∙ sym (append_assoc (body_texts first) (flat_map body_texts (take n bodies)) (body_texts body ++ flat_map body_texts (drop (suc n) bodies)))

-- those of a body stand from its first one on
pub body_texts_stand : (meant : m.Meant) (n : ℕ) (body : m.Body) → slice_get meant.bodies n ≡ Some body →
    TextsStand (texts_of meant) (first_text meant.bodies n) (body_texts body)
body_texts_stand meant n body h =
    subst (λ table. TextsStand table (first_text meant.bodies n) (body_texts body)) (sym (texts_split meant.bodies n body h))
    (stand_between (flat_map body_texts (take n meant.bodies)) (body_texts body) (flat_map body_texts (drop (suc n) meant.bodies)))
