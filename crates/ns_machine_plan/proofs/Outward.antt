-- Levels are passed one by one or in far steps.
use Rattle.std.proofs.Common.{◌≡◌, ◌⊎◌, inl, inr, ℕ, zero, suc, ◌+◌, ◌*◌, ◌/◌, ◌%◌, ◌<◌, ◌≤◌, List, [], ◌∷◌, ◌++◌, Option, Some, None, refl, sym, ap, ◌∙◌, length, slice_get, arith}
use Rattle.std.proofs.lemmas.Bool.{cases_lt}
use Rattle.std.proofs.lemmas.List.{length-append}
use Rattle.ns_code.specs.declared.program.CodeProgram.{CodeProgram}
use Rattle.ns_moves.specs.Lawful.{outer_of}
use Rattle.ns_machine_plan.specs.Outers.{out_from}
use Rattle.ns_machine_plan.specs.Privates.{declaration_out}

-- from nothing nothing is met
pub none_out : (code : CodeProgram) (levels : ℕ) → None ≡ out_from code None levels
none_out code zero = refl
none_out code (suc levels) = ap (outer_of code) (none_out code levels)

-- some levels out, and then some more
pub more_out : (code : CodeProgram) (from : Option ℕ) (some more : ℕ) →
    out_from code (out_from code from some) more ≡ out_from code from (more + some)
more_out code from some zero = let none : 0 + some ≡ some = omega arith in ap (out_from code from) (sym none)
more_out code from some (suc more) =
    let next : suc (more + some) ≡ suc more + some = omega arith in
    ap (outer_of code) (more_out code from some more) ∙ ap (out_from code from) next

one_by_one : (code : CodeProgram) (decl levels : ℕ) → out_from code (Some decl) levels ≡ declaration_out code decl levels
one_by_one code decl zero = refl
one_by_one code decl (suc levels) = ap (outer_of code) (one_by_one code decl levels)

-- one far step more
pub far_more : (code : CodeProgram) (decl steps : ℕ) →
    out_from code (out_from code (Some decl) (steps * 16)) 16 ≡ out_from code (Some decl) ((steps + 1) * 16)
far_more code decl steps =
    let all : 16 + steps * 16 ≡ (steps + 1) * 16 = omega arith in
    more_out code (Some decl) (steps * 16) 16 ∙ ap (out_from code (Some decl)) all

-- far steps and then the levels that are left
pub far_and_near : (code : CodeProgram) (decl level : ℕ) (far found : Option ℕ) → far ≡ out_from code (Some decl) (level / 16 * 16) →
    found ≡ out_from code far (level % 16) → found ≡ declaration_out code decl level
far_and_near code decl level far found far_is is =
    let all : level % 16 + level / 16 * 16 ≡ level = omega arith in
    is ∙ (ap (λ from. out_from code from (level % 16)) far_is
    ∙ (more_out code (Some decl) (level / 16 * 16) (level % 16)
    ∙ (ap (out_from code (Some decl)) all ∙ one_by_one code decl level)))

-- ---- what is kept of the first so many

before : (items : List (Option ℕ)) (last : Option ℕ) (k : ℕ) → k < length items → slice_get (items ++ last ∷ []) k ≡ slice_get items k
before [] last k lt = absurd (omega (arith, lt))
before (item ∷ items) last zero lt = refl
before (item ∷ items) last (suc k) lt = before items last k (omega (arith, lt))

behind : (items : List (Option ℕ)) (last : Option ℕ) → slice_get (items ++ last ∷ []) (length items) ≡ Some last
behind [] last = refl
behind (item ∷ items) last = behind items last

pub one_kept : (all : ℕ → Option ℕ) (items new : List (Option ℕ)) (number : ℕ) (last : Option ℕ) → length items ≡ number →
    ((k : ℕ) → k < number → slice_get items k ≡ Some (all k)) → last ≡ all number → new ≡ items ++ last ∷ [] →
    (length new ≡ number + 1) × ((k : ℕ) → k < number + 1 → slice_get new k ≡ Some (all k))
one_kept all items new number last long are is is_new =
    let grown : length new ≡ length items + 1 = ap length is_new ∙ length-append items (last ∷ []) in (omega (arith, grown, long), each)
  where
    each : (k : ℕ) → k < number + 1 → slice_get new k ≡ Some (all k)
    each k lt = by (cases_lt k number)
      where
        by : (k < number) ⊎ (number ≤ k) → slice_get new k ≡ Some (all k)
        by (inl less) = ap (λ xs. slice_get xs k) is_new ∙ (before items last k (omega (arith, less, long)) ∙ are k less)
        by (inr le) =
            let here : k ≡ length items = omega (arith, lt, le, long) in
            let there : number ≡ k = omega (arith, lt, le) in
            ap (λ xs. slice_get xs k) is_new ∙ (ap (slice_get (items ++ last ∷ [])) here ∙ (behind items last ∙ ap Some (is ∙ ap all there)))
