-- The kind of the outermost body around a body.
use Rattle.std.proofs.Common.{◌≡◌, ℕ, zero, suc, ◌+◌, ◌<◌, List, [], ◌∷◌, ◌++◌, length, slice_get, Option, Some, None, refl, sym, ◌∙◌, arith, subst, ◌==◌}
use Rattle.std.specs.Option.{option_map_or}
use Rattle.std.specs.List.{slice_index_or}
use Rattle.std.proofs.lemmas.List.{get_or_append_left, length-append}
use Rattle.std.proofs.lemmas.Option.{slice_get_within}
use Rattle.ns_code.specs.declared.program.CodeProgram.{CodeProgram}
use Rattle.ns_code.specs.declared.body.BodyCode.{BodyCode}
use Rattle.ns_code.specs.Soundness.{block_kind}
use Rattle.ns_verify.specs.Chains.{around, home_kind, home_kinds_from, home_kinds}
use Rattle.ns_verify.specs.Places.{home_of}
use Rattle.ns_verify.proofs.Used.{around_below}

-- the kinds that are there stay
kinds_stay : (before : List ℕ) (bodies : List BodyCode) (j d : ℕ) → j < length before →
    slice_index_or (home_kinds_from before bodies) j d ≡ slice_index_or before j d
kinds_stay before [] j d h = refl
kinds_stay before (body ∷ bodies) j d h =
    kinds_stay (before ++ home_kind before body ∷ []) bodies j d (omega (arith, length-append before (home_kind before body ∷ [])))
    ∙ get_or_append_left before (home_kind before body ∷ []) d j h

-- how many kinds there are in the end
kinds_length : (before : List ℕ) (bodies : List BodyCode) → length (home_kinds_from before bodies) ≡ length before + length bodies
kinds_length before [] = omega arith
kinds_length before (body ∷ bodies) =
    omega (arith, kinds_length (before ++ home_kind before body ∷ []) bodies, length-append before (home_kind before body ∷ []))

around_earlier : (number parent : ℕ) (body : BodyCode) → around number body ≡ Some parent → parent < number
around_earlier number parent body h = (around_below (body.kind == block_kind) body.parent number parent h).2

home_from : (all before : List ℕ) (body : BodyCode) (o : Option ℕ) → around (length before) body ≡ o →
    ((j : ℕ) → j < length before → slice_index_or all j body.kind ≡ slice_index_or before j body.kind) →
    option_map_or (λ parent. slice_index_or before parent body.kind) o body.kind ≡ option_map_or (λ parent. slice_index_or all parent body.kind) o body.kind
home_from all before body None e same = refl
home_from all before body (Some parent) e same = sym (same parent (around_earlier (length before) parent body e))

home_at : (before : List ℕ) (bodies : List BodyCode) (i : ℕ) (body : BodyCode) (d : ℕ) → slice_get bodies i ≡ Some body →
    slice_index_or (home_kinds_from before bodies) (length before + i) d
    ≡ option_map_or (λ parent. slice_index_or (home_kinds_from before bodies) parent body.kind) (around (length before + i) body) body.kind
home_at before [] i body d h = absurd cc
home_at before (first ∷ bodies) zero body d h =
    let same : first ≡ body = cc in
    let here : length before + 0 ≡ length before = omega arith in
    let inside : length before < length (before ++ home_kind before body ∷ []) = omega (arith, length-append before (home_kind before body ∷ [])) in
    rw (here, same)
    (kinds_stay (before ++ home_kind before body ∷ []) bodies (length before) d inside
    ∙ last_of before (home_kind before body) d
    ∙ home_from (home_kinds_from before (body ∷ bodies)) before body (around (length before) body) refl (λ j low. kinds_stay before (body ∷ bodies) j body.kind low))
  where
    last_of : (xs : List ℕ) (x d : ℕ) → slice_index_or (xs ++ x ∷ []) (length xs) d ≡ x
    last_of [] x d = refl
    last_of (y ∷ xs) x d = last_of xs x d
home_at before (first ∷ bodies) (suc i) body d h =
    let on : length before + suc i ≡ length (before ++ home_kind before first ∷ []) + i = omega (arith, length-append before (home_kind before first ∷ [])) in
    rw on (home_at (before ++ home_kind before first ∷ []) bodies i body d h)

home_told : (code : CodeProgram) (number : ℕ) (body : BodyCode) → slice_get code.bodies number ≡ Some body →
    home_of code number body ≡ option_map_or (λ parent. slice_index_or (home_kinds code) parent body.kind) (around number body) body.kind
home_told code number body there =
    let at : 0 + number ≡ number = omega arith in
    subst (λ n. slice_index_or (home_kinds code) n body.kind ≡ option_map_or (λ parent. slice_index_or (home_kinds code) parent body.kind) (around n body) body.kind) at
    (home_at [] code.bodies number body body.kind there)

pub outermost_home : (code : CodeProgram) (number : ℕ) (body : BodyCode) → slice_get code.bodies number ≡ Some body →
    around number body ≡ None → home_of code number body ≡ body.kind
outermost_home code number body there alone = home_told code number body there ∙ rw alone refl

same_default : (xs : List ℕ) (i a b : ℕ) → i < length xs → slice_index_or xs i a ≡ slice_index_or xs i b
same_default [] i a b h = absurd (omega arith)
same_default (x ∷ xs) zero a b h = refl
same_default (x ∷ xs) (suc i) a b h = same_default xs i a b (omega arith)

pub inner_home : (code : CodeProgram) (number parent : ℕ) (body holder : BodyCode) → slice_get code.bodies number ≡ Some body →
    around number body ≡ Some parent → slice_get code.bodies parent ≡ Some holder →
    home_of code number body ≡ home_of code parent holder
inner_home code number parent body holder there inside parent_there =
    let low : parent < length (home_kinds code) = omega (arith, kinds_length [] code.bodies, slice_get_within code.bodies parent holder parent_there) in
    home_told code number body there ∙ rw inside (same_default (home_kinds code) parent body.kind holder.kind low)
