-- A class is inside a module exactly where a declaration around it is the module's.
use Rattle.std.proofs.Common.{◌≡◌, ℕ, zero, suc, ◌+◌, ◌<◌, ◌≤◌, List, [], ◌∷◌, ◌++◌, length, slice_get, Option, Some, None, Bool, true, false, cond}
use Rattle.std.proofs.Common.{refl, sym, ap, ◌∙◌, subst, arith, ◌==◌, ◌&&◌, ◌||◌}
use Rattle.std.specs.Prelude.{is_none, nat_lt, not, option_and_then}
use Rattle.std.specs.Option.{option_map_or}
use Rattle.std.specs.List.{slice_index_or}
use Rattle.std.proofs.lemmas.Bool.Decides.{nat_tests}
use Rattle.std.proofs.lemmas.List.{get_or_append_left, length-append}
use Rattle.std.proofs.lemmas.Option.{same_Some, slice_get_within}
use Rattle.ns_code.specs.declared.program.CodeProgram.{CodeProgram}
use Rattle.ns_code.specs.declared.class.ClassCode.{ClassCode}
use Rattle.ns_code.specs.Soundness.{has_bad_scope, has_place, has_bodies, has_nested, has_params, are_different, instance_selectors, side_selectors}
use Rattle.ns_verify.specs.declared.fault.VerifyCause.{VerifyCause}
use Rattle.ns_verify.specs.Chains.{outer_of, declaration_at}
use Rattle.ns_verify.specs.Places.{HasNoCause}
use Rattle.ns_world.specs.laws.Chains.{both_of}
use Rattle.ns_audit.specs.Module.{top_of, tops_from, tops, is_inside}
use Rattle.ns_audit.specs.Stated.{ModulesAreDeclared}

-- ---- outer declarations are earlier

not_false : (b : Bool) → not b ≡ false → b ≡ true
not_false true e = refl
not_false false e = absurd (cc)

no_cause : (b : Bool) (cause : VerifyCause) (other : Option VerifyCause) → cond b (Some cause) other ≡ None → b ≡ false
no_cause true cause other e = absurd (cc)
no_cause false cause other e = refl

place_earlier : (number : ℕ) (clause : Bool) (o : Option ℕ) (outer : ℕ) → o ≡ Some outer →
    (cond (is_none o) clause (option_map_or (λ outer. nat_lt outer number) o false) && (not (number == 0) || is_none o)) ≡ true → outer < number
place_earlier number clause None outer e h = absurd (cc)
place_earlier number clause (Some k) outer e h =
    let same : k ≡ outer = same_Some _ _ e in
    let low : nat_lt k number ≡ true = (both_of (nat_lt k number) (not (number == 0) || false) h).0 in
    subst (λ n. n < number) same (grind (arith, nat_tests, low))

outer_earlier : (code : CodeProgram) (number : ℕ) (class : ClassCode) (outer : ℕ) → HasNoCause code →
    slice_get code.classes number ≡ Some class → class.outer ≡ Some outer → outer < number
outer_earlier code number class outer sound there e =
    let scope : has_bad_scope code number class ≡ false = no_cause (has_bad_scope code number class) _ _ (sound.classes number class there) in
    let whole = not_false ((has_place number class && has_bodies code number class) && ((has_nested code number class && has_params code class) && (are_different (instance_selectors code class) && are_different (side_selectors code class)))) scope in
    let parts = both_of (has_place number class && has_bodies code number class) ((has_nested code number class && has_params code class) && (are_different (instance_selectors code class) && are_different (side_selectors code class))) whole in
    let place = both_of (has_place number class) (has_bodies code number class) parts.0 in
    place_earlier number (is_none class.clause) class.outer outer e place.0

-- ---- the top-level classes

-- those that are there stay
tops_stay : (before : List ℕ) (classes : List ClassCode) (j d : ℕ) → j < length before →
    slice_index_or (tops_from before classes) j d ≡ slice_index_or before j d
tops_stay before [] j d h = refl
tops_stay before (class ∷ classes) j d h =
    tops_stay (before ++ top_of before class ∷ []) classes j d (omega (arith, length-append before (top_of before class ∷ [])))
    ∙ get_or_append_left before (top_of before class ∷ []) d j h

tops_length : (before : List ℕ) (classes : List ClassCode) → length (tops_from before classes) ≡ length before + length classes
tops_length before [] = omega arith
tops_length before (class ∷ classes) =
    omega (arith, tops_length (before ++ top_of before class ∷ []) classes, length-append before (top_of before class ∷ []))

-- The top-level class around another one, in all of them as in those before.
top_from : (all before : List ℕ) (o : Option ℕ) (d : ℕ) → ((outer : ℕ) → o ≡ Some outer → outer < length before) →
    ((j : ℕ) → j < length before → slice_index_or all j d ≡ slice_index_or before j d) →
    option_map_or (λ outer. slice_index_or before outer d) o d ≡ option_map_or (λ outer. slice_index_or all outer d) o d
top_from all before None d low same = refl
top_from all before (Some outer) d low same = sym (same outer (low outer refl))

last_of : (xs : List ℕ) (x d : ℕ) → slice_index_or (xs ++ x ∷ []) (length xs) d ≡ x
last_of [] x d = refl
last_of (y ∷ xs) x d = last_of xs x d

top_at : (before : List ℕ) (classes : List ClassCode) (i : ℕ) (class : ClassCode) (d : ℕ) → slice_get classes i ≡ Some class →
    ((outer : ℕ) → class.outer ≡ Some outer → outer < length before + i) →
    slice_index_or (tops_from before classes) (length before + i) d
    ≡ option_map_or (λ outer. slice_index_or (tops_from before classes) outer (length before + i)) class.outer (length before + i)
top_at before [] i class d h low = absurd cc
top_at before (first ∷ classes) zero class d h low =
    let same : first ≡ class = cc in
    let here : length before + 0 ≡ length before = omega arith in
    let inside : length before < length (before ++ top_of before class ∷ []) = omega (arith, length-append before (top_of before class ∷ [])) in
    rw (here, same)
    (tops_stay (before ++ top_of before class ∷ []) classes (length before) d inside
    ∙ last_of before (top_of before class) d
    ∙ top_from (tops_from before (class ∷ classes)) before class.outer (length before) (λ outer e. subst (λ n. outer < n) here (low outer e))
    (λ j less. tops_stay before (class ∷ classes) j (length before) less))
top_at before (first ∷ classes) (suc i) class d h low =
    let on : length before + suc i ≡ length (before ++ top_of before first ∷ []) + i = omega (arith, length-append before (top_of before first ∷ [])) in
    rw on (top_at (before ++ top_of before first ∷ []) classes i class d h (λ outer e. subst (λ n. outer < n) on (low outer e)))

same_default : (xs : List ℕ) (i a b : ℕ) → i < length xs → slice_index_or xs i a ≡ slice_index_or xs i b
same_default [] i a b h = absurd (omega arith)
same_default (x ∷ xs) zero a b h = refl
same_default (x ∷ xs) (suc i) a b h = same_default xs i a b (omega arith)

past : (xs : List ℕ) (i d : ℕ) → length xs ≤ i → slice_index_or xs i d ≡ d
past [] i d h = refl
past (x ∷ xs) zero d h = absurd (omega arith)
past (x ∷ xs) (suc i) d h = past xs i d (omega arith)

module _ (code : CodeProgram) (sound : HasNoCause code) where
  abbrev top : ℕ → ℕ
  top number = slice_index_or (tops code) number number

  told : (number : ℕ) (class : ClassCode) → slice_get code.classes number ≡ Some class →
      top number ≡ option_map_or (λ outer. slice_index_or (tops code) outer number) class.outer number
  told number class there =
      let at : 0 + number ≡ number = omega arith in
      subst (λ n. slice_index_or (tops code) n number ≡ option_map_or (λ outer. slice_index_or (tops code) outer n) class.outer n) at
      (top_at [] code.classes number class number there (λ outer e. omega (arith, outer_earlier code number class outer sound there e)))

  -- a class without one around it is its own top-level class
  own_top : (number : ℕ) → outer_of code number ≡ None → top number ≡ number
  own_top number alone = by (slice_get code.classes number) refl alone
    where
      by : (o : Option ClassCode) → slice_get code.classes number ≡ o → option_and_then (λ (class : ClassCode). class.outer) o ≡ None →
          top number ≡ number
      by None e none = past (tops code) number number (omega (arith, tops_length [] code.classes, missing code.classes number e))
        where
          missing : (classes : List ClassCode) (k : ℕ) → slice_get classes k ≡ None → length classes ≤ k
          missing [] k e = omega arith
          missing (class ∷ classes) zero e = absurd (cc)
          missing (class ∷ classes) (suc k) e = omega (arith, missing classes k e)
      by (Some class) e none =
          told number class e ∙ ap (λ o. option_map_or (λ outer. slice_index_or (tops code) outer number) o number) none

  -- another one has that of the one around it, which is earlier
  outer_top : (number outer : ℕ) → outer_of code number ≡ Some outer → (outer < number) × (top number ≡ top outer)
  outer_top number outer around = by (slice_get code.classes number) refl around
    where
      by : (o : Option ClassCode) → slice_get code.classes number ≡ o →
          option_and_then (λ (class : ClassCode). class.outer) o ≡ Some outer → (outer < number) × (top number ≡ top outer)
      by None e some = absurd (cc)
      by (Some class) e some =
          let early : outer < number = outer_earlier code number class outer sound e some in
          let there : number < length code.classes = slice_get_within code.classes number class e in
          let low : outer < length (tops code) = omega (arith, early, there, tops_length [] code.classes) in (
            early,
            told number class e ∙ ap (λ o. option_map_or (λ outer. slice_index_or (tops code) outer number) o number) some ∙ same_default (tops code) outer number outer low,
          )

  -- ---- declarations around

  some_of : (o : Option ℕ) → option_and_then (λ n. Some n) o ≡ o
  some_of None = refl
  some_of (Some n) = refl

  shift : (level number : ℕ) → declaration_at code (suc level) number ≡ option_and_then (declaration_at code level) (outer_of code number)
  shift zero number = sym (some_of (outer_of code number))
  shift (suc level) number = ap (option_and_then (outer_of code)) (shift level number) ∙ by (outer_of code number)
    where
      by : (o : Option ℕ) →
          option_and_then (outer_of code) (option_and_then (declaration_at code level) o) ≡ option_and_then (declaration_at code (suc level)) o
      by None = refl
      by (Some outer) = refl

  -- some declaration around a class is the one with its top-level class's number
  outwards : (most number : ℕ) → number < most → (level : ℕ) × (declaration_at code level number ≡ Some (top number))
  outwards zero number low = absurd (omega (arith, low))
  outwards (suc most) number low = by (λ outer less. outwards most outer (omega (arith, less, low))) (outer_of code number) refl
    where
      by : ((outer : ℕ) → outer < number → (level : ℕ) × (declaration_at code level outer ≡ Some (top outer))) →
          (o : Option ℕ) → outer_of code number ≡ o → (level : ℕ) × (declaration_at code level number ≡ Some (top number))
      by further None e = (0, ap (λ n. Some n) (sym (own_top number e)))
      by further (Some outer) e =
          let both = outer_top number outer e in
          let more = further outer both.0 in
          (suc more.0, shift more.0 number ∙ ap (option_and_then (declaration_at code more.0)) e ∙ more.1 ∙ ap (λ n. Some n) (sym both.1))

  -- a declaration around a class that stands in none is its top-level class
  inwards : (level number outermost : ℕ) → outer_of code outermost ≡ None → declaration_at code level number ≡ Some outermost →
      top number ≡ outermost
  inwards zero number outermost alone e =
      let same : number ≡ outermost = same_Some _ _ e in
      subst (λ n. top n ≡ outermost) (sym same) (own_top outermost alone)
  inwards (suc level) number outermost alone e =
      by (λ outer f. inwards level outer outermost alone f) (outer_of code number) refl (sym (shift level number) ∙ e)
    where
      by : ((outer : ℕ) → declaration_at code level outer ≡ Some outermost → top outer ≡ outermost) →
          (o : Option ℕ) → outer_of code number ≡ o → option_and_then (declaration_at code level) o ≡ Some outermost → top number ≡ outermost
      by further None none f = absurd (cc)
      by further (Some outer) around f = (outer_top number outer around).1 ∙ further outer f

eqb_of : (a b : ℕ) → a ≡ b → (a == b) ≡ true
eqb_of a b e = grind (arith, nat_tests, e)

of_eqb : (a b : ℕ) → (a == b) ≡ true → a ≡ b
of_eqb a b e = grind (arith, nat_tests, e)

pub modules_declared : (code : CodeProgram) → HasNoCause code → ModulesAreDeclared code
modules_declared code sound module_top number alone = (inside, outside)
  where
    inside : is_inside (tops code) module_top number ≡ true → (level : ℕ) × (declaration_at code level number ≡ Some module_top)
    inside e =
        let found = outwards code sound (suc number) number (omega arith) in
        (found.0, found.1 ∙ ap (λ n. Some n) (of_eqb (top code sound number) module_top e))

    outside : (level : ℕ) → declaration_at code level number ≡ Some module_top → is_inside (tops code) module_top number ≡ true
    outside level e = eqb_of (top code sound number) module_top (inwards code sound level number module_top alone e)
