-- What is met outwards, step by step, and what stands in the tables of it.
use Rattle.std.proofs.Common.{◌≡◌, ℕ, zero, suc, ◌+◌, ◌-◌, ◌<◌, List, [], ◌∷◌, ◌++◌, Option, Some, None, refl, sym, subst, ap, ◌∙◌, map, option_map, option_and_then, slice_get, append_assoc, arith}
use Rattle.std.specs.Prelude.{not, Bool, false}
use Rattle.std.specs.List.{AllZip, list_any}
use Rattle.std.specs.Str.{bytes_eq}
use Rattle.std.specs.Option.{option_map_or}
use Rattle.std.proofs.lemmas.Option.{slice_get-map}
use Rattle.ns_code.specs.declared.program.CodeProgram.{CodeProgram}
use Rattle.ns_code.specs.declared.class.ClassCode.{ClassCode}
use Rattle.ns_code.specs.declared.body.BodyCode.{BodyCode}
use Rattle.ns_base.specs.declared.selector.Sel.{Sel}
use Rattle.ns_code.specs.Selector.{selector_text}
use Rattle.ns_verify_members.specs.Members.{private_selectors}
use Rattle.ns_verify_members.specs.Numbers.{IsPrivatesOf}
use Rattle.ns_verify_members.specs.declared.privates.Privates.{Privates}
use Rattle.ns_verify.specs.Around.{around_in, outwards}
use Rattle.ns_verify.specs.Causes.{lacks_private}
use Rattle.ns_verify.specs.Chains.{outer_of, around, body_around, declaration_at, body_at, arounds_from}

-- ---- a step outwards

-- one that is there comes first, and then what is met from the one around it
pub one_out : (table : List (Option ℕ)) (most passed number : ℕ) (items new whole : List ℕ) → passed < most →
    items ++ outwards table (most - passed) (Some number) ≡ whole → new ≡ items ++ number ∷ [] → new ++ outwards table (most - (passed + 1)) (around_in table number) ≡ whole
unfolding outwards
one_out table most passed number items new whole below all is_new =
    let left : most - passed ≡ suc (most - (passed + 1)) = omega arith in
    let cut : outwards table (most - passed) (Some number) ≡ number ∷ outwards table (most - (passed + 1)) (around_in table number) = ap (λ n. outwards table n (Some number)) left in
    ap (λ x. x ++ outwards table (most - (passed + 1)) (around_in table number)) is_new
    ∙ append_assoc items (number ∷ []) (outwards table (most - (passed + 1)) (around_in table number))
    ∙ ap (items ++◌) (sym cut) ∙ all

-- from nothing nothing is met
pub none_out : (table : List (Option ℕ)) (most : ℕ) → outwards table most None ≡ []
unfolding outwards
none_out table zero = refl
none_out table (suc most) = refl

-- ---- so many steps outwards

walk : List (Option ℕ) → ℕ → Option ℕ → Option ℕ
walk table zero next = next
walk table (suc steps) next = walk table steps (option_and_then (around_in table) next)

walk_none : (table : List (Option ℕ)) (steps : ℕ) → None ≡ walk table steps None
unfolding walk
walk_none table zero = refl
walk_none table (suc steps) = walk_none table steps

met : (table : List (Option ℕ)) (most steps : ℕ) (next : Option ℕ) → steps < most →
    slice_get (outwards table most next) steps ≡ walk table steps next
unfolding walk outwards
met table zero steps next below = absurd (omega (arith, below))
met table (suc most) zero None below = refl
met table (suc most) zero (Some number) below = refl
met table (suc most) (suc steps) None below = walk_none table steps
met table (suc most) (suc steps) (Some number) below = met table most steps (around_in table number) (omega (arith, below))

walk_last : (table : List (Option ℕ)) (steps : ℕ) (next : Option ℕ) →
    walk table (suc steps) next ≡ option_and_then (around_in table) (walk table steps next)
unfolding walk
walk_last table zero next = refl
walk_last table (suc steps) next = walk_last table steps (option_and_then (around_in table) next)

then_alike : (f g : ℕ → Option ℕ) → ((n : ℕ) → f n ≡ g n) → (o : Option ℕ) → option_and_then f o ≡ option_and_then g o
then_alike f g alike None = refl
then_alike f g alike (Some n) = alike n

walk_declarations : (code : CodeProgram) (table : List (Option ℕ)) → ((n : ℕ) → around_in table n ≡ outer_of code n) → (steps class : ℕ) →
    walk table steps (Some class) ≡ declaration_at code steps class
unfolding walk
walk_declarations code table is zero class = refl
walk_declarations code table is (suc steps) class =
    walk_last table steps (Some class)
    ∙ ap (option_and_then (around_in table)) (walk_declarations code table is steps class)
    ∙ then_alike (around_in table) (outer_of code) is (declaration_at code steps class)

walk_bodies : (code : CodeProgram) (table : List (Option ℕ)) → ((n : ℕ) → around_in table n ≡ body_around code n) → (steps number : ℕ) →
    walk table steps (Some number) ≡ body_at code steps number
unfolding walk
walk_bodies code table is zero number = refl
walk_bodies code table is (suc steps) number =
    walk_last table steps (Some number)
    ∙ ap (option_and_then (around_in table)) (walk_bodies code table is steps number)
    ∙ then_alike (around_in table) (body_around code) is (body_at code steps number)

-- what is met from a class stands at its level, and from a body at its hops
pub declarations_met : (code : CodeProgram) (table : List (Option ℕ)) (class : ℕ) (found : List ℕ) →
    ((n : ℕ) → around_in table n ≡ outer_of code n) →
    found ≡ outwards table 256 (Some class) → (level : ℕ) → level < 256 → slice_get found level ≡ declaration_at code level class
declarations_met code table class found is are level below =
    ap (λ x. slice_get x level) are ∙ met table 256 level (Some class) below ∙ walk_declarations code table is level class

pub bodies_met : (code : CodeProgram) (table : List (Option ℕ)) (number : ℕ) (found : List ℕ) →
    ((n : ℕ) → around_in table n ≡ body_around code n) →
    found ≡ outwards table 256 (Some number) → (hops : ℕ) → hops < 256 → slice_get found hops ≡ body_at code hops number
bodies_met code table number found is are hops below =
    ap (λ x. slice_get x hops) are ∙ met table 256 hops (Some number) below ∙ walk_bodies code table is hops number

-- ---- the tables

outer_mapped : (class : Option ClassCode) →
    option_and_then (λ (o : Option ℕ). o) (option_map (λ (class : ClassCode). class.outer) class) ≡ option_and_then (λ (class : ClassCode). class.outer) class
outer_mapped None = refl
outer_mapped (Some class) = refl

pub outers_are : (code : CodeProgram) (table : List (Option ℕ)) → table ≡ map (λ (class : ClassCode). class.outer) code.classes →
    (number : ℕ) → around_in table number ≡ outer_of code number
outers_are code table is number =
    ap (λ t. around_in t number) is
    ∙ ap (option_and_then (λ (o : Option ℕ). o)) (slice_get-map (λ (class : ClassCode). class.outer) code.classes number)
    ∙ outer_mapped (slice_get code.classes number)

around_from : (bodies : List BodyCode) (first number : ℕ) →
    around_in (arounds_from first bodies) number ≡ option_and_then (around (first + number)) (slice_get bodies number)
around_from [] first number = refl
around_from (body ∷ bodies) first zero = let e : first + 0 ≡ first = omega arith in rw e refl
around_from (body ∷ bodies) first (suc number) = let e : first + suc number ≡ first + 1 + number = omega arith in rw e (around_from bodies (first + 1) number)

pub arounds_are : (code : CodeProgram) (table : List (Option ℕ)) → table ≡ arounds_from 0 code.bodies → (number : ℕ) →
    around_in table number ≡ body_around code number
arounds_are code table is number =
    let same : 0 + number ≡ number = omega arith in
    ap (λ t. around_in t number) is ∙ around_from code.bodies 0 number ∙ ap (λ n. option_and_then (around n) (slice_get code.bodies number)) same

-- ---- places in two lists

-- what stands at a place of the second list belongs to what stands there in the first
pub zip_at : {A B : Type 0} (R : A → B → Type 0) (xs : List A) (ys : List B) (place : ℕ) (y : B) → AllZip R xs ys →
    slice_get ys place ≡ Some y →
    (x : A) × (slice_get xs place ≡ Some x) × R x y
zip_at R [] [] place y all is = absurd (cc)
zip_at R [] (z ∷ ys) place y all is = absurd all
zip_at R (z ∷ xs) [] place y all is = absurd all
zip_at R (z ∷ xs) (w ∷ ys) zero y all is = (z, refl, subst (R z) (cc) all.0)
zip_at R (z ∷ xs) (w ∷ ys) (suc place) y all is = zip_at R xs ys place y all.1 is

pub zip_past : {A B : Type 0} (R : A → B → Type 0) (xs : List A) (ys : List B) (place : ℕ) → AllZip R xs ys → slice_get ys place ≡ None →
    slice_get xs place ≡ None
zip_past R [] [] place all is = refl
zip_past R [] (z ∷ ys) place all is = absurd all
zip_past R (z ∷ xs) [] place all is = absurd all
zip_past R (z ∷ xs) (w ∷ ys) zero all is = absurd (cc)
zip_past R (z ∷ xs) (w ∷ ys) (suc place) all is = zip_past R xs ys place all.1 is

-- the end of the steps
pub none_left : (table : List (Option ℕ)) (most : ℕ) (next : Option ℕ) → outwards table (most - most) next ≡ []
unfolding outwards
none_left table most next = let none : most - most ≡ 0 = omega arith in rw none refl

-- ---- private members

-- a private member is lacked where its number isn't among those of the class
pub lacks_at : (code : CodeProgram) (privates : List Privates) (class side : ℕ) (name : Sel) (one : Privates) (has : Bool) →
    AllZip (IsPrivatesOf code) code.classes privates → slice_get privates class ≡ Some one →
    ((declared : ClassCode) → IsPrivatesOf code declared one → has ≡ list_any (bytes_eq (selector_text code name.0)) (private_selectors code side declared)) →
    not has ≡ lacks_private code side name class
lacks_at code privates class side name one has all is told =
    let at = zip_at (IsPrivatesOf code) code.classes privates class one all is in
    ap not (told at.0 at.2) ∙ ap (λ found. option_map_or (λ (declared : ClassCode). not (list_any (bytes_eq (selector_text code name.0)) (private_selectors code side declared))) found false) (sym at.1)

pub lacks_past : (code : CodeProgram) (privates : List Privates) (class side : ℕ) (name : Sel) →
    AllZip (IsPrivatesOf code) code.classes privates → slice_get privates class ≡ None → false ≡ lacks_private code side name class
lacks_past code privates class side name all is =
    ap (λ found. option_map_or (λ (declared : ClassCode). not (list_any (bytes_eq (selector_text code name.0)) (private_selectors code side declared))) found false)
    (sym (zip_past (IsPrivatesOf code) code.classes privates class all is))
