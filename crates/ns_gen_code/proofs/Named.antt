-- The names of a program's classes and bodies have numbers, and their numbers have their texts.
use Rattle.std.proofs.Common.{◌≡◌, ◌<◌, ℕ, zero, suc, List, [], ◌∷◌, length, ap, ◌∙◌, subst, arith}
use Rattle.std.specs.Prelude.{◌-◌, true, Some, None, slice_get, flat_map, nat_lt, if◌then◌else◌}
use Rattle.std.specs.List.{slice_index_or}
use Rattle.std.proofs.lemmas.Option.{same_Some, get_or_from_slice_get}
use Rattle.ns_base.specs.Names.{has, place_of}
use Rattle.ns_code.specs.Selector.{text_arity, selector_text, selector_arity, own_text_at}
use Rattle.ns_code.specs.Soundness.{is_name, name_text}
use Rattle.ns_resolved.specs.Program as m
use Rattle.ns_resolved.specs.Tables.{class_names, body_names, used_names, names_of, sel_of}
use Rattle.ns_resolved.specs.laws.Places.{name_at_place, place_below}
use Rattle.ns_gen_code.specs.Code.{code_of}
use Rattle.ns_gen_code.specs.Stated.{AreThere}
use Rattle.ns_gen_code.specs.laws.Names.{all_there, left_there, right_there}

less : (a b : ℕ) → a < b → nat_lt a b ≡ true
less a b h = grind (arith, h)

-- ---- the names of a class's record

one_class : (table : List (List ℕ)) (classes : List m.Declaration) (n : ℕ) (class : m.Declaration) →
    AreThere table (flat_map class_names classes) →
    slice_get classes n ≡ Some class → AreThere table (class_names class)
one_class table [] n class h e = absurd (let f : None ≡ Some class = e in cc)
one_class table (first ∷ classes) zero class h e =
    subst (λ c. AreThere table (class_names c)) (same_Some first class e) (left_there table (class_names first) (flat_map class_names classes) h)
one_class table (first ∷ classes) (suc n) class h e =
    one_class table classes n class (right_there table (class_names first) (flat_map class_names classes) h) e

-- the names of a class's record
pub class_named : (meant : m.Meant) (n : ℕ) (class : m.Declaration) → slice_get meant.classes n ≡ Some class →
    AreThere (names_of meant) (class_names class)
class_named meant n class e =
    one_class (names_of meant) meant.classes n class
    (left_there (names_of meant) (flat_map class_names meant.classes) (flat_map body_names meant.bodies) (all_there (used_names meant) [])) e

-- ---- a name that is there

pub is_named : (meant : m.Meant) (name : List ℕ) → has (names_of meant) name ≡ true →
    is_name (code_of meant) (sel_of (names_of meant) name) ≡ true
is_named meant name h = less _ _ (place_below (names_of meant) name h)

pub text_named : (meant : m.Meant) (name : List ℕ) → has (names_of meant) name ≡ true →
    name_text (code_of meant) (sel_of (names_of meant) name).0 ≡ Some name
text_named meant name h = name_at_place (names_of meant) name h

pub selector_named : (meant : m.Meant) (name : List ℕ) → has (names_of meant) name ≡ true →
    selector_text (code_of meant) (sel_of (names_of meant) name).0 ≡ name
selector_named meant name h =
    let place = place_of (names_of meant) name in
    ap (λ b. if b then slice_index_or (names_of meant) place [] else own_text_at (place - length (names_of meant))) (is_named meant name h)
    ∙ get_or_from_slice_get (names_of meant) place name [] (name_at_place (names_of meant) name h)

pub arity_named : (meant : m.Meant) (name : List ℕ) → has (names_of meant) name ≡ true →
    selector_arity (code_of meant) (sel_of (names_of meant) name).0 ≡ text_arity name
arity_named meant name h = ap text_arity (selector_named meant name h)
