-- Each name that a body's code uses stands in the table of names.
use Rattle.std.proofs.Common.{◌≡◌, ℕ, zero, suc, List, [], ◌∷◌, sym, subst}
use Rattle.std.specs.Prelude.{Some, None, slice_get, flat_map}
use Rattle.std.proofs.lemmas.Option.{same_Some}
use Rattle.ns_resolved.specs.Program as m
use Rattle.ns_resolved.specs.Tables.{body_names, class_names}
use Rattle.ns_resolved.specs.Tables.{used_names, names_of}
use Rattle.ns_gen_code.specs.Code.{body_lines}
use Rattle.ns_gen_code.specs.Stated.{AreThere}
use Rattle.ns_gen_code.specs.lemmas.InOrder.{used}
use Rattle.ns_gen_code.specs.laws.Names.{body_used, all_there, left_there, right_there}

-- ---- they are there

one_there : (table : List (List ℕ)) (bodies : List m.Body) (n : ℕ) (body : m.Body) → AreThere table (flat_map body_names bodies) →
    slice_get bodies n
    ≡ Some body → AreThere table (body_names body)
one_there table [] n body h e = absurd (let f : None ≡ Some body = e in cc)
one_there table (first ∷ bodies) zero body h e =
    subst (λ b. AreThere table (body_names b)) (same_Some first body e) (left_there table (body_names first) (flat_map body_names bodies) h)
one_there table (first ∷ bodies) (suc n) body h e =
    one_there table bodies n body (right_there table (body_names first) (flat_map body_names bodies) h) e

-- those of the lines of a body of the program
pub names_there : (meant : m.Meant) (n k : ℕ) (body : m.Body) → slice_get meant.bodies n ≡ Some body →
    AreThere (names_of meant) (used (body_lines k body.does))
names_there meant n k body e =
    subst (AreThere (names_of meant)) (sym (body_used body k))
    (one_there (names_of meant) meant.bodies n body
    (right_there (names_of meant) (flat_map class_names meant.classes) (flat_map body_names meant.bodies) (all_there (used_names meant) [])) e)
