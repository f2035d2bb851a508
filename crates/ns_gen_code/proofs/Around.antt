-- The declarations and bodies around code are those around what is meant.
use Rattle.std.proofs.Common.{◌≡◌, ◌<◌, ℕ, zero, suc, List, refl, sym, ap, ◌∙◌, arith}
use Rattle.std.specs.Prelude.{true, Option, Some, None, slice_get, option_map, nat_lt, if◌then◌else◌}
use Rattle.std.specs.Option.{option_and_then}
use Rattle.std.proofs.lemmas.Option.{slice_get-map}
use Rattle.ns_code.specs.declared.class.ClassCode.{ClassCode}
use Rattle.ns_code.specs.declared.body.BodyCode.{BodyCode}
use Rattle.ns_verify.specs.Chains as v
use Rattle.ns_resolved.specs.Program as m
use Rattle.ns_resolved.specs.Tables.{class_code, names_of, kind_of}
use Rattle.ns_resolved.specs.There as t
use Rattle.ns_gen_code.specs.Code.{body_code, code_of}
use Rattle.ns_gen_code.specs.Stated.{first_text}
use Rattle.ns_gen_code.proofs.BodyAt.{body_of_code}

-- the code of a class or body that is there
pub class_there : (meant : m.Meant) (number : ℕ) (class : m.Declaration) → slice_get meant.classes number ≡ Some class →
    slice_get (code_of meant).classes number ≡ Some (class_code (names_of meant) class)
class_there meant number class e =
    slice_get-map (class_code (names_of meant)) meant.classes number ∙ ap (option_map (class_code (names_of meant))) e

-- the code of a body
abbrev pub coded : m.Meant → ℕ → m.Body → BodyCode
coded meant number body = body_code (names_of meant) (first_text meant.bodies number) body

pub body_there : (meant : m.Meant) (number : ℕ) (body : m.Body) → slice_get meant.bodies number ≡ Some body →
    slice_get (code_of meant).bodies number ≡ Some (coded meant number body)
body_there meant number body e =
    body_of_code meant number ∙ ap (option_map (body_code (names_of meant) (first_text meant.bodies number))) e

-- ---- declarations

outer_same : (names : List (List ℕ)) (class : Option m.Declaration) →
    option_and_then (λ (c : ClassCode). c.outer) (option_map (class_code names) class) ≡ option_and_then (λ (c : m.Declaration). c.outer) class
outer_same names None = refl
outer_same names (Some class) = refl

then_same : {A B : Type 0} (f g : A → Option B) (o : Option A) → ((x : A) → f x ≡ g x) → option_and_then f o ≡ option_and_then g o
then_same f g None e = refl
then_same f g (Some x) e = e x

outer_around : (meant : m.Meant) (number : ℕ) → v.outer_of (code_of meant) number ≡ t.outer_of meant number
outer_around meant number =
    ap (option_and_then (λ (c : ClassCode). c.outer)) (slice_get-map (class_code (names_of meant)) meant.classes number)
    ∙ outer_same (names_of meant) (slice_get meant.classes number)

pub declaration_around : (meant : m.Meant) (level number : ℕ) →
    v.declaration_at (code_of meant) level number ≡ t.declaration_out meant level number
declaration_around meant zero number = refl
declaration_around meant (suc level) number =
    ap (option_and_then (v.outer_of (code_of meant))) (declaration_around meant level number)
    ∙ then_same (v.outer_of (code_of meant)) (t.outer_of meant) (t.declaration_out meant level number) (outer_around meant)

-- ---- bodies

less : (a b : ℕ) → a < b → nat_lt a b ≡ true
less a b h = grind (arith, h)

earlier : (parent : Option ℕ) (number p : ℕ) → parent ≡ Some p → p < number →
    option_and_then (λ q. if nat_lt q number then Some q else None) parent ≡ parent
earlier parent number p e h =
    ap (option_and_then (λ q. if nat_lt q number then Some q else None)) e ∙ ap (λ b. if b then Some p else None) (less p number h) ∙ sym e

-- the body around one that stands right is its parent
pub parent_around : (meant : m.Meant) (number : ℕ) (body : m.Body) → t.StandsAs meant number body body.does →
    v.around number (coded meant number body) ≡ body.parent
parent_around meant number body stands = by_kind body.does stands where
  by_kind : (does : m.Does) → t.StandsAs meant number body does →
      v.around number (record (coded meant number body) { kind = kind_of does }) ≡ body.parent
  by_kind (m.as_method values steps) h = sym h
  by_kind (m.as_block values steps) h = earlier body.parent number h.0 h.2 h.3
  by_kind (m.as_initialiser start) h = sym h
  by_kind (m.as_clause head) h = sym h

around_same : (meant : m.Meant) (number : ℕ) (body : Option m.Body) →
    ((b : m.Body) → body ≡ Some b → t.StandsAs meant number b b.does) →
    option_and_then (v.around number) (option_map (body_code (names_of meant) (first_text meant.bodies number)) body)
    ≡ option_and_then (λ (b : m.Body). b.parent) body
around_same meant number None right = refl
around_same meant number (Some body) right = parent_around meant number body (right body refl)

body_around : (meant : m.Meant) → t.AreRightBodies meant → (number : ℕ) → v.body_around (code_of meant) number ≡ t.parent_of meant number
body_around meant right number =
    ap (option_and_then (v.around number)) (body_of_code meant number)
    ∙ around_same meant number (slice_get meant.bodies number) (λ body e. (right number body e).placed.stands)

pub bodies_around : (meant : m.Meant) → t.AreRightBodies meant → (hops number : ℕ) →
    v.body_at (code_of meant) hops number ≡ t.body_out meant hops number
bodies_around meant right zero number = refl
bodies_around meant right (suc hops) number =
    ap (option_and_then (v.body_around (code_of meant))) (bodies_around meant right hops number)
    ∙ then_same (v.body_around (code_of meant)) (t.parent_of meant) (t.body_out meant hops number) (body_around meant right)
