-- What stands around a body: the declaration that a level names is there, and the body around it is its parent.
use Rattle.std.proofs.Common.{◌≡◌, ℕ, zero, suc, refl, ap, ◌∙◌, Option, Some, None, Bool, true, false, cond, slice_get}
use Rattle.std.specs.Prelude.{IsSome, option_map, nat_lt, ◌==◌}
use Rattle.std.specs.Option.{option_map_or, option_and_then}
use Rattle.ns_code.specs.declared.program.CodeProgram.{CodeProgram}
use Rattle.ns_code.specs.declared.class.ClassCode.{ClassCode}
use Rattle.ns_code.specs.declared.body.BodyCode.{BodyCode}
use Rattle.ns_code.specs.Soundness.{block_kind}
use Rattle.ns_world.specs.Lawful.{parent_of}
use Rattle.ns_verify.specs.Chains.{around, body_around, outer_of as outer_class, declaration_at as class_at}
use Rattle.ns_moves.specs.Lawful.{outer_of, declaration_at}

same_outer : (code : CodeProgram) (o : Option ℕ) → outer_of code o ≡ option_and_then (outer_class code) o
same_outer code None = refl
same_outer code (Some decl) = there (slice_get code.classes decl)
  where
    there : (o : Option ClassCode) → option_map_or (λ (class : ClassCode). class.outer) o None ≡ option_and_then (λ (class : ClassCode). class.outer) o
    there (Some class) = refl
    there None = refl

same_class : (code : CodeProgram) (number level : ℕ) (body : BodyCode) → slice_get code.bodies number ≡ Some body
    → declaration_at code number level ≡ class_at code level body.class
same_class code number zero body e = ap (λ o. option_map (λ (b : BodyCode). b.class) o) e
same_class code number (suc level) body e =
    ap (outer_of code) (same_class code number level body e) ∙ same_outer code (class_at code level body.class)

-- The level that an instruction of sound code names is there.
pub level_there : (code : CodeProgram) (number level class : ℕ) (body : BodyCode) → slice_get code.bodies number ≡ Some body
    → class_at code level body.class ≡ Some class → IsSome (declaration_at code number level)
level_there code number level class body e is = rw (same_class code number level body e ∙ is) refl

-- the body around another is its parent
around_parent : (number out : ℕ) (body : BodyCode) → around number body ≡ Some out → body.parent ≡ Some out
around_parent number out body e = tested (body.kind == block_kind) body.parent e
  where
    below : (b : Bool) (parent : ℕ) → cond b (Some parent) None ≡ Some out → (let p : Option ℕ = Some parent in p) ≡ Some out
    below true parent e = e
    below false parent e = absurd (cc)

    tested : (b : Bool) (o : Option ℕ) → cond b (option_and_then (λ parent. cond (nat_lt parent number) (Some parent) None) o) None ≡ Some out → o ≡ Some out
    tested true (Some parent) e = below (nat_lt parent number) parent e
    tested true None e = absurd (cc)
    tested false o e = absurd (cc)

-- The body around a body of the code is its parent.
pub around_is : (code : CodeProgram) (number out : ℕ) → body_around code number ≡ Some out → parent_of code number ≡ Some out
around_is code number out e = there (slice_get code.bodies number) e
  where
    there : (o : Option BodyCode) → option_and_then (around number) o ≡ Some out → option_map_or (λ (b : BodyCode). b.parent) o None ≡ Some out
    there (Some body) e = around_parent number out body e
    there None e = absurd (cc)
