-- The clause of a class of sound code is a body of the instance side.
use Rattle.std.proofs.Common.{◌≡◌, ℕ, zero, suc, ◌+◌, List, [], ◌∷◌, length, slice_get, refl, ap, sym, ◌∙◌, subst, arith, Option, Some, None, true, false, not, ◌&&◌}
use Rattle.std.proofs.lemmas.Bool.{and_parts, eqb-true, not-true, not-false}
use Rattle.std.proofs.lemmas.Option.{same_Some}
use Rattle.std.specs.Prelude.{◌==◌, nat_lt, unwrap_or}
use Rattle.std.specs.Option.{option_map_or}
use Rattle.ns_code.specs.declared.program.CodeProgram.{CodeProgram}
use Rattle.ns_code.specs.declared.class.ClassCode.{ClassCode}
use Rattle.ns_code.specs.declared.body.BodyCode.{BodyCode}
use Rattle.ns_code.specs.Soundness.{initialiser_kind, clause_kind, instance_side, is_body_of, has_bodies, has_place, has_bad_scope, has_bad_literal, are_classes_sound, has_sound_classes}
use Rattle.ns_moves.specs.Bodies.{clause_of}

-- a class that has no bad scope has its bodies
scope_bodies : (code : CodeProgram) (number : ℕ) (class : ClassCode) → not (has_bad_scope code number class) ≡ true → has_bodies code number class ≡ true
scope_bodies code number class e =
    let all = not-false _ (not-true (has_bad_scope code number class) e) in
    (and_parts (has_place number class) (has_bodies code number class) ((and_parts (has_place number class && has_bodies code number class) _ all).0)).1

-- so has each class of sound ones
bodies_at : (code : CodeProgram) (number k : ℕ) (classes : List ClassCode) (class : ClassCode) → are_classes_sound code number classes ≡ true → slice_get classes k ≡ Some class → has_bodies code (number + k) class ≡ true
bodies_at code number k [] class s e = absurd (cc)
bodies_at code number zero (first ∷ classes) class s e =
    let parts = and_parts (not (has_bad_scope code number first) && not (has_bad_literal code first)) (are_classes_sound code (number + 1) classes) s in
    let here = scope_bodies code number first ((and_parts (not (has_bad_scope code number first)) (not (has_bad_literal code first)) parts.0).0) in
    subst (λ (c : ClassCode). has_bodies code (number + 0) c ≡ true) (same_Some first class e) (ap (λ n. has_bodies code n first) (omega arith) ∙ here)
bodies_at code number (suc k) (first ∷ classes) class s e =
    let parts = and_parts (not (has_bad_scope code number first) && not (has_bad_literal code first)) (are_classes_sound code (number + 1) classes) s in
    ap (λ n. has_bodies code n class) (omega arith) ∙ bodies_at code (number + 1) k classes class parts.1 e

-- The clause of a class of sound code is a body of the instance side.
pub clause_side : (code : CodeProgram) (class number : ℕ) (body : BodyCode) → has_sound_classes code ≡ true → clause_of code class ≡ Some number → slice_get code.bodies number ≡ Some body → body.side ≡ instance_side
clause_side code class number body s c b = found (slice_get code.classes class) refl c
  where
    found : (o : Option ClassCode) → slice_get code.classes class ≡ o → option_map_or (λ (d : ClassCode). d.clause) o None ≡ Some number → body.side ≡ instance_side
    found None is c = absurd (cc)
    found (Some d) is c =
        let bodies = bodies_at code 0 class code.classes d ((and_parts (nat_lt 0 (length code.classes)) (are_classes_sound code 0 code.classes) s).1) is in
        let first = (and_parts (is_body_of code d.init initialiser_kind instance_side (0 + class) (λ params. params == d.params) && option_map_or (λ clause. is_body_of code clause clause_kind instance_side (unwrap_or d.outer (0 + class)) (λ params. params == 0)) d.clause true) _ bodies).0 in
        let clause = (and_parts (is_body_of code d.init initialiser_kind instance_side (0 + class) (λ params. params == d.params)) _ first).1 in
        let there : is_body_of code number clause_kind instance_side (unwrap_or d.outer (0 + class)) (λ params. params == 0) ≡ true =
        sym (ap (λ o. option_map_or (λ clause. is_body_of code clause clause_kind instance_side (unwrap_or d.outer (0 + class)) (λ params. params == 0)) o true) c) ∙ clause in
        let here : ((body.kind == clause_kind && body.side == instance_side) && (body.class == unwrap_or d.outer (0 + class) && body.params == 0)) ≡ true =
        sym (ap (λ o. option_map_or (λ (x : BodyCode). (x.kind == clause_kind && x.side == instance_side) && (x.class == unwrap_or d.outer (0 + class) && x.params == 0)) o false) b) ∙ there in
        eqb-true body.side instance_side ((and_parts (body.kind == clause_kind) (body.side == instance_side) ((and_parts (body.kind == clause_kind && body.side == instance_side) _ here).0)).1)
