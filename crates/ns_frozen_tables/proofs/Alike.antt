-- The table of shapes, one body after another.
use Rattle.std.proofs.Common.{◌≡◌, ◌≢◌, ℕ, ◌+◌, ◌<◌, List, [], ◌∷◌, ◌++◌, length, get_or, slice_get, refl, ap, sym, ◌∙◌, subst, arith, Option, Some, None, Bool, true, false, ltb}
use Rattle.std.proofs.lemmas.Bool.{ltb-true, ltb-false}
use Rattle.std.proofs.lemmas.Option.{slice_get_within, slice_get_read}
use Rattle.ns_code.specs.declared.program.CodeProgram.{CodeProgram}
use Rattle.ns_code.specs.declared.body.BodyCode.{BodyCode}
use Rattle.ns_frozen_tables.specs.Shapes.{HaveShape, AreAlike, IsTwin, IsShape, AreShapes}
use Rattle.ns_frozen_tables.specs.laws.Lists.{got_left, got_end, one_longer}

-- what is alike stays so with one more
have_more : (shapes : List ℕ) (more one other : ℕ) → HaveShape shapes one other → HaveShape (shapes ++ more ∷ []) one other
have_more shapes more one other have = record {
  shape = have.shape;
  has_one = got_left shapes more one (slice_get_within shapes one have.shape have.has_one) ∙ have.has_one;
  has_other = got_left shapes more other (slice_get_within shapes other have.shape have.has_other) ∙ have.has_other;
}

alike_more : (shapes : List ℕ) (more : ℕ) (one other : Option ℕ) → AreAlike shapes one other → AreAlike (shapes ++ more ∷ []) one other
alike_more shapes more None None alike = tt
alike_more shapes more None (Some other) alike = absurd alike
alike_more shapes more (Some one) None alike = absurd alike
alike_more shapes more (Some one) (Some other) alike = have_more shapes more one other alike

twin_more : (code : CodeProgram) (shapes : List ℕ) (more : ℕ) (body : BodyCode) (number : ℕ) → IsTwin code shapes body number
    → IsTwin code (shapes ++ more ∷ []) body number
twin_more code shapes more body number twin = record {
  other = twin.other;
  there = twin.there;
  locals = twin.locals;
  around = alike_more shapes more body.parent twin.other.parent twin.around;
}

-- one more shape
pub shapes_more : (code : CodeProgram) (shapes after : List ℕ) (body : BodyCode) (more : ℕ) → AreShapes code shapes
    → slice_get code.bodies (length shapes) ≡ Some body → IsShape code shapes (length shapes) body more
    → after ≡ shapes ++ more ∷ [] → AreShapes code after
shapes_more code shapes after body more are there is e = subst (AreShapes code) (sym e) (record {
  few = omega (arith, slice_get_within code.bodies (length shapes) body there, one_longer shapes more);
  each = each;
})
  where
    each : (number shape : ℕ) (one : BodyCode) → slice_get code.bodies number ≡ Some one → slice_get (shapes ++ more ∷ []) number ≡ Some shape
        → number ≢ shape → IsTwin code (shapes ++ more ∷ []) one shape
    each number shape one found kept other = twin_more code shapes more one shape (tested (ltb number (length shapes)) refl)
      where
        tested : (b : Bool) → ltb number (length shapes) ≡ b → IsTwin code shapes one shape
        tested true t = are.each number shape one found (sym (got_left shapes more number (ltb-true number (length shapes) t)) ∙ kept) other
        tested false t =
            let last : length shapes ≡ number = omega (arith, ltb-false number (length shapes) t, slice_get_within (shapes ++ more ∷ []) number shape kept, one_longer shapes more) in
            let same : Some more ≡ Some shape = sym (got_end shapes more) ∙ (ap (λ (n : ℕ). slice_get (shapes ++ more ∷ []) n) last ∙ kept) in
            let it : more ≡ shape = cc in
            let bodies : Some body ≡ Some one = sym there ∙ (ap (slice_get code.bodies) last ∙ found) in
            let its : body ≡ one = cc in
            subst (λ (b : BodyCode). IsTwin code shapes b shape) its
            (subst (λ (n : ℕ). IsTwin code shapes body n) it (is (λ q. other (sym last ∙ (q ∙ it)))))

-- the same in a walk over the bodies
pub shapes_next : (code : CodeProgram) (shapes seen after : List ℕ) (bodies : List BodyCode) (number k : ℕ) (body : BodyCode) (more : ℕ) → AreShapes code shapes
    → length shapes ≡ k → number ≡ k → seen ≡ shapes → bodies ≡ code.bodies → k < length bodies → body ≡ get_or bodies k body
    → IsShape code seen number body more → after ≡ shapes ++ more ∷ [] → AreShapes code after
shapes_next code shapes seen after bodies number k body more are long same these all within here is e =
    shapes_more code shapes after body more are
    (ap (slice_get code.bodies) long ∙ (ap (λ (bs : List BodyCode). slice_get bs k) (sym all) ∙ slice_get_read bodies (length bodies) k body refl within here))
    (subst (λ (n : ℕ). IsShape code shapes n body more) (same ∙ sym long) (subst (λ (ss : List ℕ). IsShape code ss number body more) these is)) e

pub no_shapes : (code : CodeProgram) (shapes : List ℕ) → shapes ≡ [] → AreShapes code shapes
no_shapes code shapes none = record {
  few = omega (arith, ap length none);
  each = λ number shape body there kept. absurd (nowhere number shape kept);
}
  where
    nowhere : (number shape : ℕ) → slice_get shapes number ≡ Some shape → ⊥
    nowhere number shape kept =
        let none_there : None ≡ Some shape = sym (ap (λ (ss : List ℕ). slice_get ss number) none) ∙ kept in
        cc
