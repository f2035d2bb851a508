-- What the records of sound classes say of nested classes.
use Rattle.std.proofs.Common.{◌≡◌, ℕ, zero, suc, ◌+◌, List, [], ◌∷◌, refl, ap, sym, ◌∙◌, subst, arith, Option, Some, None, Bool, true, false, eqb, ◌&&◌, not}
use Rattle.std.proofs.lemmas.Bool.{eqb-true, eq-eqb}
use Rattle.std.specs.Prelude.{slice_get, nat_lt, length}
use Rattle.std.specs.Option.{option_map_or}
use Rattle.std.specs.List.{list_all}
use Rattle.ns_code.specs.declared.program.CodeProgram.{CodeProgram}
use Rattle.ns_code.specs.declared.class.ClassCode.{ClassCode}
use Rattle.ns_code.specs.declared.class.NestedCode.{NestedCode}
use Rattle.ns_code.specs.Soundness.{has_bad_scope, has_bad_literal, has_nested, has_place, has_bodies, has_params, are_different, instance_selectors, side_selectors, are_classes_sound, has_sound_classes}
use Rattle.ns_world.specs.laws.Chains.{both_of}
use Rattle.ns_classes.specs.Nested.{place_of}

not_true : (b : Bool) → not b ≡ true → b ≡ false
not_true true e = absurd (cc)
not_true false e = refl

not_false : (b : Bool) → not b ≡ false → b ≡ true
not_false true e = refl
not_false false e = absurd (cc)

-- a class record has no fault where none from a number on has one
sound_from : (code : CodeProgram) (number k : ℕ) (classes : List ClassCode) (class : ClassCode) →
    are_classes_sound code number classes ≡ true → slice_get classes k ≡ Some class → has_bad_scope code (number + k) class ≡ false
sound_from code number zero [] class s e = absurd (cc)
sound_from code number (suc k) [] class s e = absurd (cc)
sound_from code number zero (first ∷ classes) class s e =
    let here = both_of (not (has_bad_scope code number first) && not (has_bad_literal code first)) (are_classes_sound code (number + 1) classes) s in
    let fine = both_of (not (has_bad_scope code number first)) (not (has_bad_literal code first)) here.0 in
    let is : first ≡ class = cc in
    let same : number ≡ number + 0 = omega arith in
    subst (λ n. has_bad_scope code n class ≡ false) same (subst (λ c. has_bad_scope code number c ≡ false) is (not_true (has_bad_scope code number first) fine.0))
sound_from code number (suc k) (first ∷ classes) class s e =
    let here = both_of (not (has_bad_scope code number first) && not (has_bad_literal code first)) (are_classes_sound code (number + 1) classes) s in
    let same : number + 1 + k ≡ number + suc k = omega arith in
    subst (λ n. has_bad_scope code n class ≡ false) same (sound_from code (number + 1) k classes class here.1 e)

sound_nested : (code : CodeProgram) (number : ℕ) (class : ClassCode) → has_sound_classes code ≡ true →
    slice_get code.classes number ≡ Some class → has_nested code number class ≡ true
sound_nested code number class s e =
    let none : 0 + number ≡ number = omega arith in
    let all = both_of (nat_lt 0 (length code.classes)) (are_classes_sound code 0 code.classes) s in
    let fine = not_false ((has_place number class && has_bodies code number class) && ((has_nested code number class && has_params code class) && (are_different (instance_selectors code class) && are_different (side_selectors code class)))) (subst (λ n. has_bad_scope code n class ≡ false) none (sound_from code 0 number code.classes class all.1 e)) in
    let parts = both_of (has_place number class && has_bodies code number class) ((has_nested code number class && has_params code class) && (are_different (instance_selectors code class) && are_different (side_selectors code class))) fine in
    let nested = both_of (has_nested code number class && has_params code class) (are_different (instance_selectors code class) && are_different (side_selectors code class)) parts.1 in
    (both_of (has_nested code number class) (has_params code class) nested.0).0

-- A nested entry is a class with this one as its outer.
pub record IsInner (code : CodeProgram) (number decl : ℕ) : Type 0 where
  pub inner : ClassCode
  pub inner_is : slice_get code.classes decl ≡ Some inner
  pub outer_is : inner.outer ≡ Some number

abbrev is_inner : CodeProgram → ℕ → NestedCode → Bool
is_inner code number nested =
    option_map_or (λ (inner : ClassCode). option_map_or (λ outer. eqb outer number) inner.outer false) (slice_get code.classes nested.class) false

inner_of : (code : CodeProgram) (number : ℕ) (nested : NestedCode) → is_inner code number nested ≡ true → IsInner code number nested.class
inner_of code number nested h = found (slice_get code.classes nested.class) refl h
  where
    outer : (o : Option ℕ) → option_map_or (λ outer. eqb outer number) o false ≡ true → o ≡ Some number
    outer (Some n) e = ap Some (eqb-true n number e)
    outer None e = absurd (cc)

    found : (o : Option ClassCode) → slice_get code.classes nested.class ≡ o → option_map_or (λ (inner : ClassCode). option_map_or (λ outer. eqb outer number) inner.outer false) o false ≡ true → IsInner code number nested.class
    found (Some inner) e h = record { inner = inner; inner_is = e; outer_is = outer inner.outer h }
    found None e h = absurd (cc)

entry_inner : (code : CodeProgram) (number k : ℕ) (nested : List NestedCode) (one : NestedCode) →
    list_all (is_inner code number) nested ≡ true → slice_get nested k ≡ Some one → is_inner code number one ≡ true
entry_inner code number zero [] one all e = absurd (cc)
entry_inner code number (suc k) [] one all e = absurd (cc)
entry_inner code number zero (first ∷ nested) one all e =
    let is : first ≡ one = cc in ap (is_inner code number) (sym is) ∙ (both_of (is_inner code number first) (list_all (is_inner code number) nested) all).0
entry_inner code number (suc k) (first ∷ nested) one all e =
    entry_inner code number k nested one (both_of (is_inner code number first) (list_all (is_inner code number) nested) all).1 e

pub nested_inner : (code : CodeProgram) (number k : ℕ) (class : ClassCode) (one : NestedCode) → has_sound_classes code ≡ true →
    slice_get code.classes number ≡ Some class → slice_get class.nested k ≡ Some one → IsInner code number one.class
nested_inner code number k class one s e n =
    inner_of code number one (entry_inner code number k class.nested one (sound_nested code number class s e) n)

-- The first nested class of a number.
pub record IsFirst (nested : List NestedCode) (class : ℕ) : Type 0 where
  pub one : NestedCode
  pub one_is : slice_get nested (place_of nested class) ≡ Some one
  pub class_is : one.class ≡ class

pub first_nested : (nested : List NestedCode) (k : ℕ) (one : NestedCode) → slice_get nested k ≡ Some one → IsFirst nested one.class
first_nested [] k one e = absurd (none k e)
  where
    none : (k : ℕ) → slice_get {X = NestedCode} [] k ≡ Some one → ⊥
    none zero e = absurd (cc)
    none (suc k) e = absurd (cc)
first_nested (first ∷ nested) zero one e =
    let is : first ≡ one = cc in
    let same : eqb first.class one.class ≡ true = eq-eqb first.class one.class (ap (λ (n : NestedCode). n.class) is) in
    record { one = first; one_is = rw same refl; class_is = ap (λ (n : NestedCode). n.class) is }
first_nested (first ∷ nested) (suc k) one e = tested (eqb first.class one.class) refl (first_nested nested k one e)
  where
    tested : (b : Bool) → eqb first.class one.class ≡ b → IsFirst nested one.class → IsFirst (first ∷ nested) one.class
    tested true t below = record { one = first; one_is = rw t refl; class_is = eqb-true first.class one.class t }
    tested false t below = record { one = below.one; one_is = rw t (later below.one_is); class_is = below.class_is }
      where
        later : slice_get nested (place_of nested one.class) ≡ Some below.one → slice_get (first ∷ nested) (1 + place_of nested one.class) ≡ Some below.one
        later e = let more : 1 + place_of nested one.class ≡ suc (place_of nested one.class) = omega arith in rw more e
