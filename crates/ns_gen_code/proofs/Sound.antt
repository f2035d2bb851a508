-- The code of a right program is sound.
use Rattle.std.proofs.Common.{◌≡◌, ◌≤◌, ℕ, zero, suc, ◌+◌, List, [], ◌∷◌, ◌++◌, length, refl, ap, ◌∙◌, subst, arith}
use Rattle.std.specs.Prelude.{true, false, not, Some, None, slice_get, map, option_map, ◌==◌, if◌then◌else◌}
use Rattle.std.specs.Option.{option_or}
use Rattle.std.proofs.lemmas.List.{length-map}
use Rattle.ns_scope.specs.declared.scope.CodeSide.TheVariants as side
use Rattle.ns_code.specs.declared.program.CodeProgram.{CodeProgram}
use Rattle.ns_code.specs.declared.class.ClassCode.{ClassCode}
use Rattle.ns_code.specs.Soundness as s
use Rattle.ns_verify.specs.declared.fault.VerifyCause.TheVariants.{BadScope, BadLiteral}
use Rattle.ns_verify.specs.declared.fault.Where.TheVariants.{Class}
use Rattle.ns_verify.specs.Verify.{placed, class_cause, classes_fault, first_class_fault, bodies_fault, IsSound}
use Rattle.ns_resolved.specs.Program as m
use Rattle.ns_resolved.specs.Tables.{class_names, class_code, names_of, kind_of, side_number}
use Rattle.ns_resolved.specs.Right as r
use Rattle.ns_gen_code.specs.Code.{code_of}
use Rattle.ns_gen_code.specs.Sizes.{size_fault}
use Rattle.ns_gen_code.specs.Stated.{AreThere}
use Rattle.ns_gen_code.proofs.Named.{class_named, is_named}
use Rattle.ns_gen_code.proofs.Privates.{three}
use Rattle.ns_gen_code.proofs.Causes.{HomesAre}
use Rattle.ns_gen_code.proofs.Bodies.{bodies_unfaulted}
use Rattle.ns_gen_code.proofs.Records.{both, neither, less, body_is, params_named, methods_there, clause_there, place_right, nested_there, identifier}
use Rattle.ns_gen_code.proofs.Records.{slots_all, methods_all, nested_all, slots_named, methods_named, equal}
use Rattle.ns_gen_code.specs.laws.Names.{left_there, right_there}

-- the names of the members of a class, in three parts
abbrev slot_names : m.Declaration → List (List ℕ)
slot_names class = map (λ slot. slot.name) class.slots

abbrev selectors : List m.Method → List (List ℕ)
selectors methods = map (λ method. method.selector) methods

pub record MembersNamed (meant : m.Meant) (class : m.Declaration) : Type 0 where
  pub slots : AreThere (names_of meant) (slot_names class)
  pub methods : AreThere (names_of meant) (selectors class.methods)
  pub side_methods : AreThere (names_of meant) (selectors class.side_methods)

members_named : (meant : m.Meant) (class : m.Declaration) → AreThere (names_of meant) (class_names class) → MembersNamed meant class
members_named meant class h =
    let names = names_of meant in
    let members = selectors class.methods ++ selectors class.side_methods in
    let behind = right_there names (slot_names class) members h.1.1.1 in
    record {
      slots = left_there names (slot_names class) members h.1.1.1;
      methods = left_there names (selectors class.methods) (selectors class.side_methods) behind;
      side_methods = right_there names (selectors class.methods) (selectors class.side_methods) behind;
    }

good_names : (meant : m.Meant) (number : ℕ) (class : m.Declaration) → slice_get meant.classes number ≡ Some class →
    r.IsRightClass meant number class →
    s.has_bad_literal (code_of meant) (class_code (names_of meant) class) ≡ false
good_names meant number class here right =
    let h = class_named meant number class here in
    let members = members_named meant class h in
    neither _ _ (ap not (identifier meant class.name h.0 right.name))
    (neither _ _ (ap not (is_named meant class.factory h.1.0))
    (neither _ _ (ap not (is_named meant class.super_selector h.1.1.0))
    (neither _ _ (slots_named meant class.slots right.slots members.slots)
    (neither _ _ (methods_named meant class.methods members.methods) (methods_named meant class.side_methods members.side_methods)))))

good_bodies : (meant : m.Meant) (number : ℕ) (class : m.Declaration) → slice_get meant.classes number ≡ Some class →
    r.IsRightClass meant number class →
    s.has_bodies (code_of meant) number (class_code (names_of meant) class) ≡ true
good_bodies meant number class here right =
    let members = members_named meant class (class_named meant number class here) in
    let start = right.initialiser in
    both _ _ (both _ _ (body_is meant class.initialiser start.0 s.initialiser_kind s.instance_side number (λ params. params == class.params) start.2
    (ap kind_of start.3) (ap side_number start.4) start.5 (equal start.0.params class.params start.6))
    (clause_there meant number class class.clause right.clause))
    (both _ _ (methods_there meant side.Instance number class.methods right.methods members.methods)
    (methods_there meant side.Class number class.side_methods right.side_methods members.side_methods))

good_scope : (meant : m.Meant) (number : ℕ) (class : m.Declaration) → slice_get meant.classes number ≡ Some class →
    r.IsRightClass meant number class →
    s.has_bad_scope (code_of meant) number (class_code (names_of meant) class) ≡ false
good_scope meant number class here right =
    let h = class_named meant number class here in
    let members = members_named meant class h in
    let instance : s.instance_selectors (code_of meant) (class_code (names_of meant) class) ≡ r.members_of meant class =
    three _ _ _ _ _ _ (slots_all meant class.slots members.slots) (nested_all meant class.nested) (methods_all meant class.methods members.methods) in
    ap not
    (both _ _ (both _ _ (place_right number class right.nesting.place) (good_bodies meant number class here right))
    (both _ _ (both _ _ (nested_there meant number class.nested right.nesting.nested)
    (both _ _ (less class.params 64 right.few_params) (params_named meant class.factory class.params h.1.0 right.factory)))
    (both _ _ (ap s.are_different instance ∙ right.members_differ)
    (ap s.are_different (methods_all meant class.side_methods members.side_methods) ∙ right.side_members_differ))))

class_unfaulted : (meant : m.Meant) (number : ℕ) (class : m.Declaration) → slice_get meant.classes number ≡ Some class →
    r.IsRightClass meant number class →
    class_cause (code_of meant) number (class_code (names_of meant) class) ≡ None
class_unfaulted meant number class here right =
    let code = class_code (names_of meant) class in
    ap (λ b. if b then Some BadScope else (if s.has_bad_literal (code_of meant) code then Some BadLiteral else None)) (good_scope meant number class here right)
    ∙ ap (λ b. if b then Some BadLiteral else None) (good_names meant number class here right)

-- ---- all classes

all_unfaulted : (code : CodeProgram) (names : List (List ℕ)) (classes : List m.Declaration) (number : ℕ) →
    ((k : ℕ) (class : m.Declaration) → slice_get classes k ≡ Some class → class_cause code (k + number) (class_code names class) ≡ None) →
    classes_fault code number (map (class_code names) classes) ≡ None
all_unfaulted code names [] number none = refl
all_unfaulted code names (class ∷ classes) number none =
    let e : 0 + number ≡ number = omega arith in
    ap (λ c. option_or (option_map (placed (Class number)) c) (classes_fault code (number + 1) (map (class_code names) classes)))
    (subst (λ n. class_cause code n (class_code names class) ≡ None) e (none zero class refl))
    ∙ all_unfaulted code names classes (number + 1) (λ k c f. let same_number : suc k + number ≡ k + (number + 1) = omega arith in
    subst (λ n. class_cause code n (class_code names c) ≡ None) same_number (none (suc k) c f))

some_class : (code : CodeProgram) (classes : List ClassCode) → 1 ≤ length classes → classes_fault code 0 classes ≡ None →
    first_class_fault code classes ≡ None
some_class code [] h e = absurd (omega (h, arith))
some_class code (class ∷ classes) h e = e

pub classes_unfaulted : (meant : m.Meant) → r.IsRight meant → first_class_fault (code_of meant) (code_of meant).classes ≡ None
classes_unfaulted meant right =
    some_class (code_of meant) (code_of meant).classes (omega (right.some_class, length-map meant.classes (class_code (names_of meant)), arith))
    (all_unfaulted (code_of meant) (names_of meant) meant.classes 0
    (λ k class here. let same_number : k ≡ k + 0 = omega arith in
    subst (λ n. class_cause (code_of meant) n (class_code (names_of meant) class) ≡ None) same_number
    (class_unfaulted meant k class here (right.classes k class here))))

pub code_sound : (meant : m.Meant) → r.IsRight meant → size_fault (code_of meant) ≡ None → HomesAre (code_of meant) →
    IsSound (code_of meant)
code_sound meant right size homes =
    ap (λ f. option_or f (bodies_fault (code_of meant) 0 (code_of meant).bodies)) (classes_unfaulted meant right)
    ∙ bodies_unfaulted meant right.bodies size homes
