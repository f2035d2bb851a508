-- What is asked for of tests are tests.
use Rattle.std.proofs.Common.{◌≡◌, ℕ, ◌==◌, ◌&&◌, List, [], ◌∷◌, filter, map, reverse, Option, Some, None}
use Rattle.std.proofs.Common.{IfSome, option_map, refl, sym, subst, Bool, true, false, All}
use Rattle.std.proofs.lemmas.List.Elements.{All-cons, All-filter, All-nil}
use Rattle.std.proofs.lemmas.List.Sorted.{All-permutation, IsPermutation-reverse}
use Rattle.std.specs.Str.{bytes_eq}
use Rattle.ns_base.specs.declared.selector.Sel.{Sel}
use Rattle.ns_code.specs.declared.class.ClassCode.{ClassCode}
use Rattle.ns_code.specs.declared.class.MethodCode.{MethodCode}
use Rattle.ns_code.specs.declared.program.CodeProgram.{CodeProgram}
use Rattle.ns_code.specs.Access.{public_access}
use Rattle.ns_code.specs.Selector.{selector_text}
use Rattle.ns_test.specs.Opening.{is_test, tests_of}
use Rattle.ns_test.specs.Stated.{IsTest}
use Rattle.ns_test.specs.Tests.{asked_for, of_name, unless_none}

-- the tests among methods have the names of tests
among : (code : CodeProgram) (methods : List MethodCode)
    → All (IsTest code) (map (λ (method : MethodCode). method.sel) (filter (is_test code) methods))
among code [] = All-nil (IsTest code)
among code (method ∷ methods) = tested (is_test code method) refl (among code methods)
  where
    second : (a b : Bool) → (a && b) ≡ true → b ≡ true
    second true b e = e
    second false b e = absurd (cc)

    tested : (b : Bool) → is_test code method ≡ b
        → All (IsTest code) (map (λ (each : MethodCode). each.sel) (filter (is_test code) methods))
        → All (IsTest code) (map (λ (each : MethodCode). each.sel) (filter (is_test code) (method ∷ methods)))
    tested true e rest = rw e (All-cons (IsTest code) method.sel _ (second (method.access == public_access) _ e) rest)
    tested false e rest = rw e rest

pub tests_are : (code : CodeProgram) (class : ClassCode) → All (IsTest code) (tests_of code class)
tests_are code class = among code class.methods

pub asked_are : (code : CodeProgram) (reversed : Bool) (only : Option (List ℕ)) (tests : List Sel) → All (IsTest code) tests
    → IfSome (asked_for code reversed only tests) (All (IsTest code))
asked_are code true None tests all = All-permutation (IsTest code) tests (reverse tests) (IsPermutation-reverse tests) all
asked_are code false None tests all = all
asked_are code reversed (Some name) tests all =
    some (of_name code name tests) (All-filter (λ sel. bytes_eq (selector_text code sel.0) name) (IsTest code) tests all)
  where
    some : (sels : List Sel) → All (IsTest code) sels → IfSome (unless_none sels) (All (IsTest code))
    some [] all = tt
    some (sel ∷ sels) all = all

-- so are those of a class
pub asked_of_class : {X : Type 0} (items : X → List Sel) (code program : CodeProgram) (class : ClassCode) (reversed : Bool)
    (only : Option (List ℕ)) (tests : List Sel) (asked : Option X) → program ≡ code → tests ≡ tests_of program class
    → option_map items asked ≡ asked_for program reversed only tests → IfSome asked (λ x. All (IsTest code) (items x))
asked_of_class {X = X} items code program class reversed only tests asked same all is =
    let each = subst (All (IsTest program)) (sym all) (tests_are program class) in
    let some = asked_are program reversed only tests each in
    let here = subst (λ c. IfSome (asked_for program reversed only tests) (All (IsTest c))) same some in
    shown asked (subst (λ o. IfSome o (All (IsTest code))) (sym is) here)
  where
    shown : (o : Option X) → IfSome (option_map items o) (All (IsTest code)) → IfSome o (λ x. All (IsTest code) (items x))
    shown None h = h
    shown (Some x) h = h
