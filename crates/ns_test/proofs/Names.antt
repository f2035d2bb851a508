-- The names of tests, and `new`, are names of the code that take no argument.
use Rattle.std.proofs.Common.{◌≡◌, ℕ, zero, suc, ◌-◌, ◌<◌, [], length, refl, ap, sym}
use Rattle.std.proofs.Common.{◌∙◌, arith, Bool, true, false, cond, subst, ◌&&◌}
use Rattle.std.proofs.Common.{nat_lt, Contains, codes}
use Rattle.std.proofs.lemmas.Bool.{eqb-true, lt-ltb, ltb-true}
use Rattle.std.proofs.lemmas.List.{get_or_default}
use Rattle.std.specs.List.{slice_index_or}
use Rattle.ns_base.specs.declared.selector.Sel.{Sel}
use Rattle.ns_code.specs.declared.program.CodeProgram.{CodeProgram}
use Rattle.ns_code.specs.Selector.{own_text_at, selector_text, text_arity}
use Rattle.ns_machine.specs.Asking.{HasSelector}
use Rattle.ns_test.specs.Opening.{names_test}
use Rattle.ns_test.specs.Stated.{IsTest}

-- a number whose text is no own selector's is that of a name of the code
below_names : (code : CodeProgram) (number : ℕ) → (selector_text code number ≡ own_text_at (number - length code.names) → ⊥)
    → number < length code.names
below_names code number other = by (nat_lt number (length code.names)) refl
  where
    by : (b : Bool) → nat_lt number (length code.names) ≡ b → number < length code.names
    by true inside = ltb-true number (length code.names) inside
    by false behind =
        absurd (other (ap (λ b. cond b (slice_index_or code.names number []) (own_text_at (number - length code.names))) behind))

-- its text is that name
pub text_of_number : (code : CodeProgram) (number : ℕ) → number < length code.names
    → selector_text code number ≡ slice_index_or code.names number []
text_of_number code number inside =
    ap (λ b. cond b (slice_index_or code.names number []) (own_text_at (number - length code.names)))
    (lt-ltb number (length code.names) inside)

name_of_number : (code : CodeProgram) (number : ℕ) → number < length code.names → Contains code.names (selector_text code number)
name_of_number code number inside =
    (number, inside, get_or_default code.names number (selector_text code number) [] inside ∙ sym (text_of_number code number inside))

-- no own selector is a test's
own_is_no_test : (place : ℕ) → names_test (own_text_at place) ≡ false
own_is_no_test zero = refl
own_is_no_test (suc zero) = refl
own_is_no_test (suc (suc zero)) = refl
own_is_no_test (suc (suc (suc place))) = refl

-- the first of two tests that both hold
first : (a b : Bool) → (a && b) ≡ true → a ≡ true
first true b e = refl
first false b e = absurd (cc)

pub test_below_names : (code : CodeProgram) (sel : Sel) → IsTest code sel → sel.0 < length code.names
test_below_names code sel test =
    below_names code sel.0 (λ own. let none = own_is_no_test (sel.0 - length code.names) in let same = ap names_test own in absurd (cc))

pub test_has_selector : (code : CodeProgram) (sel : Sel) → IsTest code sel → HasSelector code (selector_text code sel.0) 0
test_has_selector code sel test =
    record {
      has_name = name_of_number code sel.0 (test_below_names code sel test);
      arity = eqb-true (text_arity (selector_text code sel.0)) 0 (first _ _ test);
      few = omega arith;
    }

-- no own selector is `new`
own_is_not_new : (place : ℕ) → own_text_at place ≡ codes "new" → ⊥
own_is_not_new zero e = absurd (cc)
own_is_not_new (suc zero) e = absurd (cc)
own_is_not_new (suc (suc zero)) e = absurd (cc)
own_is_not_new (suc (suc (suc place))) e = absurd (cc)

pub new_has_selector : (code : CodeProgram) (number : ℕ) → selector_text code number ≡ codes "new" → HasSelector code (codes "new") 0
new_has_selector code number new =
    let inside = below_names code number (λ own. own_is_not_new (number - length code.names) (sym own ∙ new)) in
    record {
      has_name = subst (Contains code.names) new (name_of_number code number inside);
      arity = refl;
      few = omega arith;
    }
