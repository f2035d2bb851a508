-- Each test is counted once, in whatever order.
use Rattle.std.proofs.Common.{◌≡◌, ℕ, suc, ◌+◌, List, [], ◌∷◌, length, map, reverse, refl, sym, ap, ◌∙◌, arith, Bool, cond}
use Rattle.std.specs.List.{count_by, sum_by}
use Rattle.std.proofs.lemmas.List.{length-map}
use Rattle.std.proofs.lemmas.List.Sorted.{IsPermutation-reverse, sum_by-IsPermutation}
use Rattle.std.proofs.lemmas.List.Sums.{sum_by-cons}
use Rattle.ns_base.specs.declared.limits.Limits.{Limits}
use Rattle.ns_base.specs.declared.selector.Sel.{Sel}
use Rattle.ns_code.specs.declared.program.CodeProgram.{CodeProgram}
use Rattle.ns_test.specs.declared.report.Verdict.{Verdict}
use Rattle.ns_test.specs.declared.report.Verdict.TheVariants.{Passed, Failed, Erred}
use Rattle.ns_test.specs.Alone.{test_verdict}
use Rattle.ns_test.specs.Stated.{CountsAddUp, OrderCountsNothing}
use Rattle.ns_test.specs.Tests.{is_passed, is_failed, is_erred}

-- one more is counted where the first is so
counted_first : (is_so : Verdict → Bool) (verdict : Verdict) (verdicts : List Verdict)
    → count_by is_so (verdict ∷ verdicts) ≡ cond (is_so verdict) 1 0 + count_by is_so verdicts
counted_first is_so verdict verdicts = sum_by-cons (λ v. cond (is_so v) 1 0) verdict verdicts

-- each verdict is of one kind
once : (verdicts : List Verdict) → count_by is_passed verdicts + count_by is_failed verdicts + count_by is_erred verdicts ≡ length verdicts
once [] = refl
once (verdict ∷ verdicts) =
    more verdict _ _ _ _ _ _ _ (once verdicts) (counted_first is_passed verdict verdicts) (counted_first is_failed verdict verdicts)
    (counted_first is_erred verdict verdicts)
  where
    more : (v : Verdict) (passed failed errors count all_passed all_failed all_errors : ℕ) → passed + failed + errors ≡ count
        → all_passed ≡ cond (is_passed v) 1 0 + passed → all_failed ≡ cond (is_failed v) 1 0 + failed
        → all_errors ≡ cond (is_erred v) 1 0 + errors → all_passed + all_failed + all_errors ≡ suc count
    more Passed passed failed errors count a b c rest p f e = omega (arith, rest, p, f, e)
    more Failed passed failed errors count a b c rest p f e = omega (arith, rest, p, f, e)
    more Erred passed failed errors count a b c rest p f e = omega (arith, rest, p, f, e)

pub add_up : (code : CodeProgram) (limits : Limits) → CountsAddUp code limits
add_up code limits tests =
    record { all = length-map tests (test_verdict code limits); kinds = once (map (test_verdict code limits) tests) }

-- how many verdicts are so, summed over the tests
summed : (is_so : Verdict → Bool) (verdict : Sel → Verdict) (tests : List Sel)
    → count_by is_so (map verdict tests) ≡ sum_by (λ sel. cond (is_so (verdict sel)) 1 0) tests
summed is_so verdict [] = refl
summed is_so verdict (sel ∷ tests) =
    counted_first is_so (verdict sel) (map verdict tests)
    ∙ (ap (λ n. cond (is_so (verdict sel)) 1 0 + n) (summed is_so verdict tests)
    ∙ sym (sum_by-cons (λ sel. cond (is_so (verdict sel)) 1 0) sel tests))

-- as many are so in the reverse order
reversed : (is_so : Verdict → Bool) (verdict : Sel → Verdict) (tests : List Sel)
    → count_by is_so (map verdict (reverse tests)) ≡ count_by is_so (map verdict tests)
reversed is_so verdict tests =
    summed is_so verdict (reverse tests)
    ∙ (sum_by-IsPermutation (λ sel. cond (is_so (verdict sel)) 1 0) tests (reverse tests) (IsPermutation-reverse tests)
    ∙ sym (summed is_so verdict tests))

pub order_counts_nothing : (code : CodeProgram) (limits : Limits) → OrderCountsNothing code limits
order_counts_nothing code limits tests =
    record {
      passed = reversed is_passed (test_verdict code limits) tests;
      failed = reversed is_failed (test_verdict code limits) tests;
      errors = reversed is_erred (test_verdict code limits) tests;
    }
