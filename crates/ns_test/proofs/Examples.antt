-- Small examples, which compute.
use Rattle.std.proofs.Common.{◌≡◌, [], ◌∷◌, codes, true, false, refl}
use Rattle.ns_world.specs.declared.value.Value.TheVariants.{Nil, False}
use Rattle.ns_test.specs.declared.report.Verdict.TheVariants.{Passed, Failed, Erred}
use Rattle.ns_test.specs.Alone.{verdict_line, verdict_on}
use Rattle.ns_test.specs.Opening.{names_test}
use Rattle.ns_test.specs.Tests.{counted}

-- names of tests begin with `test`, which is one itself, and take no argument
named_test : names_test (codes "testA") ≡ true
named_test = refl

shortest_test : names_test (codes "test") ≡ true
shortest_test = refl

test_of_an_argument : names_test (codes "testA:") ≡ false
test_of_an_argument = refl

helper : names_test (codes "aTest") ≡ false
helper = refl

-- only false fails
nil_passes : verdict_on Nil ≡ Passed
nil_passes = refl

false_fails : verdict_on False ≡ Failed
false_fails = refl

-- the report line stands behind the name
error_line : verdict_line Erred (codes "testC") (codes "limit: steps") ≡ codes "error testC limit: steps"
error_line = refl

-- an error is no failure
one_of_each : counted [] [] (Erred ∷ Passed ∷ Failed ∷ Erred ∷ []) ≡ record { lines = []; parts = []; tests = 4; passed = 1; failed = 1; errors = 2 }
one_of_each = refl
