use Rattle.std.proofs.Common.{◌≡◌, ◌++◌, drop, flat_map, map}
use Rattle.ns_test.specs.Alone.{test_line, test_part, test_verdict}
use Rattle.ns_test.proofs.tests.report_on.Given as goal

-- the lines, the parts and the verdicts so far, and those of the tests that are left, are those of all tests
abbrev pub invariant-tests : goal.invariant-tests
invariant-tests l =
    record {
      lines : l.lines.items ++ flat_map (test_line l.code l.limits) (drop l.sel-index l.tests)
          ≡ flat_map (test_line l.code l.limits) l.tests;
      parts : l.parts.items ++ map (test_part l.code l.limits) (drop l.sel-index l.tests)
          ≡ map (test_part l.code l.limits) l.tests;
      verdicts : l.verdicts.items ++ map (test_verdict l.code l.limits) (drop l.sel-index l.tests)
          ≡ map (test_verdict l.code l.limits) l.tests;
    }
