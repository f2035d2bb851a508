-- The tests of a program without static faults: its code is made once, where none of its sizes is too large.
use Rattle.std.specs.Prelude.{ℕ, List, Option, None, Some, Bool}
use Rattle.ns_base.specs.declared.limits.Limits.{Limits}
use Rattle.ns_code.specs.declared.program.CodeProgram.{CodeProgram}
use Rattle.ns_gen_code.specs.Code.{code_of}
use Rattle.ns_gen_code.specs.Sizes.{size_fault}
use Rattle.ns_gen_code.specs.declared.size.SizeKind.{SizeKind}
use Rattle.ns_resolved.specs.Program.{Meant}
use Rattle.ns_test.specs.Tests.{Tested, has_no_code, tests_run}

-- what comes of the tests of code, of which this is the first size that passes its limit
abbrev pub sized_tested : CodeProgram → Limits → Bool → Option (List ℕ) → Option SizeKind → Tested
sized_tested code limits reversed only None = tests_run code limits reversed only
sized_tested code limits reversed only (Some kind) = has_no_code kind

-- what comes of the tests of some code, if it isn't too large
abbrev pub code_tested : CodeProgram → Limits → Bool → Option (List ℕ) → Tested
code_tested code limits reversed only = sized_tested code limits reversed only (size_fault code)

-- what comes of the tests of a program
abbrev pub source_tested : Meant → Limits → Bool → Option (List ℕ) → Tested
source_tested meant limits reversed only = code_tested (code_of meant) limits reversed only
