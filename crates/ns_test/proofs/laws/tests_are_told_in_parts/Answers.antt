use Rattle.ns_test.proofs.InParts.{lines_tell_parts}
use Rattle.ns_test.proofs.laws.tests_are_told_in_parts.Goals as goal

pub returns-clause-lines : goal.returns-clause-lines
returns-clause-lines c code limits = lines_tell_parts c.lines_tell_ends.ensures code limits
