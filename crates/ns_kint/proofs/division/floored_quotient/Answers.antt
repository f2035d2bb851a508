use Rattle.std.proofs.Common.{arith}
use Rattle.std.proofs.lemmas.Int.{to_z-of_z}
use Rattle.ns_kint.proofs.Rounding.{quotient_kept, quotient_moved}
use Rattle.ns_kint.proofs.division.floored_quotient.Goals as goal

pub returns-then-signs_differ : goal.returns-then-signs_differ
returns-then-signs_differ c = grind (arith, to_z-of_z, quotient_moved)

pub returns-else-signs_differ : goal.returns-else-signs_differ
returns-else-signs_differ c = grind (arith, to_z-of_z, quotient_kept)
