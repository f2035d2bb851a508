use Rattle.std.proofs.Common.{arith}
use Rattle.std.proofs.lemmas.Int.{to_z-of_z}
use Rattle.ns_kint.proofs.Rounding.{remainder_kept, remainder_moved}
use Rattle.ns_kint.proofs.division.floored_remainder.Goals as goal

pub returns-then-signs_differ : goal.returns-then-signs_differ
returns-then-signs_differ c = grind (arith, to_z-of_z, remainder_moved)

pub returns-else-signs_differ : goal.returns-else-signs_differ
returns-else-signs_differ c = grind (arith, to_z-of_z, remainder_kept)
