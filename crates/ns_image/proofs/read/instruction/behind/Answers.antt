use Rattle.std.proofs.Common.{arith, refl, ◌≤◌}
use Rattle.ns_image.proofs.Instructions.{past_the_last}
use Rattle.ns_image.proofs.read.instruction.behind.Goals as goal

pub returns-in-0-2 : goal.returns-in-0-2
returns-in-0-2 c =
    let past : 27 ≤ c.args.code = omega arith in
    rw (past_the_last c.args.code past) refl
