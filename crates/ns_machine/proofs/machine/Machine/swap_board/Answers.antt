use Rattle.ns_machine.proofs.Standing.{swapped_machine}
use Rattle.ns_machine.proofs.machine.Machine.swap_board.Goals as goal

pub invariant_of-self : goal.invariant_of-self
invariant_of-self c =
    swapped_machine c.self.inside.code c.self.inside.grants c.self.inside.plan c.self.inside.core c.self.inside.own c.self.inside.stage c.args.other.now
    (c.swaps_keep_valid.ensures c.self.inside.code c.self.inside.grants) c.self.invariant
