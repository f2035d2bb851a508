use Rattle.std.proofs.Common.{◌≡◌, ◌≤◌, max, drop}
use Rattle.ns_gen_code.specs.Code.{greatest_height}
use Rattle.ns_gen_code.specs.Sizes.{most_height}
use Rattle.ns_gen_bodies.proofs.finish.greatest_height.Given as goal

abbrev pub invariant-loop-instr : goal.invariant-loop-instr
invariant-loop-instr l =
    (max l.greatest (greatest_height l.height (drop l.instr-index l.instrs)) ≡ greatest_height 0 l.instrs) × (l.greatest ≤ most_height)
