use Rattle.std.proofs.Common.{drop}
use Rattle.ns_gen_bodies.proofs.Highest.{height_above}
use Rattle.ns_gen_bodies.proofs.finish.greatest_height.Goals as goal

pub returns-then-greatest-gt-HIGHEST-clause-high : goal.returns-then-greatest-gt-HIGHEST-clause-high
returns-then-greatest-gt-HIGHEST-clause-high c =
    height_above (drop c.loop-instr.instr-index c.args.instrs.now) c.loop-instr.greatest c.greater-greatest.result c.loop-instr.height _ _
    c.loop-instr.invariant.0 c.greater-greatest.ensures c.if-greatest-gt-HIGHEST.true
