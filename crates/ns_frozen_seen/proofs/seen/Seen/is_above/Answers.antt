use Rattle.std.proofs.Common.{arith}
use Rattle.ns_frozen_seen.specs.Seen.{heap_of}
use Rattle.ns_frozen_seen.proofs.Walked.{holder_on, holder_nowhere, holder_there}
use Rattle.ns_frozen_seen.proofs.seen.Seen.is_above.Goals as goal

pub links-init : goal.links-init
links-init c = c.climbed-at.ensures

pub returns-then-at-above : goal.returns-then-at-above
returns-then-at-above c =
    holder_nowhere c.args.self.now.code.now (heap_of c.args.self.now) c.args.class c.links.at c.superclass-above.result c.args.holder
    (omega (arith, c.links.invariant.low, c.ranges.class.fits)) c.links.invariant c.superclass-above.ensures (omega arith) (omega arith)

pub links-preserved : goal.links-preserved
links-preserved c =
    holder_on c.args.self.now.code.now (heap_of c.args.self.now) c.args.class c.links.at c.superclass-above.result c.args.holder
    (omega (arith, c.links.invariant.low, c.ranges.class.fits)) c.links.invariant c.superclass-above.ensures (omega arith) (omega arith)

pub returns : goal.returns
returns c =
    holder_there c.args.self.now.code.now (heap_of c.args.self.now) c.args.class c.links.at c.args.holder
    (omega (arith, c.links.invariant.low, c.ranges.class.fits)) c.links.invariant (omega arith)
