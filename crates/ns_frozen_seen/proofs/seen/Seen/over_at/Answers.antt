use Rattle.std.proofs.Common.{arith}
use Rattle.ns_frozen_seen.specs.Seen.{heap_of}
use Rattle.ns_frozen_seen.proofs.Kept.{over_is, placed}
use Rattle.ns_frozen_seen.proofs.seen.Seen.over_at.Goals as goal

pub returns-clause-placed : goal.returns-clause-placed
returns-clause-placed c = placed c.args.self.now.chains.numbers.items c.args.over c.place.result c.place.ensures

pub returns-clause-over : goal.returns-clause-over
returns-clause-over c =
    over_is c.args.self.now.code.now (heap_of c.args.self.now) c.args.self.now.chains c.args.holder c.args.over c.place.result c.requires.seen.chains
    (omega (arith, c.ranges.holder.fits)) c.requires.over (omega (arith, c.if-holder-over.false)) c.place.ensures
