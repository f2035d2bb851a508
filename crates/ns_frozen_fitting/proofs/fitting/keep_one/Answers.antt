use Rattle.ns_frozen_seen.specs.Seen.{heap_of}
use Rattle.ns_frozen_fitting.proofs.Fitted.{fits_around_out}
use Rattle.ns_frozen_fitting.proofs.fitting.keep_one.Goals as goal

pub returns-clause-fits : goal.returns-clause-fits
returns-clause-fits c =
    fits_around_out c.args.seen.now.code.now (heap_of c.args.seen.now) c.args.number c.args.env c.around.result c.requires.seen.parents c.requires.fits c.around.ensures
