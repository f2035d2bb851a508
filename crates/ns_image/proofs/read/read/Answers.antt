use Rattle.std.proofs.Common.{arith}
use Rattle.ns_image.proofs.Images.{answer_fits}
use Rattle.ns_image.proofs.read.read.Goals as goal

pub returns-clause-fits : goal.returns-clause-fits
returns-clause-fits c = answer_fits c.args.bytes.now c.read_image.result (λ i. omega (arith, c.type_inv.bytes i)) c.read_image.ensures
