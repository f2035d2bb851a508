use Rattle.ns_image.proofs.read.format.up_to.Goals as goal

pub returns : goal.returns
returns g c = rw c.in_ok-count.ensures c.times.ensures
