use Rattle.ns_image.proofs.read.texts.Goals as goal

pub returns : goal.returns
returns c = rw c.in_ok-count.ensures c.times.ensures
