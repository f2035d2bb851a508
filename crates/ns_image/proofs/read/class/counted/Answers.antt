use Rattle.ns_image.proofs.read.class.counted.Goals as goal

pub returns : goal.returns
returns g c = rw c.in_ok-count.ensures (rw c.from.ensures at c.times.ensures)
