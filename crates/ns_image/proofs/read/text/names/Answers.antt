use Rattle.ns_image.proofs.read.text.names.Goals as goal

pub returns : goal.returns
returns c = rw c.in_ok-count.ensures (rw c.new-earlier.ensures at c.names_of.ensures)
