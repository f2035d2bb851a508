use Rattle.ns_image.proofs.read.place.places.Goals as goal

pub returns : goal.returns
returns c = rw c.in_ok-count.ensures c.places_of.ensures
