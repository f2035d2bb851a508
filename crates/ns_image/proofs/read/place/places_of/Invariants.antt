use Rattle.std.proofs.Common.{◌≡◌, ◌-◌}
use Rattle.ns_image.specs.Read.{chained}
use Rattle.ns_image.specs.Reading.{place, behind_place}
use Rattle.ns_image.specs.laws.Loop.{with_front}
use Rattle.ns_image.proofs.read.place.places_of.Given as goal

abbrev pub invariant-places : goal.invariant-places
invariant-places l =
    with_front l.places.items (chained (place l.files l.instrs) behind_place (l.count - l.counter) l.least l.input.rest.now) ≡ chained (place l.files l.instrs) behind_place l.count 0 l.fn.input.rest.now
