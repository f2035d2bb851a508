use Rattle.std.proofs.Common.{◌≡◌, drop}
use Rattle.ns_image_list.specs.Listing.{numbered, body_lines}
use Rattle.ns_image_list.specs.Output.{after}
use Rattle.ns_image_list.proofs.list.put_bodies.Given as goal

abbrev pub invariant-bodies : goal.invariant-bodies
invariant-bodies l =
    after l.out (numbered (body_lines l.source) l.place (drop l.place l.source.bodies)) ≡ after l.fn.out (numbered (body_lines l.source) 0 l.source.bodies)
