use Rattle.std.proofs.Common.{◌≡◌, drop}
use Rattle.ns_image_list.specs.Listing.{numbered}
use Rattle.ns_image_list.specs.Output.{after}
use Rattle.ns_image_members.specs.Members.{body_lines}
use Rattle.ns_image_members.proofs.bodies.put_bodies.Given as goal

abbrev pub invariant-bodies : goal.invariant-bodies
invariant-bodies l =
    after l.out (numbered (body_lines l.source l.names) l.place (drop l.place l.source.bodies)) ≡ after l.fn.out (numbered (body_lines l.source l.names) 0 l.source.bodies)
