use Rattle.std.proofs.Common.{◌≡◌, drop}
use Rattle.ns_image_list.specs.Listing.{numbered, local_line}
use Rattle.ns_image_list.specs.Output.{after}
use Rattle.ns_image_list.proofs.list.put_locals.Given as goal

abbrev pub invariant-names : goal.invariant-names
invariant-names l =
    after l.out (numbered local_line l.place (drop l.place l.names)) ≡ after l.fn.out (numbered local_line 0 l.names)
