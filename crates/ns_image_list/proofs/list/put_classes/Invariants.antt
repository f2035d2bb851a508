use Rattle.std.proofs.Common.{◌≡◌, drop}
use Rattle.ns_image_list.specs.Listing.{numbered, class_line}
use Rattle.ns_image_list.specs.Output.{after}
use Rattle.ns_image_list.proofs.list.put_classes.Given as goal

abbrev pub invariant-classes : goal.invariant-classes
invariant-classes l =
    after l.out (numbered (class_line l.source) l.place (drop l.place l.source.classes)) ≡ after l.fn.out (numbered (class_line l.source) 0 l.source.classes)
