use Rattle.std.proofs.Common.{◌≡◌, drop}
use Rattle.ns_image_list.specs.Listing.{numbered}
use Rattle.ns_image_list.specs.Output.{after}
use Rattle.ns_image_members.specs.Members.{class_lines}
use Rattle.ns_image_members.proofs.classes.put_classes.Given as goal

abbrev pub invariant-classes : goal.invariant-classes
invariant-classes l =
    after l.out (numbered (class_lines l.source) l.place (drop l.place l.source.classes)) ≡ after l.fn.out (numbered (class_lines l.source) 0 l.source.classes)
