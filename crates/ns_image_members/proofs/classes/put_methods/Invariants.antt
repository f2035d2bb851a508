use Rattle.std.proofs.Common.{◌≡◌, drop}
use Rattle.std.specs.Prelude.{flat_map}
use Rattle.ns_image_list.specs.Output.{after}
use Rattle.ns_image_members.specs.Members.{method_line}
use Rattle.ns_image_members.proofs.classes.put_methods.Given as goal

abbrev pub invariant-methods : goal.invariant-methods
invariant-methods l = after l.out (flat_map (method_line l.source l.side) (drop l.method-index l.methods)) ≡ after l.fn.out (flat_map (method_line l.source l.side) l.methods)
