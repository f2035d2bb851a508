use Rattle.std.proofs.Common.{◌≡◌, drop}
use Rattle.std.specs.Prelude.{flat_map}
use Rattle.ns_image_list.specs.Output.{after}
use Rattle.ns_image_members.specs.Members.{nested_line}
use Rattle.ns_image_members.proofs.classes.put_nested.Given as goal

abbrev pub invariant-nested : goal.invariant-nested
invariant-nested l = after l.out (flat_map (nested_line l.source) (drop l.one-index l.nested)) ≡ after l.fn.out (flat_map (nested_line l.source) l.nested)
