use Rattle.std.proofs.Common.{◌≡◌, ◌++◌, drop}
use Rattle.std.specs.Prelude.{map}
use Rattle.ns_image_members.specs.Named.{method_record}
use Rattle.ns_image_members.proofs.named.put_methods.Given as goal

abbrev pub invariant-methods : goal.invariant-methods
invariant-methods l = l.records.items ++ map method_record (drop l.method-index l.methods) ≡ l.fn.records.items ++ map method_record l.methods
