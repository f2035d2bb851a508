use Rattle.std.proofs.Common.{◌≡◌, ◌++◌, drop}
use Rattle.std.specs.Prelude.{flat_map}
use Rattle.ns_image_members.specs.Named.{method_records}
use Rattle.ns_image_members.proofs.named.method_records.Given as goal

abbrev pub invariant-classes : goal.invariant-classes
invariant-classes l = l.records.items ++ flat_map method_records (drop l.class-index l.classes) ≡ flat_map method_records l.classes
