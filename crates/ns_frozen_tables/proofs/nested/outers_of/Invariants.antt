use Rattle.std.proofs.Common.{◌≡◌}
use Rattle.ns_frozen_tables.specs.Nested.{AreOuters}
use Rattle.ns_frozen_tables.proofs.nested.outers_of.Given as goal

abbrev pub invariant-classes : goal.invariant-classes
invariant-classes l = (l.decl ≡ l.class-index) × AreOuters l.code l.outers.items
