use Rattle.ns_frozen_tables.specs.Nested.{AreOuters}
use Rattle.ns_frozen_tables.proofs.nested.add_nested.Given as goal

abbrev pub invariant-nested : goal.invariant-nested
invariant-nested l = AreOuters l.code l.outers.items
