use Rattle.std.proofs.Common.{◌≡◌, ◌++◌, drop}
use Rattle.ns_code.specs.Listed.{under_names}
use Rattle.ns_code.specs.MemberNames.{mutable_names}
use Rattle.ns_code.proofs.naming.put_setters.Given as goal

abbrev pub invariant-slots : goal.invariant-slots
invariant-slots l =
    l.listed.items ++ under_names l.declaration (mutable_names (drop l.slot-index l.slots)) ≡ l.fn.listed.items ++ under_names l.declaration (mutable_names l.slots)
