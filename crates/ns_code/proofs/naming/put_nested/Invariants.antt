use Rattle.std.proofs.Common.{◌≡◌, ◌++◌, drop}
use Rattle.ns_code.specs.Listed.{under_names}
use Rattle.ns_code.specs.MemberNames.{nested_names}
use Rattle.ns_code.proofs.naming.put_nested.Given as goal

abbrev pub invariant-nested : goal.invariant-nested
invariant-nested l =
    l.listed.items ++ under_names l.declaration (nested_names l.classes (drop l.one-index l.nested)) ≡ l.fn.listed.items ++ under_names l.declaration (nested_names l.classes l.nested)
