use Rattle.std.proofs.Common.{◌≡◌, ◌++◌, drop}
use Rattle.ns_code.specs.Soundness.{nested_names}
use Rattle.ns_verify_members.specs.Numbers.{there}
use Rattle.ns_verify_members.proofs.members.add_nested.Given as goal

abbrev pub invariant-nested : goal.invariant-nested
invariant-nested l =
    l.found.items ++ there l.code.names (nested_names l.code (drop l.one-index l.nested))
    ≡ l.fn.found.items ++ there l.code.names (nested_names l.code l.nested)
