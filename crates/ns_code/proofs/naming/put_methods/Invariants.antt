use Rattle.std.proofs.Common.{◌≡◌, ◌++◌, drop}
use Rattle.ns_code.specs.Listed.{under_names}
use Rattle.ns_code.specs.MemberNames.{method_names}
use Rattle.ns_code.proofs.naming.put_methods.Given as goal

abbrev pub invariant-methods : goal.invariant-methods
invariant-methods l =
    l.listed.items ++ under_names l.declaration (method_names (drop l.method-index l.methods)) ≡ l.fn.listed.items ++ under_names l.declaration (method_names l.methods)
