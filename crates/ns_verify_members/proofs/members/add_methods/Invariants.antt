use Rattle.std.proofs.Common.{◌≡◌, ◌++◌, drop}
use Rattle.ns_verify_members.specs.Numbers.{method_numbers}
use Rattle.ns_verify_members.proofs.members.add_methods.Given as goal

abbrev pub invariant-methods : goal.invariant-methods
invariant-methods l =
    l.found.items ++ method_numbers l.code.names (drop l.method-index l.methods) ≡ l.fn.found.items ++ method_numbers l.code.names l.methods
