use Rattle.std.proofs.Common.{◌≡◌, ◌++◌, drop}
use Rattle.ns_machine_plan.specs.Members.{method_entries}
use Rattle.ns_machine_plan.proofs.members.add_methods.Given as goal

abbrev pub invariant-methods : goal.invariant-methods
invariant-methods l = l.found.items ++ method_entries (drop l.method-index l.methods) ≡ l.fn.found.items ++ method_entries l.methods
