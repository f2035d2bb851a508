use Rattle.std.proofs.Common.{◌≡◌, ◌++◌, drop}
use Rattle.ns_machine_plan.specs.Members.{nested_entries}
use Rattle.ns_machine_plan.proofs.members.add_nested.Given as goal

abbrev pub invariant-nested : goal.invariant-nested
invariant-nested l = l.found.items ++ nested_entries l.code (drop l.one-index l.nested) ≡ l.fn.found.items ++ nested_entries l.code l.nested
