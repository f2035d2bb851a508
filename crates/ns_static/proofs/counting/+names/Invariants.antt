use Rattle.std.proofs.Common.{◌≡◌, ◌++◌, drop}
use Rattle.ns_tree.specs.PlainOf.{members_of}
use Rattle.ns_static_rules.specs.Faults.{members_names}
use Rattle.ns_static.proofs.counting.+names.Given as goal

abbrev pub invariant-members_names-loop-member : goal.invariant-members_names-loop-member
invariant-members_names-loop-member l = l.names.items ++ members_names (members_of (drop l.member-index l.members)) ≡ l.fn.names.items ++ members_names (members_of l.members)
