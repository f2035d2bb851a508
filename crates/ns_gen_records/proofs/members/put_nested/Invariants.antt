use Rattle.std.proofs.Common.{◌≡◌, ◌++◌, drop}
use Rattle.ns_tree.specs.PlainOf.{members_of}
use Rattle.ns_resolved.specs.Classes as c
use Rattle.ns_gen_records.proofs.members.put_nested.Given as goal

abbrev pub invariant-loop-member : goal.invariant-loop-member
invariant-loop-member l = l.all.items ++ c.members_nested l.number (members_of (drop l.member-index l.members)) ≡ l.fn.all.items ++ c.members_nested l.fn.first (members_of l.members)
