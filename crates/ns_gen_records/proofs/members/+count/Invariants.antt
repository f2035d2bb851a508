use Rattle.std.proofs.Common.{◌≡◌, ◌+◌, drop}
use Rattle.ns_tree.specs.PlainOf.{members_of}
use Rattle.ns_resolved.specs.Classes as c
use Rattle.ns_gen_records.proofs.members.+count.Given as goal

abbrev pub invariant-count_members-loop-member : goal.invariant-count_members-loop-member
invariant-count_members-loop-member l = l.count + c.members_count (members_of (drop l.member-index l.members)) ≡ l.fn.count + c.members_count (members_of l.members)
