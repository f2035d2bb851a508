use Rattle.std.proofs.Common.{◌≡◌, ◌+◌, ◌++◌, length, drop}
use Rattle.ns_tree.specs.PlainOf.{members_of}
use Rattle.ns_scope.specs.Bodies as b
use Rattle.ns_resolved.specs.Classes as c
use Rattle.ns_gen_draft.specs.Standing.{around_of}
use Rattle.ns_gen_records.proofs.declared.+declared.Given as goal

abbrev pub invariant-put_members-loop-member : goal.invariant-put_members-loop-member
invariant-put_members-loop-member l =
    (l.all.items ++ c.members_declared (around_of l.around) l.number l.next (members_of (drop l.member-index l.members))
    ≡ l.fn.all.items ++ c.members_declared (around_of l.around) l.fn.number l.fn.next (members_of l.members))
    × (l.number + c.members_count (members_of (drop l.member-index l.members)) ≡ l.fn.number + c.members_count (members_of l.members))
    × (l.next + length (b.members_bodies l.around.classes.now (members_of (drop l.member-index l.members)))
    ≡ l.fn.next + length (b.members_bodies l.around.classes.now (members_of l.members)))
