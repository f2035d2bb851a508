use Rattle.std.proofs.Common.{◌≡◌, ◌+◌, ◌++◌, length, drop}
use Rattle.ns_tree.specs.PlainOf.{members_of}
use Rattle.ns_scope.specs.Bodies as b
use Rattle.ns_resolved.specs.Classes as c
use Rattle.ns_gen_draft.specs.Standing.{around_of}
use Rattle.ns_gen_records.proofs.members.put_methods.Given as goal

abbrev pub invariant-loop-member : goal.invariant-loop-member
invariant-loop-member l =
    (l.all.items ++ c.methods_listed (around_of l.around) l.side l.next l.other (members_of (drop l.member-index l.members))
    ≡ l.fn.all.items ++ c.methods_listed (around_of l.around) l.side l.fn.next l.other (members_of l.members))
    × (l.next + length (b.methods_bodies l.around.classes.now l.side (members_of (drop l.member-index l.members)))
    ≡ l.fn.next + length (b.methods_bodies l.around.classes.now l.side (members_of l.members)))
