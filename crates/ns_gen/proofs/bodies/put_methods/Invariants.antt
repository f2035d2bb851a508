use Rattle.std.proofs.Common.{◌≡◌, ◌+◌, length, drop}
use Rattle.ns_tree.specs.PlainOf.{members_of}
use Rattle.ns_scope.specs.Bodies as b
use Rattle.ns_resolved.specs.Classes as c
use Rattle.ns_gen_bodies.specs.Coding.{with_bodies}
use Rattle.ns_gen_draft.specs.Standing.{around_of}
use Rattle.ns_gen.proofs.bodies.put_methods.Given as goal

abbrev pub invariant-loop-member : goal.invariant-loop-member
invariant-loop-member l =
    (with_bodies (c.members_methods (around_of l.around) l.side l.number l.next (members_of (drop l.member-index l.members))) l.output
    ≡ with_bodies (c.members_methods (around_of l.around) l.side l.number l.fn.next (members_of l.members)) l.fn.output)
    × (l.next + length (b.methods_bodies l.around.classes.now l.side (members_of (drop l.member-index l.members)))
    ≡ l.fn.next + length (b.methods_bodies l.around.classes.now l.side (members_of l.members)))
