use Rattle.std.proofs.Common.{◌≡◌, ◌++◌, drop}
use Rattle.ns_tree.specs.PlainOf.{members_of}
use Rattle.ns_scope.specs.Bodies.{members_bodies}
use Rattle.ns_scope_bodies.proofs.bodies.+bodies.Given as goal

abbrev pub invariant-put_members-loop-member : goal.invariant-put_members-loop-member
invariant-put_members-loop-member l = l.all.items ++ members_bodies l.classes (members_of (drop l.member-index l.members)) ≡ l.fn.all.items ++ members_bodies l.classes (members_of l.members)
