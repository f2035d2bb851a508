use Rattle.std.proofs.Common.{◌≡◌, ◌++◌, drop}
use Rattle.ns_tree.specs.PlainOf.{members_of}
use Rattle.ns_scope.specs.Bodies.{methods_bodies}
use Rattle.ns_scope_bodies.proofs.bodies.put_methods.Given as goal

abbrev pub invariant-loop-member : goal.invariant-loop-member
invariant-loop-member l = l.all.items ++ methods_bodies l.classes l.side (members_of (drop l.member-index l.members)) ≡ l.fn.all.items ++ methods_bodies l.classes l.side (members_of l.members)
