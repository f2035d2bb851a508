use Rattle.std.proofs.Common.{◌≡◌, ◌++◌, drop}
use Rattle.ns_tree.specs.PlainOf.{members_of}
use Rattle.ns_scope.specs.Names.{members_named}
use Rattle.ns_scope.proofs.names.put_members.Given as goal

abbrev pub invariant-loop-member : goal.invariant-loop-member
invariant-loop-member l = l.all.items ++ members_named l.other (members_of (drop l.member-index l.members)) ≡ l.fn.all.items ++ members_named l.other (members_of l.members)
