use Rattle.std.proofs.Common.{◌≡◌, ◌++◌, drop}
use Rattle.ns_tree.specs.Flat.{flat_members}
use Rattle.ns_tree.specs.PlainOf.{members_of}
use Rattle.ns_print.specs.Printed.{lines}
use Rattle.ns_print.proofs.declarations.+declarations.Given as goal

abbrev pub invariant-put_members-loop-member : goal.invariant-put_members-loop-member
invariant-put_members-loop-member l = l.out.items ++ lines (flat_members (members_of (drop l.member-index l.members))) ≡ l.fn.out.items ++ lines (flat_members (members_of l.members))
