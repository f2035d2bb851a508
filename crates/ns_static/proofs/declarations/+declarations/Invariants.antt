use Rattle.std.proofs.Common.{◌≡◌, drop}
use Rattle.ns_tree.specs.PlainOf.{members_of}
use Rattle.ns_static_rules.specs.Faults.{members_faults}
use Rattle.ns_static_rules.specs.Walk.{with_found}
use Rattle.ns_static.proofs.declarations.+declarations.Given as goal

abbrev pub invariant-members_faults-loop-member : goal.invariant-members_faults-loop-member
invariant-members_faults-loop-member l = with_found l.checker (members_faults l.classes l.code_side (members_of (drop l.member-index l.members))) ≡ with_found l.fn.checker (members_faults l.classes l.code_side (members_of l.members))
