use Rattle.std.proofs.Common.{◌∙◌, ap}
use Rattle.ns_tree.specs.declared.tree.Side.{out-Side}
use Rattle.ns_tree.specs.PlainOf.{members_of}
use Rattle.ns_tree.specs.laws.Nodes.{side_out}
use Rattle.ns_resolved.specs.Classes as m
use Rattle.ns_gen_records.proofs.members.nested.Goals as goal

pub returns : goal.returns
returns c =
    rw (side_out c.args.side.now)
    ((rw c.deref.ensures.value at c.in_ok-all.ensures) ∙ ap (λ n. m.members_nested n (members_of (out-Side c.args.side.now).members.items)) c.in_ok-advance.ensures)
