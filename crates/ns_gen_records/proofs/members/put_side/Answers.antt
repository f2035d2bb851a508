use Rattle.ns_tree.specs.laws.Nodes.{side_out}
use Rattle.ns_gen_records.proofs.members.put_side.Goals as goal

pub returns-clause-put : goal.returns-clause-put
returns-clause-put c = rw (side_out c.args.members.now) (rw c.deref.ensures.value at c.in_ok-put_methods.ensures.put)

pub returns-clause-next : goal.returns-clause-next
returns-clause-next c = rw (side_out c.args.members.now) (rw c.deref.ensures.value at c.in_ok-put_methods.ensures.next)
