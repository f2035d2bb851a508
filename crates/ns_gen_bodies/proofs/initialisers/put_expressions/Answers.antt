use Rattle.ns_tree.specs.laws.Nodes.{statements_out}
use Rattle.ns_gen_bodies.proofs.initialisers.put_expressions.Goals as goal

pub returns-clause-put : goal.returns-clause-put
returns-clause-put c = rw (statements_out c.args.body.now) (rw c.deref.ensures.value at c.in_ok-put_list.ensures.put)

pub returns-clause-next : goal.returns-clause-next
returns-clause-next c = rw (statements_out c.args.body.now) (rw c.deref.ensures.value at c.in_ok-put_list.ensures.next)
