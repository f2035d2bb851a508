use Rattle.ns_tree.specs.declared.tree.Statements.{out-Statements}
use Rattle.ns_tree.specs.PlainOf.{bars_of, statement_list_of}
use Rattle.ns_tree.specs.laws.Nodes.{statements_out}
use Rattle.ns_gen_draft.specs.Standing.{standing}
use Rattle.ns_gen_bodies.proofs.Stepping.{block_done}
use Rattle.ns_gen_draft.specs.laws.Numbers.{behind_both}
use Rattle.ns_gen_bodies.proofs.steps.put_block_body.Goals as goal

pub returns-clause-put : goal.returns-clause-put
returns-clause-put c =
    rw (statements_out c.args.body.now)
    (block_done (standing c.args.here.now) c.args.next.now c.put_bars.new.next c.args.params (bars_of c.args.slots.now)
    (statement_list_of (out-Statements c.args.body.now).list.items) (out-Statements c.args.body.now).stop c.args.writer.now c.put_bars.new.writer c.put_block_steps.new.writer
    c.in_ok-put_bars.ensures.put c.in_ok-put_bars.ensures.next (rw c.deref.ensures.value at c.in_ok-put_block_steps.ensures.put))

pub returns-clause-next : goal.returns-clause-next
returns-clause-next c =
    rw (statements_out c.args.body.now)
    (behind_both _ _ c.args.next.now c.put_bars.new.next c.put_block_steps.new.next c.in_ok-put_bars.ensures.next
    (rw c.deref.ensures.value at c.in_ok-put_block_steps.ensures.next))
