use Rattle.std.proofs.Common.{◌≡◌, ◌+◌, length, drop}
use Rattle.ns_tree.specs.PlainOf.{keys_of, opers_of, exprs_of, cascade_of}
use Rattle.ns_scope.specs.Bodies.{keys_blocks, opers_blocks, items_blocks, cascade_blocks}
use Rattle.ns_resolved.specs.Expressions.{keys_nodes, items_nodes}
use Rattle.ns_gen_draft.specs.Standing.{standing}
use Rattle.ns_gen_exprs.specs.Sending.{with_nodes, with_opers, opers_left}
use Rattle.ns_gen_exprs.specs.Cascading.{with_rest}
use Rattle.ns_gen_exprs.proofs.+expressions.Given as goal

abbrev pub invariant-expressions::put_opers-loop-oper : goal.invariant-expressions::put_opers-loop-oper
invariant-expressions::put_opers-loop-oper l =
    (with_opers (standing l.here) l.next l.receiver (opers_of (drop l.oper-index l.opers)) l.writer
    ≡ with_opers (standing l.here) l.fn.next l.fn.receiver (opers_of l.opers) l.fn.writer)
    × (opers_left l.receiver (opers_of (drop l.oper-index l.opers)) ≡ opers_left l.fn.receiver (opers_of l.opers))
    × (l.next + length (opers_blocks l.here.scope.now (opers_of (drop l.oper-index l.opers))) ≡ l.fn.next + length (opers_blocks l.here.scope.now (opers_of l.opers)))

abbrev pub invariant-expressions::put_keys-loop-key : goal.invariant-expressions::put_keys-loop-key
invariant-expressions::put_keys-loop-key l =
    (with_nodes (keys_nodes (standing l.here) l.next (keys_of (drop l.key-index l.keys))) l.writer
    ≡ with_nodes (keys_nodes (standing l.here) l.fn.next (keys_of l.keys)) l.fn.writer)
    × (l.next + length (keys_blocks l.here.scope.now (keys_of (drop l.key-index l.keys))) ≡ l.fn.next + length (keys_blocks l.here.scope.now (keys_of l.keys)))

abbrev pub invariant-expressions::put_items-loop-item : goal.invariant-expressions::put_items-loop-item
invariant-expressions::put_items-loop-item l =
    (with_nodes (items_nodes (standing l.here) l.next (exprs_of (drop l.item-index l.items))) l.writer
    ≡ with_nodes (items_nodes (standing l.here) l.fn.next (exprs_of l.items)) l.fn.writer)
    × (l.next + length (items_blocks l.here.scope.now (exprs_of (drop l.item-index l.items))) ≡ l.fn.next + length (items_blocks l.here.scope.now (exprs_of l.items)))

abbrev pub invariant-cascades::put_rest-loop-message : goal.invariant-cascades::put_rest-loop-message
invariant-cascades::put_rest-loop-message l =
    (l.left ≡ length (drop l.message-index l.messages))
    × (with_rest (standing l.here) l.next l.receiver (cascade_of (drop l.message-index l.messages)) l.writer
    ≡ with_rest (standing l.here) l.fn.next l.receiver (cascade_of l.messages) l.fn.writer)
    × (l.next + length (cascade_blocks l.here.scope.now (cascade_of (drop l.message-index l.messages))) ≡ l.fn.next + length (cascade_blocks l.here.scope.now (cascade_of l.messages)))
