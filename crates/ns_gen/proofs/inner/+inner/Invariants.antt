use Rattle.std.proofs.Common.{◌≡◌, ◌+◌, length, drop}
use Rattle.ns_tree.specs.PlainOf.{cascade_of, keys_of, opers_of, slots_of, exprs_of, statement_list_of}
use Rattle.ns_scope.specs.Bodies.{cascade_blocks, keys_blocks, opers_blocks, items_blocks, slots_blocks, list_blocks}
use Rattle.ns_resolved.specs.Statements.{cascade_bodies, keys_bodies, opers_bodies, items_bodies, slots_bodies, list_bodies}
use Rattle.ns_gen_draft.specs.Standing.{standing}
use Rattle.ns_gen_bodies.specs.Coding.{with_bodies}
use Rattle.ns_gen.proofs.inner.+inner.Given as goal

abbrev pub invariant-put_cascade-loop-message : goal.invariant-put_cascade-loop-message
invariant-put_cascade-loop-message l =
    (with_bodies (cascade_bodies (standing l.here) l.next (cascade_of (drop l.message-index l.messages))) l.output
    ≡ with_bodies (cascade_bodies (standing l.here) l.fn.next (cascade_of l.messages)) l.fn.output)
    × (l.next + length (cascade_blocks l.here.scope.now (cascade_of (drop l.message-index l.messages))) ≡ l.fn.next + length (cascade_blocks l.here.scope.now (cascade_of l.messages)))

abbrev pub invariant-put_keys-loop-key : goal.invariant-put_keys-loop-key
invariant-put_keys-loop-key l =
    (with_bodies (keys_bodies (standing l.here) l.next (keys_of (drop l.key-index l.keys))) l.output
    ≡ with_bodies (keys_bodies (standing l.here) l.fn.next (keys_of l.keys)) l.fn.output)
    × (l.next + length (keys_blocks l.here.scope.now (keys_of (drop l.key-index l.keys))) ≡ l.fn.next + length (keys_blocks l.here.scope.now (keys_of l.keys)))

abbrev pub invariant-put_opers-loop-oper : goal.invariant-put_opers-loop-oper
invariant-put_opers-loop-oper l =
    (with_bodies (opers_bodies (standing l.here) l.next (opers_of (drop l.oper-index l.opers))) l.output
    ≡ with_bodies (opers_bodies (standing l.here) l.fn.next (opers_of l.opers)) l.fn.output)
    × (l.next + length (opers_blocks l.here.scope.now (opers_of (drop l.oper-index l.opers))) ≡ l.fn.next + length (opers_blocks l.here.scope.now (opers_of l.opers)))

abbrev pub invariant-put_items-loop-item : goal.invariant-put_items-loop-item
invariant-put_items-loop-item l =
    (with_bodies (items_bodies (standing l.here) l.next (exprs_of (drop l.item-index l.items))) l.output
    ≡ with_bodies (items_bodies (standing l.here) l.fn.next (exprs_of l.items)) l.fn.output)
    × (l.next + length (items_blocks l.here.scope.now (exprs_of (drop l.item-index l.items))) ≡ l.fn.next + length (items_blocks l.here.scope.now (exprs_of l.items)))

abbrev pub invariant-put_slots-loop-slot : goal.invariant-put_slots-loop-slot
invariant-put_slots-loop-slot l =
    (with_bodies (slots_bodies (standing l.here) l.next (slots_of (drop l.slot-index l.slots))) l.output
    ≡ with_bodies (slots_bodies (standing l.here) l.fn.next (slots_of l.slots)) l.fn.output)
    × (l.next + length (slots_blocks l.here.scope.now (slots_of (drop l.slot-index l.slots))) ≡ l.fn.next + length (slots_blocks l.here.scope.now (slots_of l.slots)))

abbrev pub invariant-put_list-loop-statement : goal.invariant-put_list-loop-statement
invariant-put_list-loop-statement l =
    (with_bodies (list_bodies (standing l.here) l.next (statement_list_of (drop l.statement-index l.list))) l.output
    ≡ with_bodies (list_bodies (standing l.here) l.fn.next (statement_list_of l.list)) l.fn.output)
    × (l.next + length (list_blocks l.here.scope.now (statement_list_of (drop l.statement-index l.list))) ≡ l.fn.next + length (list_blocks l.here.scope.now (statement_list_of l.list)))
