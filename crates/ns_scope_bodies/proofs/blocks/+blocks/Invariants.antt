use Rattle.std.proofs.Common.{◌≡◌, ◌++◌, drop}
use Rattle.ns_tree.specs.PlainOf.{cascade_of, keys_of, opers_of, slots_of, exprs_of, statement_list_of}
use Rattle.ns_scope.specs.Bodies.{cascade_blocks, keys_blocks, opers_blocks, items_blocks, slots_blocks, list_blocks}
use Rattle.ns_scope_bodies.proofs.blocks.+blocks.Given as goal

abbrev pub invariant-put_cascade-loop-message : goal.invariant-put_cascade-loop-message
invariant-put_cascade-loop-message l = l.all.items ++ cascade_blocks l.scope (cascade_of (drop l.message-index l.messages)) ≡ l.fn.all.items ++ cascade_blocks l.scope (cascade_of l.messages)

abbrev pub invariant-put_keys-loop-key : goal.invariant-put_keys-loop-key
invariant-put_keys-loop-key l = l.all.items ++ keys_blocks l.scope (keys_of (drop l.key-index l.keys)) ≡ l.fn.all.items ++ keys_blocks l.scope (keys_of l.keys)

abbrev pub invariant-put_opers-loop-oper : goal.invariant-put_opers-loop-oper
invariant-put_opers-loop-oper l = l.all.items ++ opers_blocks l.scope (opers_of (drop l.oper-index l.opers)) ≡ l.fn.all.items ++ opers_blocks l.scope (opers_of l.opers)

abbrev pub invariant-put_items-loop-item : goal.invariant-put_items-loop-item
invariant-put_items-loop-item l = l.all.items ++ items_blocks l.scope (exprs_of (drop l.item-index l.items)) ≡ l.fn.all.items ++ items_blocks l.scope (exprs_of l.items)

abbrev pub invariant-put_slots-loop-slot : goal.invariant-put_slots-loop-slot
invariant-put_slots-loop-slot l = l.all.items ++ slots_blocks l.scope (slots_of (drop l.slot-index l.slots)) ≡ l.fn.all.items ++ slots_blocks l.scope (slots_of l.slots)

abbrev pub invariant-put_list-loop-statement : goal.invariant-put_list-loop-statement
invariant-put_list-loop-statement l = l.all.items ++ list_blocks l.scope (statement_list_of (drop l.statement-index l.list)) ≡ l.fn.all.items ++ list_blocks l.scope (statement_list_of l.list)
