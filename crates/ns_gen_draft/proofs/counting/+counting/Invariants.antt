use Rattle.std.proofs.Common.{◌≡◌, ◌+◌, drop}
use Rattle.ns_tree.specs.PlainOf.{cascade_of, keys_of, opers_of, slots_of, exprs_of, statement_list_of}
use Rattle.ns_gen_draft.specs.Counting.{cascade_count, keys_count, opers_count, items_count, slots_count, list_count}
use Rattle.ns_gen_draft.proofs.counting.+counting.Given as goal

abbrev pub invariant-count_cascade-loop-message : goal.invariant-count_cascade-loop-message
invariant-count_cascade-loop-message l = l.count + cascade_count (cascade_of (drop l.message-index l.messages)) ≡ l.fn.count + cascade_count (cascade_of l.messages)

abbrev pub invariant-count_keys-loop-key : goal.invariant-count_keys-loop-key
invariant-count_keys-loop-key l = l.count + keys_count (keys_of (drop l.key-index l.keys)) ≡ l.fn.count + keys_count (keys_of l.keys)

abbrev pub invariant-count_opers-loop-oper : goal.invariant-count_opers-loop-oper
invariant-count_opers-loop-oper l = l.count + opers_count (opers_of (drop l.oper-index l.opers)) ≡ l.fn.count + opers_count (opers_of l.opers)

abbrev pub invariant-count_items-loop-item : goal.invariant-count_items-loop-item
invariant-count_items-loop-item l = l.count + items_count (exprs_of (drop l.item-index l.items)) ≡ l.fn.count + items_count (exprs_of l.items)

abbrev pub invariant-count_slots-loop-slot : goal.invariant-count_slots-loop-slot
invariant-count_slots-loop-slot l = l.count + slots_count (slots_of (drop l.slot-index l.slots)) ≡ l.fn.count + slots_count (slots_of l.slots)

abbrev pub invariant-count_list-loop-statement : goal.invariant-count_list-loop-statement
invariant-count_list-loop-statement l = l.count + list_count (statement_list_of (drop l.statement-index l.list)) ≡ l.fn.count + list_count (statement_list_of l.list)
