use Rattle.std.proofs.Common.{◌≡◌, ◌++◌, ◌∷◌, drop, if◌then◌else◌}
use Rattle.ns_tree.specs.Flat.{bar, flat_cascade, flat_keys, flat_opers, flat_slots, flat_items, flat_more_items, flat_list, flat_more_list}
use Rattle.ns_tree.specs.PlainOf.{cascade_of, keys_of, opers_of, slots_of, exprs_of, statement_list_of}
use Rattle.ns_print.specs.Printed.{lines}
use Rattle.ns_print.proofs.expressions.+expressions.Given as goal

abbrev pub invariant-put_cascade-loop-message : goal.invariant-put_cascade-loop-message
invariant-put_cascade-loop-message l = l.out.items ++ lines (flat_cascade (cascade_of (drop l.message-index l.messages))) ≡ l.fn.out.items ++ lines (flat_cascade (cascade_of l.messages))

abbrev pub invariant-put_keys-loop-key : goal.invariant-put_keys-loop-key
invariant-put_keys-loop-key l = l.out.items ++ lines (flat_keys (keys_of (drop l.key-index l.keys))) ≡ l.fn.out.items ++ lines (flat_keys (keys_of l.keys))

abbrev pub invariant-put_opers-loop-oper : goal.invariant-put_opers-loop-oper
invariant-put_opers-loop-oper l = l.out.items ++ lines (flat_opers (opers_of (drop l.oper-index l.opers))) ≡ l.fn.out.items ++ lines (flat_opers (opers_of l.opers))

abbrev pub invariant-put_slots-loop-slot : goal.invariant-put_slots-loop-slot
invariant-put_slots-loop-slot l = l.out.items ++ lines (flat_slots (slots_of (drop l.slot-index l.slots))) ≡ l.fn.out.items ++ lines (bar ∷ flat_slots (slots_of l.slots))

abbrev pub invariant-put_items-loop-item : goal.invariant-put_items-loop-item
invariant-put_items-loop-item l = l.out.items ++ lines (if l.first then flat_items (exprs_of (drop l.item-index l.items)) else flat_more_items (exprs_of (drop l.item-index l.items))) ≡ l.fn.out.items ++ lines (flat_items (exprs_of l.items))

abbrev pub invariant-put_list-loop-statement : goal.invariant-put_list-loop-statement
invariant-put_list-loop-statement l = l.out.items ++ lines (if l.first then flat_list (statement_list_of (drop l.statement-index l.list)) else flat_more_list (statement_list_of (drop l.statement-index l.list))) ≡ l.fn.out.items ++ lines (flat_list (statement_list_of l.list))
