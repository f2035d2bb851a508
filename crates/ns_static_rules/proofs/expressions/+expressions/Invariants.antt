use Rattle.std.proofs.Common.{◌≡◌, drop}
use Rattle.ns_tree.specs.PlainOf.{cascade_of, keys_of, opers_of, slots_of, exprs_of, statement_list_of}
use Rattle.ns_static_rules.specs.Faults.{cascade_faults, keys_faults, opers_faults, items_faults, slots_faults, list_faults}
use Rattle.ns_static_rules.specs.Walk.{with_found}
use Rattle.ns_static_rules.proofs.expressions.+expressions.Given as goal

abbrev pub invariant-cascade_faults-loop-message : goal.invariant-cascade_faults-loop-message
invariant-cascade_faults-loop-message l = with_found l.checker (cascade_faults l.scope (cascade_of (drop l.message-index l.messages))) ≡ with_found l.fn.checker (cascade_faults l.scope (cascade_of l.messages))

abbrev pub invariant-keys_faults-loop-key : goal.invariant-keys_faults-loop-key
invariant-keys_faults-loop-key l = with_found l.checker (keys_faults l.scope (keys_of (drop l.key-index l.keys))) ≡ with_found l.fn.checker (keys_faults l.scope (keys_of l.keys))

abbrev pub invariant-opers_faults-loop-oper : goal.invariant-opers_faults-loop-oper
invariant-opers_faults-loop-oper l = with_found l.checker (opers_faults l.scope (opers_of (drop l.oper-index l.opers))) ≡ with_found l.fn.checker (opers_faults l.scope (opers_of l.opers))

abbrev pub invariant-items_faults-loop-item : goal.invariant-items_faults-loop-item
invariant-items_faults-loop-item l = with_found l.checker (items_faults l.scope (exprs_of (drop l.item-index l.items))) ≡ with_found l.fn.checker (items_faults l.scope (exprs_of l.items))

abbrev pub invariant-slots_faults-loop-slot : goal.invariant-slots_faults-loop-slot
invariant-slots_faults-loop-slot l = with_found l.checker (slots_faults l.scope (slots_of (drop l.slot-index l.slots))) ≡ with_found l.fn.checker (slots_faults l.scope (slots_of l.slots))

abbrev pub invariant-list_faults-loop-statement : goal.invariant-list_faults-loop-statement
invariant-list_faults-loop-statement l = with_found l.checker (list_faults l.scope (statement_list_of (drop l.statement-index l.list))) ≡ with_found l.fn.checker (list_faults l.scope (statement_list_of l.list))
