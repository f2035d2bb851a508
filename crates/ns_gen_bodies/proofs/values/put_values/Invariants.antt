use Rattle.std.proofs.Common.{◌≡◌, ◌+◌, length, drop}
use Rattle.ns_tree.specs.PlainOf.{slots_of}
use Rattle.ns_scope.specs.Bodies.{slots_blocks}
use Rattle.ns_resolved.specs.Statements.{slots_values}
use Rattle.ns_gen_draft.specs.Standing.{standing}
use Rattle.ns_gen_bodies.specs.Valuing.{with_values}
use Rattle.ns_gen_bodies.proofs.values.put_values.Given as goal

abbrev pub invariant-loop-slot : goal.invariant-loop-slot
invariant-loop-slot l =
    (with_values l.stores (slots_values (standing l.here) l.next l.index (slots_of (drop l.slot-index l.slots))) l.writer
    ≡ with_values l.stores (slots_values (standing l.here) l.fn.next l.fn.first (slots_of l.slots)) l.fn.writer)
    × (l.next + length (slots_blocks l.here.scope.now (slots_of (drop l.slot-index l.slots))) ≡ l.fn.next + length (slots_blocks l.here.scope.now (slots_of l.slots)))
