use Rattle.std.proofs.Common.{◌≡◌, ◌+◌, length, drop}
use Rattle.ns_tree.specs.PlainOf.{statement_list_of}
use Rattle.ns_scope.specs.Bodies.{list_blocks}
use Rattle.ns_resolved.specs.Statements.{list_steps}
use Rattle.ns_gen_draft.specs.Standing.{standing}
use Rattle.ns_gen_bodies.specs.Stepping.{with_block_steps}
use Rattle.ns_gen_bodies.proofs.steps.put_steps.Given as goal

abbrev pub invariant-loop-statement : goal.invariant-loop-statement
invariant-loop-statement l =
    (l.left ≡ length (drop l.statement-index l.list))
    × (with_block_steps (list_steps (standing l.here) l.next (statement_list_of (drop l.statement-index l.list))) l.writer
    ≡ with_block_steps (list_steps (standing l.here) l.fn.next (statement_list_of l.list)) l.fn.writer)
    × (l.next + length (list_blocks l.here.scope.now (statement_list_of (drop l.statement-index l.list)))
    ≡ l.fn.next + length (list_blocks l.here.scope.now (statement_list_of l.list)))
