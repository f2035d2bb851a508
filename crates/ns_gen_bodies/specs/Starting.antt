-- What is written of an initialiser and of a clause.
use Rattle.std.specs.Prelude.{ℕ, ◌+◌, List, [], ◌∷◌, map, length, Option}
use Rattle.ns_base.specs.declared.place.Place.{Place}
use Rattle.ns_tree.specs.declared.tree.Named.{Named}
use Rattle.ns_tree.specs.Plain as p
use Rattle.ns_scope.specs.Bodies as b
use Rattle.ns_code.specs.declared.instruction.Instr.TheVariants as i
use Rattle.ns_resolved.specs.Program as m
use Rattle.ns_resolved.specs.Expressions as e
use Rattle.ns_resolved.specs.Statements.{bars_values, statements_steps}
use Rattle.ns_resolved.specs.Classes.{super_arguments}
use Rattle.ns_resolved.specs.Tables.{step_node}
use Rattle.ns_gen_code.specs.Code.{does, starts, how_many}
use Rattle.ns_gen_draft.specs.Drafts.{Written, with_line}
use Rattle.ns_gen_exprs.specs.Sending.{with_nodes}
use Rattle.ns_gen_bodies.specs.Valuing.{with_ended}

-- with the arguments of the message that initialises the superclass part, and its start
abbrev pub with_start : Place → m.Nodes → Written → Written
with_start place arguments before = with_line (with_nodes arguments before) (starts place (how_many arguments))

-- with the expressions of an initialiser, which ends with self
abbrev pub with_expressions : List m.Node → Written → Written
with_expressions [] before = with_line before (does i.ReturnSelf)
with_expressions (node ∷ nodes) before = with_expressions nodes (with_ended node i.Pop before)

-- the expressions of statements
abbrev pub expressions_of : e.Standing → ℕ → p.Statements → List m.Node
expressions_of here next body = map step_node (statements_steps here next body)

-- The start of an object of a class with this name, clause, slots and statements; its first block has that number.
abbrev pub start_of : e.Standing → ℕ → Named → Option p.SuperClause → p.Bars → p.Statements → m.Initialiser
start_of here next name clause bars body =
    record {
      place = e.place_at here.marks name.at;
      arguments = super_arguments here next clause;
      slots = bars_values here (next + length (b.super_blocks here.scope clause)) 0 bars;
      expressions = expressions_of here (next + length (b.super_blocks here.scope clause) + length (b.bars_blocks here.scope bars)) body;
    }
