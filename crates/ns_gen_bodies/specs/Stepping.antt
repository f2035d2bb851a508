-- What is written of a body: its steps, and the whole.
use Rattle.std.specs.Prelude.{ℕ, ◌+◌, Bool, true, false, List, [], ◌∷◌, ◌++◌, length}
use Rattle.ns_code.specs.declared.instruction.Instr.{Instr}
use Rattle.ns_code.specs.declared.instruction.Instr.TheVariants as i
use Rattle.ns_resolved.specs.Program as m
use Rattle.ns_tree.specs.Plain as p
use Rattle.ns_scope.specs.Bodies as b
use Rattle.ns_resolved.specs.Expressions as e
use Rattle.ns_resolved.specs.Statements.{bars_values, statements_steps}
use Rattle.ns_resolved.specs.Tables.{put_all, node_names, nodes_names, node_texts, nodes_texts, step_node, gathered}
use Rattle.ns_gen_code.specs.Code.{does, body_lines}
use Rattle.ns_gen_draft.specs.Drafts.{Written, filled, with_line}
use Rattle.ns_gen_bodies.specs.Valuing.{with_ended}

-- ---- methods

abbrev pub method_end : m.Step → Instr
method_end (m.evaluate node) = i.Pop
method_end (m.return node) = i.Return

abbrev pub is_return : m.Step → Bool
is_return (m.evaluate node) = false
is_return (m.return node) = true

abbrev pub with_method_step : m.Step → Written → Written
with_method_step step before = with_ended (step_node step) (method_end step) before

-- with the end of a method, which is self unless its last step returned
abbrev pub with_self : Bool → Written → Written
with_self true before = before
with_self false before = with_line before (does i.ReturnSelf)

-- with the steps of a method, before which one returned or not, and its end
abbrev pub with_method : List m.Step → Bool → Written → Written
with_method [] returned before = with_self returned before
with_method (step ∷ steps) returned before = with_method steps (is_return step) (with_method_step step before)

-- ---- blocks

abbrev pub block_end : Bool → m.Step → Instr
block_end true (m.evaluate node) = i.Return
block_end false (m.evaluate node) = i.Pop
block_end true (m.return node) = i.ReturnHome
block_end false (m.return node) = i.ReturnHome

-- with a step of a block, which is the last or not
abbrev pub with_block_step : Bool → m.Step → Written → Written
with_block_step last step before = with_ended (step_node step) (block_end last step) before

abbrev pub is_none : List m.Step → Bool
is_none [] = true
is_none (step ∷ steps) = false

abbrev pub with_block_steps : List m.Step → Written → Written
with_block_steps [] before = before
with_block_steps (step ∷ steps) before = with_block_steps steps (with_block_step (is_none steps) step before)

-- with the steps of a block; the value of one without steps is nil
abbrev pub with_block : List m.Step → Written → Written
with_block [] before = with_line (with_line before (does i.PushNil)) (does i.Return)
with_block (step ∷ steps) before = with_block_steps (step ∷ steps) before

-- ---- the whole

-- with all that a body does
abbrev pub with_body : m.Does → Written → Written
with_body body before =
    record {
      names = put_all before.names (gathered node_names nodes_names body);
      texts = before.texts ++ gathered node_texts nodes_texts body;
      lines = filled before.lines (body_lines (length before.texts) body);
    }

-- What a method or block does with these locals and statements, whose first block has that number; so many of its
-- locals are parameters.
abbrev pub routine_does : (List m.First → List m.Step → m.Does) → e.Standing → ℕ → ℕ → p.Bars → p.Statements → m.Does
routine_does kind here next params bars body =
    kind (bars_values here next params bars) (statements_steps here (next + length (b.bars_blocks here.scope bars)) body)
