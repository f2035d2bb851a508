-- The parts of an initialiser in turn are the initialiser.
use Rattle.std.proofs.Common.{◌≡◌, ℕ, ◌+◌, List, [], ◌∷◌, ◌++◌, length, flat_map, refl, sym, ap, ◌∙◌, append-nil, append_assoc, length-append, arith}
use Rattle.std.specs.Prelude.{Option}
use Rattle.ns_tree.specs.declared.tree.Named.{Named}
use Rattle.ns_tree.specs.Plain as p
use Rattle.ns_scope.specs.declared.scope.Scope.{Scope}
use Rattle.ns_scope.specs.Bodies as b
use Rattle.ns_code.specs.declared.instruction.Instr.TheVariants as i
use Rattle.ns_resolved.specs.Program as m
use Rattle.ns_resolved.specs.Expressions as e
use Rattle.ns_resolved.specs.Statements.{bars_values}
use Rattle.ns_resolved.specs.Classes.{super_arguments}
use Rattle.ns_resolved.specs.Tables.{node_names, nodes_names, node_texts, nodes_texts, value_of}
use Rattle.ns_gen_code.specs.Code.{CodeLine, does, sends, plain, starts, how_many, nodes_lines, slots_lines, expressions_lines}
use Rattle.ns_gen_draft.specs.Drafts.{Written, filled, with_line, with_name}
use Rattle.ns_gen_draft.specs.laws.Filling.{filled_none, filled_more}
use Rattle.ns_gen_exprs.specs.Sending.{with_lines, with_node, with_nodes, with_message}
use Rattle.ns_gen_bodies.specs.Valuing.{with_ended, with_values}
use Rattle.ns_gen_bodies.specs.declared.values.Stores.TheVariants.{Slots}
use Rattle.ns_gen_bodies.specs.Stepping.{with_body}
use Rattle.ns_gen_exprs.specs.declared.receiver.Receiver.TheVariants as v
use Rattle.ns_gen_bodies.specs.Starting.{with_start, with_expressions, expressions_of, start_of}
use Rattle.ns_gen_draft.specs.laws.Writing.{written_is, put_more}
use Rattle.ns_gen_exprs.specs.laws.Composing.{behind_node, behind_nodes, binary_put, message_is}
use Rattle.ns_gen_bodies.proofs.Stepping.{with_all, all_same, node_put}

nodes_put : (nodes : m.Nodes) (line : CodeLine) (names texts : List (List ℕ)) (rest : ℕ → List CodeLine) (before : Written) →
    with_all names texts rest (with_line (with_nodes nodes before) line)
    ≡ with_all (nodes_names nodes ++ names) (nodes_texts nodes ++ texts) (λ k. nodes_lines k nodes (line ∷ rest (k + length (nodes_texts nodes)))) before
nodes_put nodes line names texts rest before =
    let k = length before.texts in
    let after = rest (k + length (nodes_texts nodes)) in
    written_is _ _ _ _ _ _ (sym (put_more (nodes_names nodes) names before.names)) (append_assoc before.texts (nodes_texts nodes) texts)
    (ap (λ n. filled (filled (filled before.lines (nodes_lines k nodes [])) (line ∷ [])) (rest n)) (length-append before.texts (nodes_texts nodes))
    ∙ filled_more (filled before.lines (nodes_lines k nodes [])) (line ∷ []) after
    ∙ behind_nodes nodes k before.lines (line ∷ after))

slots_put : (values : List m.First) (names texts : List (List ℕ)) (rest : ℕ → List CodeLine) (before : Written) →
    with_all names texts rest (with_values Slots values before)
    ≡ with_all (flat_map (λ first. node_names (value_of first)) values ++ names) (flat_map (λ first. node_texts (value_of first)) values ++ texts)
    (λ k. slots_lines k values rest) before
slots_put [] names texts rest before = refl
slots_put (first ∷ others) names texts rest before =
    let others_names = flat_map (λ value. node_names (value_of value)) others in
    let others_texts = flat_map (λ value. node_texts (value_of value)) others in
    let behind : ℕ → List CodeLine = λ k. slots_lines k others rest in
    let whole : ℕ → List CodeLine = λ k. slots_lines k (first ∷ others) rest in
    slots_put others names texts rest (with_ended first.value (i.StoreSlot first.index) before)
    ∙ node_put first.value (does (i.StoreSlot first.index) ∷ []) (others_names ++ names) (others_texts ++ texts) behind before
    ∙ all_same _ _ _ _ whole before
    (sym (append_assoc (node_names first.value) others_names names)) (sym (append_assoc (node_texts first.value) others_texts texts))

expressions_put : (nodes : List m.Node) (before : Written) →
    with_expressions nodes before ≡ with_all (flat_map node_names nodes) (flat_map node_texts nodes) (expressions_lines nodes) before
expressions_put [] before = written_is _ _ _ _ _ _ refl (sym (append-nil before.texts)) refl
expressions_put (node ∷ nodes) before =
    expressions_put nodes (with_ended node i.Pop before)
    ∙ node_put node (does i.Pop ∷ []) (flat_map node_names nodes) (flat_map node_texts nodes) (expressions_lines nodes) before

pub start_whole : (start : m.Initialiser) (before : Written) →
    with_expressions start.expressions (with_values Slots start.slots (with_start start.place start.arguments before)) ≡ with_body (m.as_initialiser start) before
start_whole start before =
    let names = flat_map node_names start.expressions in
    let texts = flat_map node_texts start.expressions in
    let begun = with_start start.place start.arguments before in
    let behind : ℕ → List CodeLine = λ k. slots_lines k start.slots (expressions_lines start.expressions) in
    expressions_put start.expressions (with_values Slots start.slots begun)
    ∙ slots_put start.slots names texts (expressions_lines start.expressions) begun
    ∙ nodes_put start.arguments (starts start.place (how_many start.arguments)) (flat_map (λ first. node_names (value_of first)) start.slots ++ names)
    (flat_map (λ first. node_texts (value_of first)) start.slots ++ texts) behind before

pub start_done : (here : e.Standing) (next n1 n2 : ℕ) (name : Named) (clause : Option p.SuperClause) (bars : p.Bars) (body : p.Statements) (w0 w1 w2 w3 : Written) →
    w1 ≡ with_start (e.place_at here.marks name.at) (super_arguments here next clause) w0 → n1 ≡ next + length (b.super_blocks here.scope clause) →
    w2 ≡ with_values Slots (bars_values here n1 0 bars) w1 → n2 ≡ n1 + length (b.bars_blocks here.scope bars) →
    w3 ≡ with_expressions (expressions_of here n2 body) w2 → w3 ≡ with_body (m.as_initialiser (start_of here next name clause bars body)) w0
start_done here next n1 n2 name clause bars body w0 w1 w2 w3 one e1 two e2 three =
    let start = start_of here next name clause bars body in
    let at = next + length (b.super_blocks here.scope clause) in
    let at_end : n2 ≡ at + length (b.bars_blocks here.scope bars) = omega (e1, e2, arith) in
    three
    ∙ ap (λ n. with_expressions (expressions_of here n body) w2) at_end
    ∙ ap (with_expressions start.expressions) (two ∙ ap (λ n. with_values Slots (bars_values here n 0 bars) w1) e1 ∙ ap (with_values Slots start.slots) one)
    ∙ start_whole start w0

-- ---- clauses

pub clause_whole : (head : m.Node) (before : Written) →
    with_line (with_node head before) (does i.Return) ≡ with_body (m.as_clause head) before
clause_whole head before = written_is _ _ _ _ _ _ refl refl (behind_node head (length before.texts) before.lines (does i.Return ∷ []))

-- a mixin to which the superclass is sent
pub mixin_put : (scope : Scope) (head over : m.Node) (sent : m.Sent) (w0 w1 w2 w3 : Written) → w1 ≡ with_node head w0 →
    w2 ≡ with_node over w1 →
    w3 ≡ with_line (with_name w2 sent.selector) (sends plain sent 1) → w3 ≡ with_node (m.send head sent (e.one over)) w0
mixin_put scope head over sent w0 w1 w2 w3 one two three =
    let nothing : with_lines [] w1 ≡ w1 = written_is _ _ _ _ _ _ refl refl (filled_none w1.lines) in
    three
    ∙ ap (λ w. with_line (with_name w sent.selector) (sends plain sent 1)) (two ∙ ap (with_node over) (sym nothing))
    ∙ binary_put scope v.Value sent over plain w1 refl
    ∙ ap (with_message scope v.Value sent (e.one over)) one
    ∙ message_is scope (e.to_value head) sent (e.one over) w0
