-- Values and steps in turn are the body.
use Rattle.std.proofs.Common.{◌≡◌, ◌<◌, ℕ, zero, suc, ◌+◌, List, [], ◌∷◌, ◌++◌, length, drop, get_or, flat_map, refl, sym, ap, ◌∙◌, append-nil, append_assoc, length-append, arith}
use Rattle.std.proofs.lemmas.List.{drop_more}
use Rattle.std.proofs.lemmas.Bool.{eqb-true}
use Rattle.std.specs.Prelude.{Bool, true, false, ◌==◌}
use Rattle.ns_tree.specs.declared.tree.Statement.{Statement}
use Rattle.ns_tree.specs.PlainOf.{statement_of, statement_list_of}
use Rattle.ns_code.specs.declared.instruction.Instr.{Instr}
use Rattle.ns_code.specs.declared.instruction.Instr.TheVariants as i
use Rattle.ns_resolved.specs.Program as m
use Rattle.ns_tree.specs.Plain as p
use Rattle.ns_scope.specs.Bodies as b
use Rattle.ns_resolved.specs.Expressions as e
use Rattle.ns_resolved.specs.Statements.{bars_values, step_of, list_steps}
use Rattle.ns_resolved.specs.Tables.{put_all, node_names, node_texts, value_of, step_node}
use Rattle.ns_gen_code.specs.Code.{CodeLine, does, node_lines, locals_lines, method_lines, block_lines}
use Rattle.ns_gen_draft.specs.Drafts.{Written, filled, with_line}
use Rattle.ns_gen_draft.specs.laws.Filling.{filled_none, filled_more}
use Rattle.ns_gen_exprs.specs.Sending.{with_lines, with_node}
use Rattle.ns_gen_bodies.specs.Valuing.{with_ended, with_local, with_values}
use Rattle.ns_gen_bodies.specs.declared.values.Stores.TheVariants.{Locals}
use Rattle.ns_gen_bodies.specs.Stepping.{with_method, is_none, with_block_step, with_block, with_block_steps, with_body, routine_does}
use Rattle.ns_gen_draft.specs.laws.Writing.{written_is, put_more}
use Rattle.ns_gen_exprs.specs.laws.Composing.{behind_node}

-- with names, literal texts, and lines that depend on the number of the first text
abbrev pub with_all : List (List ℕ) → List (List ℕ) → (ℕ → List CodeLine) → Written → Written
with_all names texts rest before =
    record { names = put_all before.names names; texts = before.texts ++ texts; lines = filled before.lines (rest (length before.texts)) }

all_none : (before : Written) → with_all [] [] (λ k. []) before ≡ before
all_none before = written_is _ _ _ _ _ _ refl (append-nil before.texts) (filled_none before.lines)

pub all_same : (names names' texts texts' : List (List ℕ)) (rest : ℕ → List CodeLine) (before : Written) → names ≡ names' → texts ≡ texts' →
    with_all names texts rest before ≡ with_all names' texts' rest before
all_same names names' texts texts' rest before p q =
    ap (λ n. with_all n texts rest before) p ∙ ap (λ t. with_all names' t rest before) q

-- a node with instructions behind it, and then the rest
pub node_put : (node : m.Node) (ends : List CodeLine) (names texts : List (List ℕ)) (rest : ℕ → List CodeLine) (before : Written) →
    with_all names texts rest (with_lines ends (with_node node before))
    ≡ with_all (node_names node ++ names) (node_texts node ++ texts) (λ k. node_lines k node (ends ++ rest (k + length (node_texts node)))) before
node_put node ends names texts rest before =
    let k = length before.texts in
    let after = rest (k + length (node_texts node)) in
    written_is _ _ _ _ _ _ (sym (put_more (node_names node) names before.names)) (append_assoc before.texts (node_texts node) texts)
    (ap (λ n. filled (filled (filled before.lines (node_lines k node [])) ends) (rest n)) (length-append before.texts (node_texts node))
    ∙ filled_more (filled before.lines (node_lines k node [])) ends after
    ∙ behind_node node k before.lines (ends ++ after))

two_lines : (first second : CodeLine) (before : Written) →
    with_line (with_line before first) second ≡ with_lines (first ∷ second ∷ []) before
two_lines first second before = written_is _ _ _ _ _ _ refl refl (filled_more before.lines (first ∷ []) (second ∷ []))

-- ---- values

locals_put : (values : List m.First) (names texts : List (List ℕ)) (rest : ℕ → List CodeLine) (before : Written) →
    with_all names texts rest (with_values Locals values before)
    ≡ with_all (flat_map (λ first. node_names (value_of first)) values ++ names) (flat_map (λ first. node_texts (value_of first)) values ++ texts)
    (λ k. locals_lines k values rest) before
locals_put [] names texts rest before = refl
locals_put (first ∷ others) names texts rest before =
    let others_names = flat_map (λ value. node_names (value_of value)) others in
    let others_texts = flat_map (λ value. node_texts (value_of value)) others in
    let store = does (i.StoreLocal 0 first.index) in
    let pop = does i.Pop in
    let behind : ℕ → List CodeLine = λ k. locals_lines k others rest in
    let whole : ℕ → List CodeLine = λ k. locals_lines k (first ∷ others) rest in
    locals_put others names texts rest (with_local first.index first.value before)
    ∙ ap (with_all (others_names ++ names) (others_texts ++ texts) behind) (two_lines store pop (with_node first.value before))
    ∙ node_put first.value (store ∷ pop ∷ []) (others_names ++ names) (others_texts ++ texts) behind before
    ∙ all_same _ _ _ _ whole before
    (sym (append_assoc (node_names first.value) others_names names)) (sym (append_assoc (node_texts first.value) others_texts texts))

-- ---- methods

last_put : (node : m.Node) (end : Instr) (before : Written) →
    with_ended node end before ≡ with_all (node_names node ++ []) (node_texts node ++ []) (λ k. node_lines k node (does end ∷ [])) before
last_put node end before = sym (all_none (with_ended node end before)) ∙ node_put node (does end ∷ []) [] [] (λ k. []) before

method_put : (steps : List m.Step) (before : Written) →
    with_method steps false before
    ≡ with_all (flat_map (λ step. node_names (step_node step)) steps) (flat_map (λ step. node_texts (step_node step)) steps) (method_lines steps) before
method_put [] before = written_is _ _ _ _ _ _ refl (sym (append-nil before.texts)) refl
method_put (m.evaluate node ∷ steps) before =
    method_put steps (with_ended node i.Pop before)
    ∙ node_put node (does i.Pop ∷ []) (flat_map (λ step. node_names (step_node step)) steps) (flat_map (λ step. node_texts (step_node step)) steps)
    (method_lines steps) before
method_put (m.return node ∷ []) before = last_put node i.Return before
method_put (m.return node ∷ (step ∷ steps)) before =
    method_put (step ∷ steps) (with_ended node i.Return before)
    ∙ node_put node (does i.Return ∷ []) (flat_map (λ s. node_names (step_node s)) (step ∷ steps)) (flat_map (λ s. node_texts (step_node s)) (step ∷ steps))
    (method_lines (step ∷ steps)) before

pub method_whole : (values : List m.First) (steps : List m.Step) (before : Written) →
    with_method steps false (with_values Locals values before) ≡ with_body (m.as_method values steps) before
method_whole values steps before =
    method_put steps (with_values Locals values before)
    ∙ locals_put values (flat_map (λ step. node_names (step_node step)) steps) (flat_map (λ step. node_texts (step_node step)) steps) (method_lines steps) before

-- ---- blocks

steps_put : (step : m.Step) (steps : List m.Step) (before : Written) →
    with_block_steps (step ∷ steps) before
    ≡ with_all (flat_map (λ s. node_names (step_node s)) (step ∷ steps)) (flat_map (λ s. node_texts (step_node s)) (step ∷ steps)) (block_lines (step ∷ steps)) before
steps_put (m.evaluate node) [] before = last_put node i.Return before
steps_put (m.return node) [] before = last_put node i.ReturnHome before
steps_put (m.evaluate node) (step ∷ steps) before =
    steps_put step steps (with_ended node i.Pop before)
    ∙ node_put node (does i.Pop ∷ []) (flat_map (λ s. node_names (step_node s)) (step ∷ steps)) (flat_map (λ s. node_texts (step_node s)) (step ∷ steps))
    (block_lines (step ∷ steps)) before
steps_put (m.return node) (step ∷ steps) before =
    steps_put step steps (with_ended node i.ReturnHome before)
    ∙ node_put node (does i.ReturnHome ∷ []) (flat_map (λ s. node_names (step_node s)) (step ∷ steps)) (flat_map (λ s. node_texts (step_node s)) (step ∷ steps))
    (block_lines (step ∷ steps)) before

block_put : (steps : List m.Step) (before : Written) →
    with_block steps before
    ≡ with_all (flat_map (λ step. node_names (step_node step)) steps) (flat_map (λ step. node_texts (step_node step)) steps) (block_lines steps) before
block_put [] before =
    two_lines (does i.PushNil) (does i.Return) before ∙ written_is _ _ _ _ _ _ refl (sym (append-nil before.texts)) refl
block_put (step ∷ steps) before = steps_put step steps before

pub block_whole : (values : List m.First) (steps : List m.Step) (before : Written) →
    with_block steps (with_values Locals values before) ≡ with_body (m.as_block values steps) before
block_whole values steps before =
    block_put steps (with_values Locals values before)
    ∙ locals_put values (flat_map (λ step. node_names (step_node step)) steps) (flat_map (λ step. node_texts (step_node step)) steps) (block_lines steps) before

-- ---- the loop over a block's steps

pub some_steps : (here : e.Standing) (next : ℕ) (list : List Statement) (before : Written) → 0 < length list →
    with_block_steps (list_steps here next (statement_list_of list)) before ≡ with_block (list_steps here next (statement_list_of list)) before
some_steps here next [] before h = absurd (omega (h, arith))
some_steps here next (statement ∷ list) before h = refl

none_told : (here : e.Standing) (next count : ℕ) (list : List Statement) → count ≡ length list →
    (count == 0) ≡ is_none (list_steps here next (statement_list_of list))
none_told here next zero [] same = refl
none_told here next (suc count) [] same = absurd (omega (same, arith))
none_told here next zero (statement ∷ list) same = absurd (omega (same, arith))
none_told here next (suc count) (statement ∷ list) same = tested (suc count == 0) refl
  where
    tested : (b : Bool) → (suc count == 0) ≡ b → (suc count == 0) ≡ false
    tested true h = absurd (omega (eqb-true (suc count) 0 h, arith))
    tested false h = h

pub steps_step : (here : e.Standing) (next next' k count : ℕ) (list : List Statement) (statement : Statement) (w0 w1 whole : Written) →
    k < length list →
    statement ≡ get_or list k statement → count ≡ length (drop (k + 1) list) →
    with_block_steps (list_steps here next (statement_list_of (drop k list))) w0 ≡ whole →
    w1 ≡ with_block_step (count == 0) (step_of here next (statement_of statement)) w0 →
    next' ≡ next + length (b.statement_blocks here.scope (statement_of statement)) →
    with_block_steps (list_steps here next' (statement_list_of (drop (k + 1) list))) w1 ≡ whole
steps_step here next next' k count list statement w0 w1 whole within is many before one number =
    let parts : drop k list ≡ statement ∷ drop (k + 1) list = drop_more list k statement within ∙ ap (λ x. x ∷ drop (k + 1) list) (sym is) in
    let behind = next + length (b.statement_blocks here.scope (statement_of statement)) in
    let rest = list_steps here behind (statement_list_of (drop (k + 1) list)) in
    ap (λ n. with_block_steps (list_steps here n (statement_list_of (drop (k + 1) list))) w1) number
    ∙ ap (with_block_steps rest)
    (one ∙ ap (λ last. with_block_step last (step_of here next (statement_of statement)) w0) (none_told here behind count (drop (k + 1) list) many))
    ∙ ap (λ all. with_block_steps (list_steps here next (statement_list_of all)) w0) (sym parts)
    ∙ before

pub steps_number : (here : e.Standing) (next next' k last : ℕ) (list : List Statement) (statement : Statement) → k < length list →
    statement ≡ get_or list k statement → next + length (b.list_blocks here.scope (statement_list_of (drop k list))) ≡ last →
    next' ≡ next + length (b.statement_blocks here.scope (statement_of statement)) →
    next' + length (b.list_blocks here.scope (statement_list_of (drop (k + 1) list))) ≡ last
steps_number here next next' k last list statement within is before number =
    let parts : drop k list ≡ statement ∷ drop (k + 1) list = drop_more list k statement within ∙ ap (λ x. x ∷ drop (k + 1) list) (sym is) in
    let e : next + length (b.list_blocks here.scope (statement_list_of (statement ∷ drop (k + 1) list))) ≡ last =
    ap (λ all. next + length (b.list_blocks here.scope (statement_list_of all))) (sym parts) ∙ before in
    omega (
      e,
      number,
      length-append (b.statement_blocks here.scope (statement_of statement)) (b.list_blocks here.scope (statement_list_of (drop (k + 1) list))),
      arith,
    )

-- ---- bodies of methods and blocks

pub method_done : (here : e.Standing) (next next' params : ℕ) (bars : p.Bars) (list : p.StatementList) (stop : Bool) (w0 w1 w2 : Written) →
    w1 ≡ with_values Locals (bars_values here next params bars) w0 → next' ≡ next + length (b.bars_blocks here.scope bars) →
    w2 ≡ with_method (list_steps here next' list) false w1 →
    w2 ≡ with_body (routine_does m.as_method here next params bars (p.statements_with list stop)) w0
method_done here next next' params bars list stop w0 w1 w2 one number two =
    let steps = list_steps here (next + length (b.bars_blocks here.scope bars)) list in
    two ∙ ap (λ n. with_method (list_steps here n list) false w1) number ∙ ap (with_method steps false) one
    ∙ method_whole (bars_values here next params bars) steps w0

pub block_done : (here : e.Standing) (next next' params : ℕ) (bars : p.Bars) (list : p.StatementList) (stop : Bool) (w0 w1 w2 : Written) →
    w1 ≡ with_values Locals (bars_values here next params bars) w0 → next' ≡ next + length (b.bars_blocks here.scope bars) →
    w2 ≡ with_block (list_steps here next' list) w1 →
    w2 ≡ with_body (routine_does m.as_block here next params bars (p.statements_with list stop)) w0
block_done here next next' params bars list stop w0 w1 w2 one number two =
    let steps = list_steps here (next + length (b.bars_blocks here.scope bars)) list in
    two ∙ ap (λ n. with_block (list_steps here n list) w1) number ∙ ap (with_block steps) one
    ∙ block_whole (bars_values here next params bars) steps w0
