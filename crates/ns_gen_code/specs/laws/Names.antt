-- The names that the lines of a body use, and names that stand in a table.
use Rattle.std.proofs.Common.{◌≡◌, ℕ, ◌+◌, List, [], ◌∷◌, ◌++◌, length, refl, sym, ap, ◌∙◌, append_assoc, append-nil}
use Rattle.std.specs.Prelude.{flat_map}
use Rattle.ns_base.specs.Names.{put_in}
use Rattle.ns_code.specs.declared.instruction.Instr.TheVariants as i
use Rattle.ns_resolved.specs.Program as m
use Rattle.ns_resolved.specs.Tables.{node_texts, nodes_texts, node_names, nodes_names, gathered, value_of, step_node, body_names, put_all}
use Rattle.ns_resolved.specs.laws.Places.{has_put, has_stands_all}
use Rattle.ns_gen_code.specs.Code.{CodeLine, does, starts, how_many, node_lines, locals_lines, slots_lines, method_lines, block_lines, expressions_lines, body_lines}
use Rattle.ns_gen_code.specs.Stated.{AreThere}
use Rattle.ns_gen_code.specs.lemmas.InOrder.{used, node_in_order, nodes_in_order}

abbrev pub values_names : List m.First → List (List ℕ)
values_names values = flat_map (λ first. node_names (value_of first)) values

abbrev pub steps_names : List m.Step → List (List ℕ)
steps_names steps = flat_map (λ step. node_names (step_node step)) steps

-- a node's lines before others whose names are known
before : (node : m.Node) (k : ℕ) (rest : List CodeLine) (names : List (List ℕ)) → used rest ≡ names →
    used (node_lines k node rest) ≡ node_names node ++ names
before node k rest names e = node_in_order node k rest ∙ ap (node_names node ++◌) e

locals_used : (values : List m.First) (k : ℕ) (rest : ℕ → List CodeLine) (names : List (List ℕ)) → ((n : ℕ) → used (rest n) ≡ names) →
    used (locals_lines k values rest) ≡ values_names values ++ names
locals_used [] k rest names e = e k
locals_used (first ∷ others) k rest names e =
    let lines = locals_lines (k + length (node_texts first.value)) others rest in
    before first.value k (does (i.StoreLocal 0 first.index) ∷ does i.Pop ∷ lines) (values_names others ++ names)
    (locals_used others (k + length (node_texts first.value)) rest names e)
    ∙ sym (append_assoc (node_names first.value) (values_names others) names)

slots_used : (values : List m.First) (k : ℕ) (rest : ℕ → List CodeLine) (names : List (List ℕ)) → ((n : ℕ) → used (rest n) ≡ names) →
    used (slots_lines k values rest) ≡ values_names values ++ names
slots_used [] k rest names e = e k
slots_used (first ∷ others) k rest names e =
    let lines = slots_lines (k + length (node_texts first.value)) others rest in
    before first.value k (does (i.StoreSlot first.index) ∷ lines) (values_names others ++ names)
    (slots_used others (k + length (node_texts first.value)) rest names e)
    ∙ sym (append_assoc (node_names first.value) (values_names others) names)

method_used : (steps : List m.Step) (k : ℕ) → used (method_lines steps k) ≡ steps_names steps
method_used [] k = refl
method_used (m.evaluate node ∷ steps) k =
    before node k (does i.Pop ∷ method_lines steps (k + length (node_texts node))) (steps_names steps) (method_used steps (k + length (node_texts node)))
method_used (m.return node ∷ []) k = before node k (does i.Return ∷ []) [] refl
method_used (m.return node ∷ (step ∷ steps)) k =
    before node k (does i.Return ∷ method_lines (step ∷ steps) (k + length (node_texts node))) (steps_names (step ∷ steps))
    (method_used (step ∷ steps) (k + length (node_texts node)))

block_used : (steps : List m.Step) (k : ℕ) → used (block_lines steps k) ≡ steps_names steps
block_used [] k = refl
block_used (m.evaluate node ∷ []) k = before node k (does i.Return ∷ []) [] refl
block_used (m.return node ∷ []) k = before node k (does i.ReturnHome ∷ []) [] refl
block_used (m.evaluate node ∷ (step ∷ steps)) k =
    before node k (does i.Pop ∷ block_lines (step ∷ steps) (k + length (node_texts node))) (steps_names (step ∷ steps))
    (block_used (step ∷ steps) (k + length (node_texts node)))
block_used (m.return node ∷ (step ∷ steps)) k =
    before node k (does i.ReturnHome ∷ block_lines (step ∷ steps) (k + length (node_texts node))) (steps_names (step ∷ steps))
    (block_used (step ∷ steps) (k + length (node_texts node)))

expressions_used : (nodes : List m.Node) (k : ℕ) → used (expressions_lines nodes k) ≡ flat_map node_names nodes
expressions_used [] k = refl
expressions_used (node ∷ nodes) k =
    before node k (does i.Pop ∷ expressions_lines nodes (k + length (node_texts node))) (flat_map node_names nodes)
    (expressions_used nodes (k + length (node_texts node)))

-- The lines of a body use exactly the names of the body, in their order.
pub body_used : (body : m.Body) (k : ℕ) → used (body_lines k body.does) ≡ body_names body
body_used body k = does_used body.does k where
  does_used : (body : m.Does) (k : ℕ) → used (body_lines k body) ≡ gathered node_names nodes_names body
  does_used (m.as_method values steps) k = locals_used values k (method_lines steps) (steps_names steps) (method_used steps)
  does_used (m.as_block values steps) k = locals_used values k (block_lines steps) (steps_names steps) (block_used steps)
  does_used (m.as_initialiser start) k =
      let behind = slots_lines (k + length (nodes_texts start.arguments)) start.slots (expressions_lines start.expressions) in
      nodes_in_order start.arguments k (starts start.place (how_many start.arguments) ∷ behind)
      ∙ ap (nodes_names start.arguments ++◌) (slots_used start.slots (k + length (nodes_texts start.arguments)) (expressions_lines start.expressions)
      (flat_map node_names start.expressions) (expressions_used start.expressions))
  does_used (m.as_clause head) k = node_in_order head k (does i.Return ∷ []) ∙ append-nil (node_names head)

-- Names that were put in a table are there.
pub all_there : (names table : List (List ℕ)) → AreThere (put_all table names) names
all_there [] table = tt
all_there (name ∷ names) table = (has_stands_all names (put_in table name) name (has_put table name), all_there names (put_in table name))

-- Where names are there, those behind are.
pub right_there : (table a b : List (List ℕ)) → AreThere table (a ++ b) → AreThere table b
right_there table [] b h = h
right_there table (name ∷ a) b h = right_there table a b h.1

-- And those in front are.
pub left_there : (table a b : List (List ℕ)) → AreThere table (a ++ b) → AreThere table a
left_there table [] b h = tt
left_there table (name ∷ a) b h = (h.0, left_there table a b h.1)
