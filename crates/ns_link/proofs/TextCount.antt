-- Literal texts are fewer than instructions.
use Rattle.std.proofs.Common.{◌≡◌, ◌≤◌, ℕ, zero, suc, ◌+◌, ◌*◌, List, [], ◌∷◌, ◌++◌, length, refl, ap, arith, length-append}
use Rattle.std.specs.Prelude.{true, false, flat_map, Some, slice_get}
use Rattle.ns_code.specs.declared.instruction.Instr.{Instr}
use Rattle.ns_code.specs.declared.instruction.Instr.TheVariants as i
use Rattle.ns_code.specs.Table.{goes_on}
use Rattle.ns_resolved.specs.Program as m
use Rattle.ns_resolved.specs.Tables.{node_texts, nodes_texts, gathered, value_of, step_node, body_texts}
use Rattle.ns_gen_code.specs.Code.{CodeLine, does, symbol, sends, starts, how_many, instr_of, node_lines, nodes_lines, locals_lines, slots_lines}
use Rattle.ns_gen_code.specs.Code.{method_lines, block_lines, expressions_lines, body_lines}
use Rattle.ns_gen_code.specs.Stated.{line_texts, instr_texts, numbers_from, TextsInOrder, Ends}

-- ---- lines of which the last goes on to no other

no_text : (instr : Instr) → goes_on instr ≡ false → instr_texts instr ≡ []
no_text (i.PushText k) e = absurd (let f : true ≡ false = e in cc)
no_text _ e = refl

one_text : (instr : Instr) → length (instr_texts instr) ≤ 1
one_text (i.PushText k) = omega arith
one_text _ = omega arith

line_text : (line : CodeLine) → length (line_texts line) ≤ 1
line_text (does instr) = one_text instr
line_text (symbol name) = omega arith
line_text (sends way sent count) = omega arith
line_text (starts place count) = omega arith

last_text : (line : CodeLine) → goes_on (instr_of [] line) ≡ false → line_texts line ≡ []
last_text (does instr) e = no_text instr e
last_text (symbol name) e = refl
last_text (sends way sent count) e = refl
last_text (starts place count) e = refl

abbrev pushed : List CodeLine → ℕ
pushed lines = length (flat_map line_texts lines)

fewer : (lines : List CodeLine) → Ends lines → pushed lines + 1 ≤ length lines
fewer [] e = absurd e
fewer (line ∷ []) e = let none = ap length (last_text line e) in omega (none, length-append (line_texts line) [], arith)
fewer (line ∷ (next ∷ lines)) e =
    let further = fewer (next ∷ lines) e in
    let one = line_text line in
    omega (further, one, length-append (line_texts line) (flat_map line_texts (next ∷ lines)), arith)

-- ---- as many texts are pushed as a body's expressions have

numbered : (k : ℕ) (texts : List (List ℕ)) → length (numbers_from k texts) ≡ length texts
numbered k [] = refl
numbered k (text ∷ texts) = ap suc (numbered (k + 1) texts)

abbrev values_texts : List m.First → List (List ℕ)
values_texts values = flat_map (λ (first : m.First). node_texts (value_of first)) values

abbrev steps_texts : List m.Step → List (List ℕ)
steps_texts steps = flat_map (λ (step : m.Step). node_texts (step_node step)) steps

module _ (order : (node : m.Node) → TextsInOrder node) where
  node_pushes : (node : m.Node) (k : ℕ) (rest : List CodeLine) → pushed (node_lines k node rest) ≡ length (node_texts node) + pushed rest
  node_pushes node k rest =
      let same = ap length (order node k rest) in
      omega (same, length-append (numbers_from k (node_texts node)) (flat_map line_texts rest), numbered k (node_texts node), arith)

  nodes_push : (nodes : m.Nodes) (k : ℕ) (rest : List CodeLine) → pushed (nodes_lines k nodes rest) ≡ length (nodes_texts nodes) + pushed rest
  nodes_push m.no_nodes k rest = omega arith
  nodes_push (m.more_nodes node others) k rest =
      let first = node_pushes node k (nodes_lines (k + length (node_texts node)) others rest) in
      let further = nodes_push others (k + length (node_texts node)) rest in
      omega (first, further, length-append (node_texts node) (nodes_texts others), arith)

  locals_push : (values : List m.First) (k count : ℕ) (rest : ℕ → List CodeLine) → ((n : ℕ) → pushed (rest n) ≡ count) →
      pushed (locals_lines k values rest) ≡ length (values_texts values) + count
  locals_push [] k count rest h = let e = h k in omega (e, arith)
  locals_push (first ∷ others) k count rest h =
      let behind = locals_lines (k + length (node_texts first.value)) others rest in
      let one = node_pushes first.value k (does (i.StoreLocal 0 first.index) ∷ does i.Pop ∷ behind) in
      let further = locals_push others (k + length (node_texts first.value)) count rest h in
      omega (one, further, length-append (node_texts first.value) (values_texts others), arith)

  slots_push : (values : List m.First) (k count : ℕ) (rest : ℕ → List CodeLine) → ((n : ℕ) → pushed (rest n) ≡ count) →
      pushed (slots_lines k values rest) ≡ length (values_texts values) + count
  slots_push [] k count rest h = let e = h k in omega (e, arith)
  slots_push (first ∷ others) k count rest h =
      let behind = slots_lines (k + length (node_texts first.value)) others rest in
      let one = node_pushes first.value k (does (i.StoreSlot first.index) ∷ behind) in
      let further = slots_push others (k + length (node_texts first.value)) count rest h in
      omega (one, further, length-append (node_texts first.value) (values_texts others), arith)

  method_pushes : (steps : List m.Step) (k : ℕ) → pushed (method_lines steps k) ≡ length (steps_texts steps)
  method_pushes [] k = refl
  method_pushes (m.evaluate node ∷ steps) k =
      let one = node_pushes node k (does i.Pop ∷ method_lines steps (k + length (node_texts node))) in
      let further = method_pushes steps (k + length (node_texts node)) in
      omega (one, further, length-append (node_texts node) (steps_texts steps), arith)
  method_pushes (m.return node ∷ []) k = let one = node_pushes node k (does i.Return ∷ []) in omega (one, length-append (node_texts node) [], arith)
  method_pushes (m.return node ∷ (step ∷ steps)) k =
      let one = node_pushes node k (does i.Return ∷ method_lines (step ∷ steps) (k + length (node_texts node))) in
      let further = method_pushes (step ∷ steps) (k + length (node_texts node)) in
      omega (one, further, length-append (node_texts node) (steps_texts (step ∷ steps)), arith)

  block_pushes : (steps : List m.Step) (k : ℕ) → pushed (block_lines steps k) ≡ length (steps_texts steps)
  block_pushes [] k = refl
  block_pushes (m.evaluate node ∷ []) k = let one = node_pushes node k (does i.Return ∷ []) in omega (one, length-append (node_texts node) [], arith)
  block_pushes (m.return node ∷ []) k = let one = node_pushes node k (does i.ReturnHome ∷ []) in omega (one, length-append (node_texts node) [], arith)
  block_pushes (m.evaluate node ∷ (step ∷ steps)) k =
      let one = node_pushes node k (does i.Pop ∷ block_lines (step ∷ steps) (k + length (node_texts node))) in
      let further = block_pushes (step ∷ steps) (k + length (node_texts node)) in
      omega (one, further, length-append (node_texts node) (steps_texts (step ∷ steps)), arith)
  block_pushes (m.return node ∷ (step ∷ steps)) k =
      let one = node_pushes node k (does i.ReturnHome ∷ block_lines (step ∷ steps) (k + length (node_texts node))) in
      let further = block_pushes (step ∷ steps) (k + length (node_texts node)) in
      omega (one, further, length-append (node_texts node) (steps_texts (step ∷ steps)), arith)

  expressions_push : (nodes : List m.Node) (k : ℕ) → pushed (expressions_lines nodes k) ≡ length (flat_map node_texts nodes)
  expressions_push [] k = refl
  expressions_push (node ∷ nodes) k =
      let one = node_pushes node k (does i.Pop ∷ expressions_lines nodes (k + length (node_texts node))) in
      let further = expressions_push nodes (k + length (node_texts node)) in
      omega (one, further, length-append (node_texts node) (flat_map node_texts nodes), arith)

  body_pushes : (body : m.Does) (k : ℕ) → pushed (body_lines k body) ≡ length (gathered node_texts nodes_texts body)
  body_pushes (m.as_method values steps) k =
      let all = locals_push values k (length (steps_texts steps)) (method_lines steps) (method_pushes steps) in
      omega (all, length-append (values_texts values) (steps_texts steps), arith)
  body_pushes (m.as_block values steps) k =
      let all = locals_push values k (length (steps_texts steps)) (block_lines steps) (block_pushes steps) in
      omega (all, length-append (values_texts values) (steps_texts steps), arith)
  body_pushes (m.as_initialiser start) k =
      let next = k + length (nodes_texts start.arguments) in
      let expressions = expressions_lines start.expressions in
      let arguments = nodes_push start.arguments k (starts start.place (how_many start.arguments) ∷ slots_lines next start.slots expressions) in
      let slots = slots_push start.slots next (length (flat_map node_texts start.expressions)) expressions (expressions_push start.expressions) in
      omega (
        arguments,
        slots,
        length-append (nodes_texts start.arguments) (values_texts start.slots ++ flat_map node_texts start.expressions),
        length-append (values_texts start.slots) (flat_map node_texts start.expressions),
        arith,
      )
  body_pushes (m.as_clause head) k = let one = node_pushes head k (does i.Return ∷ []) in omega (one, arith)

  -- a body has fewer texts than lines
  pub fewer_texts : (body : m.Body) (k : ℕ) → Ends (body_lines k body.does) → length (body_texts body) + 1 ≤ length (body_lines k body.does)
  fewer_texts body k ends =
      let few = fewer (body_lines k body.does) ends in
      let same = body_pushes body.does k in
      omega (few, same, arith)

-- what all bodies have where each has few
pub few_in_all : (bodies : List m.Body) (most : ℕ) →
    ((n : ℕ) (body : m.Body) → slice_get bodies n ≡ Some body → length (body_texts body) ≤ 65535) →
    length bodies ≤ most → length (flat_map body_texts bodies) ≤ 65535 * most
few_in_all [] most h few = omega arith
few_in_all (body ∷ bodies) zero h few = absurd (omega (few, arith))
few_in_all (body ∷ bodies) (suc most) h few =
    let one = h zero body refl in
    let further = few_in_all bodies most (λ n other e. h (suc n) other e) (omega (few, arith)) in
    omega (one, further, length-append (body_texts body) (flat_map body_texts bodies), arith)
