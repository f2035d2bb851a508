-- The lines of a body use what its expressions use.
use Rattle.std.proofs.Common.{◌≡◌, ◌≤◌, ℕ, ◌+◌, List, [], ◌∷◌, ◌++◌, length, refl, subst, arith, append_assoc, length-append}
use Rattle.std.specs.Prelude.{Bool, true, false, flat_map}
use Rattle.ns_code.specs.declared.instruction.Instr.TheVariants as i
use Rattle.ns_code.specs.Soundness.{method_kind, block_kind, initialiser_kind, clause_kind}
use Rattle.ns_resolved.specs.Program as m
use Rattle.ns_resolved.specs.Tables.{node_texts, nodes_texts, messages_texts, gathered, value_of, step_node, kind_of}
use Rattle.ns_resolved.specs.Uses.{Use, how_many, NodeHas, NodesHave, MessagesHave, LocalsHave, SlotsHave, MethodHas, BlockHas, ExpressionsHave, DoesHave}
use Rattle.ns_gen_code.specs.Code.{CodeLine, does, sends, starts, plain, inner, private_at, super, set_lines, node_lines, nodes_lines}
use Rattle.ns_gen_code.specs.Code.{messages_lines, locals_lines, slots_lines, method_lines, block_lines, expressions_lines, body_lines}
use Rattle.ns_gen_code.specs.Uses.{LinesHave}

-- the texts of values and of steps
abbrev pub values_texts : List m.First → List (List ℕ)
values_texts values = flat_map (λ first. node_texts (value_of first)) values

abbrev pub steps_texts : List m.Step → List (List ℕ)
steps_texts steps = flat_map (λ step. node_texts (step_node step)) steps

-- two parts that end within the count
first_part : (k count : ℕ) (a b : List (List ℕ)) → k + length (a ++ b) ≤ count → k + length a ≤ count
first_part k count a b h = omega (h, length-append a b, arith)

then_part : (k count : ℕ) (a b : List (List ℕ)) → k + length (a ++ b) ≤ count → k + length a + length b ≤ count
then_part k count a b h = omega (h, length-append a b, arith)

module _ (Has : Use → Type 0) (count : ℕ) (kind : ℕ) where
  mutual
    node_has : (node : m.Node) (k : ℕ) (started : Bool) (rest : List CodeLine) → NodeHas Has node → k + length (node_texts node) ≤ count →
        LinesHave Has count kind started rest → LinesHave Has count kind started (node_lines k node rest)
    node_has m.nil_value k started rest u h r = (tt, r)
    node_has m.true_value k started rest u h r = (tt, r)
    node_has m.false_value k started rest u h r = (tt, r)
    node_has (m.integer n) k started rest u h r = (u, r)
    node_has (m.text bytes) k started rest u h r = (omega (h, arith), r)
    node_has (m.symbol name) k started rest u h r = r
    node_has m.self_value k started rest u h r = (tt, r)
    node_has (m.local hops index) k started rest u h r = (u, r)
    node_has (m.set_local hops index value) k started rest u h r =
        node_has value k started (does (i.StoreLocal hops index) ∷ rest) u.0 h (u.1, r)
    node_has (m.set_by_send m.own sent value) k started rest u h r =
        node_has value k started (set_lines m.own sent rest) u.0 h (tt, (omega arith, (tt, u.2, (tt, r))))
    node_has (m.set_by_send (m.enclosing level) sent value) k started rest u h r =
        node_has value k started (set_lines (m.enclosing level) sent rest) u.0 h (u.1, (omega arith, (tt, u.2, (tt, r))))
    node_has (m.set_by_send (m.private_of level) sent value) k started rest u h r =
        node_has value k started (set_lines (m.private_of level) sent rest) u.0 h (omega arith, (u.1, u.2, (tt, r)))
    node_has (m.array items) k started rest u h r =
        nodes_have items k started (does (i.MakeArray (how_many items)) ∷ rest) u.0 h (u.1, r)
    node_has (m.block number) k started rest u h r = (u, r)
    node_has (m.send receiver sent arguments) k started rest u h r =
        node_has receiver k started (nodes_lines (k + length (node_texts receiver)) arguments (sends plain sent (how_many arguments) ∷ rest)) u.0
        (first_part k count (node_texts receiver) (nodes_texts arguments) h)
        (nodes_have arguments (k + length (node_texts receiver)) started (sends plain sent (how_many arguments) ∷ rest) u.1
        (then_part k count (node_texts receiver) (nodes_texts arguments) h) (tt, u.2, r))
    node_has (m.send_to m.own sent arguments) k started rest u h r =
        (tt, nodes_have arguments k started (sends inner sent (how_many arguments) ∷ rest) u.1 h (tt, u.2, r))
    node_has (m.send_to (m.enclosing level) sent arguments) k started rest u h r =
        (u.0, nodes_have arguments k started (sends inner sent (how_many arguments) ∷ rest) u.1 h (tt, u.2, r))
    node_has (m.send_to (m.private_of level) sent arguments) k started rest u h r =
        nodes_have arguments k started (sends (private_at level) sent (how_many arguments) ∷ rest) u.1 h (u.0, u.2, r)
    node_has (m.send_super sent arguments) k started rest u h r =
        nodes_have arguments k started (sends super sent (how_many arguments) ∷ rest) u.0 h (tt, u.1, r)
    node_has (m.cascade receiver messages) k started rest u h r =
        node_has receiver k started (messages_lines (k + length (node_texts receiver)) messages rest) u.0
        (first_part k count (node_texts receiver) (messages_texts messages) h)
        (messages_have messages (k + length (node_texts receiver)) started rest u.1 (then_part k count (node_texts receiver) (messages_texts messages) h) r)
    node_has (m.in_turn first then_node) k started rest u h r =
        node_has first k started (does i.Pop ∷ node_lines (k + length (node_texts first)) then_node rest) u.0
        (first_part k count (node_texts first) (node_texts then_node) h)
        (tt, node_has then_node (k + length (node_texts first)) started rest u.1 (then_part k count (node_texts first) (node_texts then_node) h) r)

    nodes_have : (nodes : m.Nodes) (k : ℕ) (started : Bool) (rest : List CodeLine) → NodesHave Has nodes → k + length (nodes_texts nodes) ≤ count →
        LinesHave Has count kind started rest → LinesHave Has count kind started (nodes_lines k nodes rest)
    nodes_have m.no_nodes k started rest u h r = r
    nodes_have (m.more_nodes node others) k started rest u h r =
        node_has node k started (nodes_lines (k + length (node_texts node)) others rest) u.0 (first_part k count (node_texts node) (nodes_texts others) h)
        (nodes_have others (k + length (node_texts node)) started rest u.1 (then_part k count (node_texts node) (nodes_texts others) h) r)

    messages_have : (messages : m.Messages) (k : ℕ) (started : Bool) (rest : List CodeLine) → MessagesHave Has messages →
        k + length (messages_texts messages) ≤ count → LinesHave Has count kind started rest →
        LinesHave Has count kind started (messages_lines k messages rest)
    messages_have (m.last_message sent arguments) k started rest u h r =
        nodes_have arguments k started (sends plain sent (how_many arguments) ∷ rest) u.0 h (tt, u.1, r)
    messages_have (m.more_messages sent arguments others) k started rest u h r = (
      omega arith,
      nodes_have arguments k started
          (sends plain sent (how_many arguments) ∷ does i.Pop ∷ messages_lines (k + length (nodes_texts arguments)) others rest) u.0
          (first_part k count (nodes_texts arguments) (messages_texts others) h) (
            tt,
            u.1,
            (
              tt,
              messages_have others (k + length (nodes_texts arguments)) started rest u.2
                  (then_part k count (nodes_texts arguments) (messages_texts others) h) r,
            ),
          ),
    )

  -- values, before what follows with any number up to the count
  locals_have : (values : List m.First) (k : ℕ) (texts : List (List ℕ)) (rest : ℕ → List CodeLine) → LocalsHave Has values →
      k + length (values_texts values ++ texts) ≤ count →
      ((n : ℕ) → n + length texts ≤ count → LinesHave Has count kind false (rest n)) → LinesHave Has count kind false (locals_lines k values rest)
  locals_have [] k texts rest u h r = r k h
  locals_have (first ∷ others) k texts rest u h r =
      let behind = locals_lines (k + length (node_texts first.value)) others rest in
      let all : k + length (node_texts first.value ++ (values_texts others ++ texts)) ≤ count =
      subst (λ (l : List (List ℕ)). k + length l ≤ count) (append_assoc (node_texts first.value) (values_texts others) texts) h in
      node_has first.value k false (does (i.StoreLocal 0 first.index) ∷ does i.Pop ∷ behind) u.0
      (first_part k count (node_texts first.value) (values_texts others ++ texts) all) (
        u.1,
        (
          tt,
          locals_have others (k + length (node_texts first.value)) texts rest u.2
              (then_part k count (node_texts first.value) (values_texts others ++ texts) all) r,
        ),
      )

  slots_have : (values : List m.First) (k : ℕ) (texts : List (List ℕ)) (rest : ℕ → List CodeLine) → kind ≡ initialiser_kind → SlotsHave Has values →
      k + length (values_texts values ++ texts) ≤ count →
      ((n : ℕ) → n + length texts ≤ count → LinesHave Has count kind true (rest n)) → LinesHave Has count kind true (slots_lines k values rest)
  slots_have [] k texts rest e u h r = r k h
  slots_have (first ∷ others) k texts rest e u h r =
      let behind = slots_lines (k + length (node_texts first.value)) others rest in
      let all : k + length (node_texts first.value ++ (values_texts others ++ texts)) ≤ count =
      subst (λ (l : List (List ℕ)). k + length l ≤ count) (append_assoc (node_texts first.value) (values_texts others) texts) h in
      node_has first.value k true (does (i.StoreSlot first.index) ∷ behind) u.0
      (first_part k count (node_texts first.value) (values_texts others ++ texts) all) (
        (u.1, e),
        slots_have others (k + length (node_texts first.value)) texts rest e u.2
            (then_part k count (node_texts first.value) (values_texts others ++ texts) all) r,
      )

module _ (Has : Use → Type 0) (count : ℕ) where
  method_has : (steps : List m.Step) (k : ℕ) → MethodHas Has steps → k + length (steps_texts steps) ≤ count →
      LinesHave Has count method_kind false (method_lines steps k)
  method_has [] k u h = (refl, tt)
  method_has (m.evaluate node ∷ steps) k u h =
      node_has Has count method_kind node k false (does i.Pop ∷ method_lines steps (k + length (node_texts node))) u.0
      (first_part k count (node_texts node) (steps_texts steps) h)
      (tt, method_has steps (k + length (node_texts node)) u.1 (then_part k count (node_texts node) (steps_texts steps) h))
  method_has (m.return node ∷ []) k u h =
      node_has Has count method_kind node k false (does i.Return ∷ []) u.0 (first_part k count (node_texts node) [] h) (refl, tt)
  method_has (m.return node ∷ (step ∷ steps)) k u h =
      node_has Has count method_kind node k false (does i.Return ∷ method_lines (step ∷ steps) (k + length (node_texts node))) u.0
      (first_part k count (node_texts node) (steps_texts (step ∷ steps)) h)
      (refl, method_has (step ∷ steps) (k + length (node_texts node)) u.1 (then_part k count (node_texts node) (steps_texts (step ∷ steps)) h))

  block_has : (steps : List m.Step) (k : ℕ) → BlockHas Has steps → k + length (steps_texts steps) ≤ count →
      LinesHave Has count block_kind false (block_lines steps k)
  block_has [] k u h = (tt, (refl, tt))
  block_has (m.evaluate node ∷ []) k u h =
      node_has Has count block_kind node k false (does i.Return ∷ []) u.0 (first_part k count (node_texts node) [] h) (refl, tt)
  block_has (m.return node ∷ []) k u h =
      node_has Has count block_kind node k false (does i.ReturnHome ∷ []) u.0 (first_part k count (node_texts node) [] h) ((u.1, refl), tt)
  block_has (m.evaluate node ∷ (step ∷ steps)) k u h =
      node_has Has count block_kind node k false (does i.Pop ∷ block_lines (step ∷ steps) (k + length (node_texts node))) u.0
      (first_part k count (node_texts node) (steps_texts (step ∷ steps)) h)
      (tt, block_has (step ∷ steps) (k + length (node_texts node)) u.1 (then_part k count (node_texts node) (steps_texts (step ∷ steps)) h))
  block_has (m.return node ∷ (step ∷ steps)) k u h =
      node_has Has count block_kind node k false (does i.ReturnHome ∷ block_lines (step ∷ steps) (k + length (node_texts node))) u.0
      (first_part k count (node_texts node) (steps_texts (step ∷ steps)) h)
      ((u.1, refl), block_has (step ∷ steps) (k + length (node_texts node)) u.2 (then_part k count (node_texts node) (steps_texts (step ∷ steps)) h))

  expressions_have : (nodes : List m.Node) (k : ℕ) → ExpressionsHave Has nodes → k + length (flat_map node_texts nodes) ≤ count →
      LinesHave Has count initialiser_kind true (expressions_lines nodes k)
  expressions_have [] k u h = (refl, tt)
  expressions_have (node ∷ nodes) k u h =
      node_has Has count initialiser_kind node k true (does i.Pop ∷ expressions_lines nodes (k + length (node_texts node))) u.0
      (first_part k count (node_texts node) (flat_map node_texts nodes) h)
      (tt, expressions_have nodes (k + length (node_texts node)) u.1 (then_part k count (node_texts node) (flat_map node_texts nodes) h))

  -- the lines of what a body does
  pub body_has : (body : m.Does) (k : ℕ) → DoesHave Has body → k + length (gathered node_texts nodes_texts body) ≤ count →
      LinesHave Has count (kind_of body) false (body_lines k body)
  body_has (m.as_method values steps) k u h =
      locals_have Has count method_kind values k (steps_texts steps) (method_lines steps) u.0 h (λ n le. method_has steps n u.1 le)
  body_has (m.as_block values steps) k u h =
      locals_have Has count block_kind values k (steps_texts steps) (block_lines steps) u.0 h (λ n le. block_has steps n u.1 le)
  body_has (m.as_initialiser start) k u h =
      let texts = values_texts start.slots ++ flat_map node_texts start.expressions in
      let behind = slots_lines (k + length (nodes_texts start.arguments)) start.slots (expressions_lines start.expressions) in
      nodes_have Has count initialiser_kind start.arguments k false (starts start.place (how_many start.arguments) ∷ behind) u.0
      (first_part k count (nodes_texts start.arguments) texts h) (
        refl,
        refl,
        u.1,
        slots_have Has count initialiser_kind start.slots (k + length (nodes_texts start.arguments)) (flat_map node_texts start.expressions)
            (expressions_lines start.expressions) refl u.2 (then_part k count (nodes_texts start.arguments) texts h)
            (λ n le. expressions_have start.expressions n u.3 le),
      )
  body_has (m.as_clause head) k u h =
      node_has Has count clause_kind head k false (does i.Return ∷ []) u h (refl, tt)
