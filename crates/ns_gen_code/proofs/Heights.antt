-- The instructions of a body find their operands.
use Rattle.std.proofs.Common.{◌≡◌, ℕ, ◌+◌, List, [], ◌∷◌, length, refl, subst, arith}
use Rattle.ns_code.specs.declared.instruction.Instr.{Instr}
use Rattle.ns_code.specs.declared.instruction.Instr.TheVariants as i
use Rattle.ns_resolved.specs.Program as m
use Rattle.ns_resolved.specs.Tables.{node_texts, nodes_texts}
use Rattle.ns_gen_code.specs.Code.{CodeLine, does, sends, starts, plain, inner, private_at, super, how_many, set_lines, node_lines, nodes_lines}
use Rattle.ns_gen_code.specs.Code.{messages_lines, locals_lines, slots_lines, method_lines, block_lines, expressions_lines, body_lines}
use Rattle.ns_gen_code.specs.Stated.{FindsOperands, LinesFind}

-- heights that are equal
at : (instrs : List Instr) (a b : ℕ) → FindsOperands a instrs → a ≡ b → FindsOperands b instrs
at instrs a b f e = subst (λ h. FindsOperands h instrs) e f

module _ (names : List (List ℕ)) where
  mutual
    pub node_finds : (node : m.Node) (k h : ℕ) (rest : List CodeLine) → LinesFind names (h + 1) rest → LinesFind names h (node_lines k node rest)
    node_finds m.nil_value k h rest f = (omega arith, refl, refl, at _ _ _ f (omega arith))
    node_finds m.true_value k h rest f = (omega arith, refl, refl, at _ _ _ f (omega arith))
    node_finds m.false_value k h rest f = (omega arith, refl, refl, at _ _ _ f (omega arith))
    node_finds (m.integer n) k h rest f = (omega arith, refl, refl, at _ _ _ f (omega arith))
    node_finds (m.text bytes) k h rest f = (omega arith, refl, refl, at _ _ _ f (omega arith))
    node_finds (m.symbol name) k h rest f = (omega arith, refl, refl, at _ _ _ f (omega arith))
    node_finds m.self_value k h rest f = (omega arith, refl, refl, at _ _ _ f (omega arith))
    node_finds (m.local hops index) k h rest f = (omega arith, refl, refl, at _ _ _ f (omega arith))
    node_finds (m.set_local hops index value) k h rest f =
        node_finds value k h (does (i.StoreLocal hops index) ∷ rest) (omega arith, refl, refl, at _ _ _ f (omega arith))
    node_finds (m.set_by_send m.own sent value) k h rest f =
        node_finds value k h (set_lines m.own sent rest)
        (omega arith, refl, refl, (omega arith, refl, refl, (omega arith, refl, refl, (omega arith, refl, refl, at _ _ _ f (omega arith)))))
    node_finds (m.set_by_send (m.enclosing level) sent value) k h rest f =
        node_finds value k h (set_lines (m.enclosing level) sent rest)
        (omega arith, refl, refl, (omega arith, refl, refl, (omega arith, refl, refl, (omega arith, refl, refl, at _ _ _ f (omega arith)))))
    node_finds (m.set_by_send (m.private_of level) sent value) k h rest f =
        node_finds value k h (set_lines (m.private_of level) sent rest)
        (omega arith, refl, refl, (omega arith, refl, refl, (omega arith, refl, refl, at _ _ _ f (omega arith))))
    node_finds (m.array items) k h rest f =
        nodes_find items k h (does (i.MakeArray (how_many items)) ∷ rest) (omega arith, refl, refl, at _ _ _ f (omega arith))
    node_finds (m.block number) k h rest f = (omega arith, refl, refl, at _ _ _ f (omega arith))
    node_finds (m.send receiver sent arguments) k h rest f =
        node_finds receiver k h (nodes_lines (k + length (node_texts receiver)) arguments (sends plain sent (how_many arguments) ∷ rest))
        (nodes_find arguments (k + length (node_texts receiver)) (h + 1) (sends plain sent (how_many arguments) ∷ rest)
        (omega arith, refl, refl, at _ _ _ f (omega arith)))
    node_finds (m.send_to m.own sent arguments) k h rest f = (
      omega arith,
      refl,
      refl,
      at _ _ _ (nodes_find arguments k (h + 1) (sends inner sent (how_many arguments) ∷ rest)
          (omega arith, refl, refl, at _ _ _ f (omega arith))) (omega arith),
    )
    node_finds (m.send_to (m.enclosing level) sent arguments) k h rest f = (
      omega arith,
      refl,
      refl,
      at _ _ _ (nodes_find arguments k (h + 1) (sends inner sent (how_many arguments) ∷ rest)
          (omega arith, refl, refl, at _ _ _ f (omega arith))) (omega arith),
    )
    node_finds (m.send_to (m.private_of level) sent arguments) k h rest f =
        nodes_find arguments k h (sends (private_at level) sent (how_many arguments) ∷ rest) (omega arith, refl, refl, at _ _ _ f (omega arith))
    node_finds (m.send_super sent arguments) k h rest f =
        nodes_find arguments k h (sends super sent (how_many arguments) ∷ rest) (omega arith, refl, refl, at _ _ _ f (omega arith))
    node_finds (m.cascade receiver messages) k h rest f =
        node_finds receiver k h (messages_lines (k + length (node_texts receiver)) messages rest)
        (messages_find messages (k + length (node_texts receiver)) h rest f)
    node_finds (m.in_turn first then_node) k h rest f =
        node_finds first k h (does i.Pop ∷ node_lines (k + length (node_texts first)) then_node rest)
        (omega arith, refl, refl, at _ _ _ (node_finds then_node (k + length (node_texts first)) h rest f) (omega arith))

    pub nodes_find : (nodes : m.Nodes) (k h : ℕ) (rest : List CodeLine) → LinesFind names (how_many nodes + h) rest → LinesFind names h (nodes_lines k nodes rest)
    nodes_find m.no_nodes k h rest f = at _ _ _ f (omega arith)
    nodes_find (m.more_nodes node others) k h rest f =
        node_finds node k h (nodes_lines (k + length (node_texts node)) others rest)
        (nodes_find others (k + length (node_texts node)) (h + 1) rest (at _ _ _ f (omega arith)))

    pub messages_find : (messages : m.Messages) (k h : ℕ) (rest : List CodeLine) → LinesFind names (h + 1) rest →
        LinesFind names (h + 1) (messages_lines k messages rest)
    messages_find (m.last_message sent arguments) k h rest f =
        nodes_find arguments k (h + 1) (sends plain sent (how_many arguments) ∷ rest) (omega arith, refl, refl, at _ _ _ f (omega arith))
    messages_find (m.more_messages sent arguments others) k h rest f = (
      omega arith,
      refl,
      refl,
      at _ _ _ (nodes_find arguments k (h + 2)
          (sends plain sent (how_many arguments) ∷ does i.Pop ∷ messages_lines (k + length (nodes_texts arguments)) others rest)
          (omega arith, refl, refl, (omega arith, refl, refl, at _ _ _ (messages_find others (k + length (nodes_texts arguments)) h rest f) (omega arith))))
          (omega arith),
    )

  locals_find : (values : List m.First) (k : ℕ) (rest : ℕ → List CodeLine) → ((n : ℕ) → LinesFind names 0 (rest n)) → LinesFind names 0 (locals_lines k values rest)
  locals_find [] k rest f = f k
  locals_find (first ∷ others) k rest f =
      node_finds first.value k 0 (does (i.StoreLocal 0 first.index) ∷ does i.Pop ∷ locals_lines (k + length (node_texts first.value)) others rest)
      (omega arith, refl, refl, (omega arith, refl, refl, locals_find others (k + length (node_texts first.value)) rest f))

  slots_find : (values : List m.First) (k : ℕ) (rest : ℕ → List CodeLine) → ((n : ℕ) → LinesFind names 0 (rest n)) → LinesFind names 0 (slots_lines k values rest)
  slots_find [] k rest f = f k
  slots_find (first ∷ others) k rest f =
      node_finds first.value k 0 (does (i.StoreSlot first.index) ∷ slots_lines (k + length (node_texts first.value)) others rest)
      (omega arith, refl, refl, slots_find others (k + length (node_texts first.value)) rest f)

  method_finds : (steps : List m.Step) (k : ℕ) → LinesFind names 0 (method_lines steps k)
  method_finds [] k = (omega arith, refl, refl, tt)
  method_finds (m.evaluate node ∷ steps) k =
      node_finds node k 0 (does i.Pop ∷ method_lines steps (k + length (node_texts node)))
      (omega arith, refl, refl, method_finds steps (k + length (node_texts node)))
  method_finds (m.return node ∷ []) k = node_finds node k 0 (does i.Return ∷ []) (omega arith, refl, refl, tt)
  method_finds (m.return node ∷ (step ∷ steps)) k =
      node_finds node k 0 (does i.Return ∷ method_lines (step ∷ steps) (k + length (node_texts node)))
      (omega arith, refl, refl, method_finds (step ∷ steps) (k + length (node_texts node)))

  block_finds : (steps : List m.Step) (k : ℕ) → LinesFind names 0 (block_lines steps k)
  block_finds [] k = (omega arith, refl, refl, (omega arith, refl, refl, tt))
  block_finds (m.evaluate node ∷ []) k = node_finds node k 0 (does i.Return ∷ []) (omega arith, refl, refl, tt)
  block_finds (m.return node ∷ []) k = node_finds node k 0 (does i.ReturnHome ∷ []) (omega arith, refl, refl, tt)
  block_finds (m.evaluate node ∷ (step ∷ steps)) k =
      node_finds node k 0 (does i.Pop ∷ block_lines (step ∷ steps) (k + length (node_texts node)))
      (omega arith, refl, refl, block_finds (step ∷ steps) (k + length (node_texts node)))
  block_finds (m.return node ∷ (step ∷ steps)) k =
      node_finds node k 0 (does i.ReturnHome ∷ block_lines (step ∷ steps) (k + length (node_texts node)))
      (omega arith, refl, refl, block_finds (step ∷ steps) (k + length (node_texts node)))

  expressions_find : (nodes : List m.Node) (k : ℕ) → LinesFind names 0 (expressions_lines nodes k)
  expressions_find [] k = (omega arith, refl, refl, tt)
  expressions_find (node ∷ nodes) k =
      node_finds node k 0 (does i.Pop ∷ expressions_lines nodes (k + length (node_texts node)))
      (omega arith, refl, refl, expressions_find nodes (k + length (node_texts node)))

  initialiser_finds : (start : m.Initialiser) (k : ℕ) → LinesFind names 0 (body_lines k (m.as_initialiser start))
  initialiser_finds start k =
      nodes_find start.arguments k 0 (starts start.place (how_many start.arguments) ∷ slots_lines (k + length (nodes_texts start.arguments)) start.slots
      (expressions_lines start.expressions)) (
        omega arith,
        refl,
        refl,
        at _ _ _ (slots_find start.slots (k + length (nodes_texts start.arguments)) (expressions_lines start.expressions)
            (expressions_find start.expressions)) (omega arith),
      )

  pub body_finds : (body : m.Does) (k : ℕ) → LinesFind names 0 (body_lines k body)
  body_finds (m.as_method values steps) k = locals_find values k (method_lines steps) (method_finds steps)
  body_finds (m.as_block values steps) k = locals_find values k (block_lines steps) (block_finds steps)
  body_finds (m.as_initialiser start) k = initialiser_finds start k
  body_finds (m.as_clause head) k = node_finds head k 0 (does i.Return ∷ []) (omega arith, refl, refl, tt)
