-- The walk over an expression meets its names in the order in which its lines use them.
use Rattle.std.proofs.Common.{◌≡◌, ℕ, ◌+◌, List, [], ◌∷◌, ◌++◌, length, refl, sym, ap, ◌∙◌, append_assoc}
use Rattle.std.specs.Prelude.{flat_map}
use Rattle.ns_code.specs.declared.instruction.Instr.TheVariants as i
use Rattle.ns_resolved.specs.Program as m
use Rattle.ns_resolved.specs.Tables.{node_texts, nodes_texts, node_names, nodes_names, messages_names}
use Rattle.ns_gen_code.specs.Code.{CodeLine, does, sends, plain, inner, private_at, super, how_many, set_lines, node_lines, nodes_lines, messages_lines}
use Rattle.ns_gen_code.specs.Stated.{line_names, NamesInOrder}

-- the names of lines
abbrev pub used : List CodeLine → List (List ℕ)
used lines = flat_map line_names lines

-- what comes first, and then a selector and more
selector_last : (names : List (List ℕ)) (selector : List ℕ) (more : List (List ℕ)) →
    names ++ (selector ∷ more) ≡ (names ++ selector ∷ []) ++ more
selector_last names selector more = sym (append_assoc names (selector ∷ []) more)

mutual
  pub node_in_order : (node : m.Node) → NamesInOrder node
  node_in_order m.nil_value k rest = refl
  node_in_order m.true_value k rest = refl
  node_in_order m.false_value k rest = refl
  node_in_order (m.integer n) k rest = refl
  node_in_order (m.text bytes) k rest = refl
  node_in_order (m.symbol name) k rest = refl
  node_in_order m.self_value k rest = refl
  node_in_order (m.local hops index) k rest = refl
  node_in_order (m.set_local hops index value) k rest = node_in_order value k (does (i.StoreLocal hops index) ∷ rest)
  node_in_order (m.set_by_send m.own sent value) k rest =
      node_in_order value k (set_lines m.own sent rest) ∙ selector_last (node_names value) sent.selector (used rest)
  node_in_order (m.set_by_send (m.enclosing level) sent value) k rest =
      node_in_order value k (set_lines (m.enclosing level) sent rest) ∙ selector_last (node_names value) sent.selector (used rest)
  node_in_order (m.set_by_send (m.private_of level) sent value) k rest =
      node_in_order value k (set_lines (m.private_of level) sent rest) ∙ selector_last (node_names value) sent.selector (used rest)
  node_in_order (m.array items) k rest = nodes_in_order items k (does (i.MakeArray (how_many items)) ∷ rest)
  node_in_order (m.block number) k rest = refl
  node_in_order (m.send receiver sent arguments) k rest =
      node_in_order receiver k (nodes_lines (k + length (node_texts receiver)) arguments (sends plain sent (how_many arguments) ∷ rest))
      ∙ ap (node_names receiver ++◌) (nodes_in_order arguments (k + length (node_texts receiver)) (sends plain sent (how_many arguments) ∷ rest)
      ∙ selector_last (nodes_names arguments) sent.selector (used rest))
      ∙ sym (append_assoc (node_names receiver) (nodes_names arguments ++ sent.selector ∷ []) (used rest))
  node_in_order (m.send_to m.own sent arguments) k rest =
      nodes_in_order arguments k (sends inner sent (how_many arguments) ∷ rest) ∙ selector_last (nodes_names arguments) sent.selector (used rest)
  node_in_order (m.send_to (m.enclosing level) sent arguments) k rest =
      nodes_in_order arguments k (sends inner sent (how_many arguments) ∷ rest) ∙ selector_last (nodes_names arguments) sent.selector (used rest)
  node_in_order (m.send_to (m.private_of level) sent arguments) k rest =
      nodes_in_order arguments k (sends (private_at level) sent (how_many arguments) ∷ rest) ∙ selector_last (nodes_names arguments) sent.selector (used rest)
  node_in_order (m.send_super sent arguments) k rest =
      nodes_in_order arguments k (sends super sent (how_many arguments) ∷ rest) ∙ selector_last (nodes_names arguments) sent.selector (used rest)
  node_in_order (m.cascade receiver messages) k rest =
      node_in_order receiver k (messages_lines (k + length (node_texts receiver)) messages rest)
      ∙ ap (node_names receiver ++◌) (messages_in_order messages (k + length (node_texts receiver)) rest)
      ∙ sym (append_assoc (node_names receiver) (messages_names messages) (used rest))
  node_in_order (m.in_turn first then_node) k rest =
      node_in_order first k (does i.Pop ∷ node_lines (k + length (node_texts first)) then_node rest)
      ∙ ap (node_names first ++◌) (node_in_order then_node (k + length (node_texts first)) rest)
      ∙ sym (append_assoc (node_names first) (node_names then_node) (used rest))

  pub nodes_in_order : (nodes : m.Nodes) (k : ℕ) (rest : List CodeLine) → used (nodes_lines k nodes rest) ≡ nodes_names nodes ++ used rest
  nodes_in_order m.no_nodes k rest = refl
  nodes_in_order (m.more_nodes node others) k rest =
      node_in_order node k (nodes_lines (k + length (node_texts node)) others rest)
      ∙ ap (node_names node ++◌) (nodes_in_order others (k + length (node_texts node)) rest)
      ∙ sym (append_assoc (node_names node) (nodes_names others) (used rest))

  messages_in_order : (messages : m.Messages) (k : ℕ) (rest : List CodeLine) → used (messages_lines k messages rest) ≡ messages_names messages ++ used rest
  messages_in_order (m.last_message sent arguments) k rest =
      nodes_in_order arguments k (sends plain sent (how_many arguments) ∷ rest) ∙ selector_last (nodes_names arguments) sent.selector (used rest)
  messages_in_order (m.more_messages sent arguments others) k rest =
      nodes_in_order arguments k (sends plain sent (how_many arguments) ∷ does i.Pop ∷ messages_lines (k + length (nodes_texts arguments)) others rest)
      ∙ ap (λ more. nodes_names arguments ++ (sent.selector ∷ more)) (messages_in_order others (k + length (nodes_texts arguments)) rest)
      ∙ sym (append_assoc (nodes_names arguments) (sent.selector ∷ messages_names others) (used rest))
