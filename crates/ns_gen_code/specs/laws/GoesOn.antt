-- The lines of an expression stand before what follows, whatever that is.
use Rattle.std.proofs.Common.{◌≡◌, ℕ, ◌+◌, List, ◌∷◌, ◌++◌, length, refl, ap, ◌∙◌}
use Rattle.ns_code.specs.declared.instruction.Instr.TheVariants as i
use Rattle.ns_resolved.specs.Program as m
use Rattle.ns_resolved.specs.Tables.{node_texts, nodes_texts}
use Rattle.ns_gen_code.specs.Code.{CodeLine, does, sends, plain, inner, private_at, super, how_many, set_lines, node_lines, nodes_lines, messages_lines}
use Rattle.ns_gen_code.specs.Stated.{GoOn}

mutual
  -- The lines of a node, before others, are its lines and then those.
  pub node_goes_on : (node : m.Node) → GoOn node
  node_goes_on m.nil_value k rest more = refl
  node_goes_on m.true_value k rest more = refl
  node_goes_on m.false_value k rest more = refl
  node_goes_on (m.integer n) k rest more = refl
  node_goes_on (m.text bytes) k rest more = refl
  node_goes_on (m.symbol name) k rest more = refl
  node_goes_on m.self_value k rest more = refl
  node_goes_on (m.local hops index) k rest more = refl
  node_goes_on (m.set_local hops index value) k rest more = node_goes_on value k (does (i.StoreLocal hops index) ∷ rest) more
  node_goes_on (m.set_by_send m.own sent value) k rest more = node_goes_on value k (set_lines m.own sent rest) more
  node_goes_on (m.set_by_send (m.enclosing level) sent value) k rest more = node_goes_on value k (set_lines (m.enclosing level) sent rest) more
  node_goes_on (m.set_by_send (m.private_of level) sent value) k rest more = node_goes_on value k (set_lines (m.private_of level) sent rest) more
  node_goes_on (m.array items) k rest more = nodes_go_on items k (does (i.MakeArray (how_many items)) ∷ rest) more
  node_goes_on (m.block number) k rest more = refl
  node_goes_on (m.send receiver sent arguments) k rest more =
      ap (node_lines k receiver) (nodes_go_on arguments (k + length (node_texts receiver)) (sends plain sent (how_many arguments) ∷ rest) more)
      ∙ node_goes_on receiver k (nodes_lines (k + length (node_texts receiver)) arguments (sends plain sent (how_many arguments) ∷ rest)) more
  node_goes_on (m.send_to m.own sent arguments) k rest more =
      ap (does i.PushSelf ∷◌) (nodes_go_on arguments k (sends inner sent (how_many arguments) ∷ rest) more)
  node_goes_on (m.send_to (m.enclosing level) sent arguments) k rest more =
      ap (does (i.PushOuter level) ∷◌) (nodes_go_on arguments k (sends inner sent (how_many arguments) ∷ rest) more)
  node_goes_on (m.send_to (m.private_of level) sent arguments) k rest more =
      nodes_go_on arguments k (sends (private_at level) sent (how_many arguments) ∷ rest) more
  node_goes_on (m.send_super sent arguments) k rest more = nodes_go_on arguments k (sends super sent (how_many arguments) ∷ rest) more
  node_goes_on (m.cascade receiver messages) k rest more =
      ap (node_lines k receiver) (messages_go_on messages (k + length (node_texts receiver)) rest more)
      ∙ node_goes_on receiver k (messages_lines (k + length (node_texts receiver)) messages rest) more
  node_goes_on (m.in_turn first then_node) k rest more =
      ap (λ lines. node_lines k first (does i.Pop ∷ lines)) (node_goes_on then_node (k + length (node_texts first)) rest more)
      ∙ node_goes_on first k (does i.Pop ∷ node_lines (k + length (node_texts first)) then_node rest) more

  -- The lines of nodes, before others, are their lines and then those.
  pub nodes_go_on : (nodes : m.Nodes) (k : ℕ) (rest more : List CodeLine) → nodes_lines k nodes (rest ++ more) ≡ nodes_lines k nodes rest ++ more
  nodes_go_on m.no_nodes k rest more = refl
  nodes_go_on (m.more_nodes node others) k rest more =
      ap (node_lines k node) (nodes_go_on others (k + length (node_texts node)) rest more)
      ∙ node_goes_on node k (nodes_lines (k + length (node_texts node)) others rest) more

  messages_go_on : (messages : m.Messages) (k : ℕ) (rest more : List CodeLine) →
      messages_lines k messages (rest ++ more) ≡ messages_lines k messages rest ++ more
  messages_go_on (m.last_message sent arguments) k rest more = nodes_go_on arguments k (sends plain sent (how_many arguments) ∷ rest) more
  messages_go_on (m.more_messages sent arguments others) k rest more =
      ap (λ lines. does (i.Pick 0) ∷ nodes_lines k arguments (sends plain sent (how_many arguments) ∷ does i.Pop ∷ lines))
      (messages_go_on others (k + length (nodes_texts arguments)) rest more)
      ∙ ap (does (i.Pick 0) ∷◌) (nodes_go_on arguments k
      (sends plain sent (how_many arguments) ∷ does i.Pop ∷ messages_lines (k + length (nodes_texts arguments)) others rest) more)
