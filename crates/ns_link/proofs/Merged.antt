-- Two properties of the uses of a body are one.
use Rattle.std.proofs.Common.{ℕ, List, [], ◌∷◌}
use Rattle.ns_resolved.specs.Program as m
use Rattle.ns_resolved.specs.Uses.{Use, a_local, a_level, a_private, a_block, a_message, a_start, a_slot, a_return_home, an_integer, an_array, how_many}
use Rattle.ns_resolved.specs.Uses.{ReachHas, NodeHas, NodesHave, MessagesHave, LocalsHave, SlotsHave, MethodHas, BlockHas, ExpressionsHave, DoesHave}

module _ (P Q R : Use → Type 0) (one : (used : Use) → P used → Q used → R used) where
  reach_merged : (reach : m.Reach) (selector : List ℕ) → ReachHas P reach selector → ReachHas Q reach selector → ReachHas R reach selector
  reach_merged m.own selector p q = tt
  reach_merged (m.enclosing level) selector p q = one (a_level level) p q
  reach_merged (m.private_of level) selector p q = one (a_private level selector) p q

  mutual
    node_merged : (node : m.Node) → NodeHas P node → NodeHas Q node → NodeHas R node
    node_merged m.nil_value p q = tt
    node_merged m.true_value p q = tt
    node_merged m.false_value p q = tt
    node_merged (m.integer n) p q = one (an_integer n) p q
    node_merged (m.text bytes) p q = tt
    node_merged (m.symbol name) p q = tt
    node_merged m.self_value p q = tt
    node_merged (m.local hops index) p q = one (a_local hops index) p q
    node_merged (m.set_local hops index value) p q = (node_merged value p.0 q.0, one (a_local hops index) p.1 q.1)
    node_merged (m.set_by_send reach sent value) p q =
        (node_merged value p.0 q.0, reach_merged reach sent.selector p.1 q.1, one (a_message sent.selector 1) p.2 q.2)
    node_merged (m.array items) p q = (nodes_merged items p.0 q.0, one (an_array (how_many items)) p.1 q.1)
    node_merged (m.block number) p q = one (a_block number) p q
    node_merged (m.send receiver sent arguments) p q =
        (node_merged receiver p.0 q.0, nodes_merged arguments p.1 q.1, one (a_message sent.selector (how_many arguments)) p.2 q.2)
    node_merged (m.send_to reach sent arguments) p q =
        (reach_merged reach sent.selector p.0 q.0, nodes_merged arguments p.1 q.1, one (a_message sent.selector (how_many arguments)) p.2 q.2)
    node_merged (m.send_super sent arguments) p q = (nodes_merged arguments p.0 q.0, one (a_message sent.selector (how_many arguments)) p.1 q.1)
    node_merged (m.cascade receiver messages) p q = (node_merged receiver p.0 q.0, messages_merged messages p.1 q.1)
    node_merged (m.in_turn first then_node) p q = (node_merged first p.0 q.0, node_merged then_node p.1 q.1)

    nodes_merged : (nodes : m.Nodes) → NodesHave P nodes → NodesHave Q nodes → NodesHave R nodes
    nodes_merged m.no_nodes p q = tt
    nodes_merged (m.more_nodes node others) p q = (node_merged node p.0 q.0, nodes_merged others p.1 q.1)

    messages_merged : (messages : m.Messages) → MessagesHave P messages → MessagesHave Q messages → MessagesHave R messages
    messages_merged (m.last_message sent arguments) p q = (nodes_merged arguments p.0 q.0, one (a_message sent.selector (how_many arguments)) p.1 q.1)
    messages_merged (m.more_messages sent arguments others) p q =
        (nodes_merged arguments p.0 q.0, one (a_message sent.selector (how_many arguments)) p.1 q.1, messages_merged others p.2 q.2)

  locals_merged : (values : List m.First) → LocalsHave P values → LocalsHave Q values → LocalsHave R values
  locals_merged [] p q = tt
  locals_merged (first ∷ others) p q = (node_merged first.value p.0 q.0, one (a_local 0 first.index) p.1 q.1, locals_merged others p.2 q.2)

  slots_merged : (values : List m.First) → SlotsHave P values → SlotsHave Q values → SlotsHave R values
  slots_merged [] p q = tt
  slots_merged (first ∷ others) p q = (node_merged first.value p.0 q.0, one (a_slot first.index) p.1 q.1, slots_merged others p.2 q.2)

  method_merged : (steps : List m.Step) → MethodHas P steps → MethodHas Q steps → MethodHas R steps
  method_merged [] p q = tt
  method_merged (m.evaluate node ∷ steps) p q = (node_merged node p.0 q.0, method_merged steps p.1 q.1)
  method_merged (m.return node ∷ steps) p q = (node_merged node p.0 q.0, method_merged steps p.1 q.1)

  block_merged : (steps : List m.Step) → BlockHas P steps → BlockHas Q steps → BlockHas R steps
  block_merged [] p q = tt
  block_merged (m.evaluate node ∷ steps) p q = (node_merged node p.0 q.0, block_merged steps p.1 q.1)
  block_merged (m.return node ∷ steps) p q = (node_merged node p.0 q.0, one a_return_home p.1 q.1, block_merged steps p.2 q.2)

  expressions_merged : (nodes : List m.Node) → ExpressionsHave P nodes → ExpressionsHave Q nodes → ExpressionsHave R nodes
  expressions_merged [] p q = tt
  expressions_merged (node ∷ nodes) p q = (node_merged node p.0 q.0, expressions_merged nodes p.1 q.1)

  pub does_merged : (does : m.Does) → DoesHave P does → DoesHave Q does → DoesHave R does
  does_merged (m.as_method values steps) p q = (locals_merged values p.0 q.0, method_merged steps p.1 q.1)
  does_merged (m.as_block values steps) p q = (locals_merged values p.0 q.0, block_merged steps p.1 q.1)
  does_merged (m.as_initialiser start) p q = (
    nodes_merged start.arguments p.0 q.0,
    one (a_start (how_many start.arguments)) p.1 q.1,
    slots_merged start.slots p.2 q.2,
    expressions_merged start.expressions p.3 q.3,
  )
  does_merged (m.as_clause head) p q = node_merged head p q
