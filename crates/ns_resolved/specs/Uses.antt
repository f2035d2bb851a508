-- What the expressions of a body use: each local, declaration, member, block and message that they name.
use Rattle.std.specs.Prelude.{ℕ, ◌+◌, ℤ, List, [], ◌∷◌}
use Rattle.ns_resolved.specs.Program as m

pub data Use : Type 0 where
  -- a local, by how many bodies further out and its number there
  a_local : ℕ → ℕ → Use
  -- the enclosing object for the declaration at that level
  a_level : ℕ → Use
  -- the private member of that selector of the declaration at that level
  a_private : ℕ → List ℕ → Use
  -- a block, by the number of its body
  a_block : ℕ → Use
  -- a message, by its selector and how many arguments are sent
  a_message : List ℕ → ℕ → Use
  -- the superclass message, by how many arguments are sent
  a_start : ℕ → Use
  -- a slot of the body's class, by its number
  a_slot : ℕ → Use
  -- a return from the method in which a block stands
  a_return_home : Use
  an_integer : ℤ → Use
  -- an array of so many elements
  an_array : ℕ → Use

abbrev pub how_many : m.Nodes → ℕ
how_many m.no_nodes = 0
how_many (m.more_nodes node rest) = how_many rest + 1

-- Each use has this property.
module _ (Has : Use → Type 0) where
  -- what a send without a written receiver names beside its message
  abbrev pub ReachHas : m.Reach → List ℕ → Type 0
  ReachHas m.own selector = Unit {0}
  ReachHas (m.enclosing level) selector = Has (a_level level)
  ReachHas (m.private_of level) selector = Has (a_private level selector)

  abbrev mutual
    pub NodeHas : m.Node → Type 0
    NodeHas m.nil_value = Unit {0}
    NodeHas m.true_value = Unit {0}
    NodeHas m.false_value = Unit {0}
    NodeHas (m.integer n) = Has (an_integer n)
    NodeHas (m.text bytes) = Unit {0}
    NodeHas (m.symbol name) = Unit {0}
    NodeHas m.self_value = Unit {0}
    NodeHas (m.local hops index) = Has (a_local hops index)
    NodeHas (m.set_local hops index value) = NodeHas value × Has (a_local hops index)
    NodeHas (m.set_by_send reach sent value) = NodeHas value × ReachHas reach sent.selector × Has (a_message sent.selector 1)
    NodeHas (m.array items) = NodesHave items × Has (an_array (how_many items))
    NodeHas (m.block number) = Has (a_block number)
    NodeHas (m.send receiver sent arguments) = NodeHas receiver × NodesHave arguments × Has (a_message sent.selector (how_many arguments))
    NodeHas (m.send_to reach sent arguments) =
        ReachHas reach sent.selector × NodesHave arguments × Has (a_message sent.selector (how_many arguments))
    NodeHas (m.send_super sent arguments) = NodesHave arguments × Has (a_message sent.selector (how_many arguments))
    NodeHas (m.cascade receiver messages) = NodeHas receiver × MessagesHave messages
    NodeHas (m.in_turn first then_node) = NodeHas first × NodeHas then_node

    pub NodesHave : m.Nodes → Type 0
    NodesHave m.no_nodes = Unit {0}
    NodesHave (m.more_nodes node others) = NodeHas node × NodesHave others

    pub MessagesHave : m.Messages → Type 0
    MessagesHave (m.last_message sent arguments) = NodesHave arguments × Has (a_message sent.selector (how_many arguments))
    MessagesHave (m.more_messages sent arguments others) =
        NodesHave arguments × Has (a_message sent.selector (how_many arguments)) × MessagesHave others

  -- locals that get a value
  abbrev pub LocalsHave : List m.First → Type 0
  LocalsHave [] = Unit {0}
  LocalsHave (first ∷ others) = NodeHas first.value × Has (a_local 0 first.index) × LocalsHave others

  -- slots that get a value
  abbrev pub SlotsHave : List m.First → Type 0
  SlotsHave [] = Unit {0}
  SlotsHave (first ∷ others) = NodeHas first.value × Has (a_slot first.index) × SlotsHave others

  abbrev pub MethodHas : List m.Step → Type 0
  MethodHas [] = Unit {0}
  MethodHas (m.evaluate node ∷ steps) = NodeHas node × MethodHas steps
  MethodHas (m.return node ∷ steps) = NodeHas node × MethodHas steps

  abbrev pub BlockHas : List m.Step → Type 0
  BlockHas [] = Unit {0}
  BlockHas (m.evaluate node ∷ steps) = NodeHas node × BlockHas steps
  BlockHas (m.return node ∷ steps) = NodeHas node × Has a_return_home × BlockHas steps

  abbrev pub ExpressionsHave : List m.Node → Type 0
  ExpressionsHave [] = Unit {0}
  ExpressionsHave (node ∷ nodes) = NodeHas node × ExpressionsHave nodes

  -- what a body does uses nothing without this property
  abbrev pub DoesHave : m.Does → Type 0
  DoesHave (m.as_method values steps) = LocalsHave values × MethodHas steps
  DoesHave (m.as_block values steps) = LocalsHave values × BlockHas steps
  DoesHave (m.as_initialiser start) =
      NodesHave start.arguments × Has (a_start (how_many start.arguments)) × SlotsHave start.slots × ExpressionsHave start.expressions
  DoesHave (m.as_clause head) = NodeHas head
