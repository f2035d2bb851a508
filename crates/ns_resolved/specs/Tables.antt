-- The tables of a program: its names and texts, the records of its classes and the heads of its bodies. There are no
-- instructions in them; what single actions read of a program is all here.
use Rattle.std.specs.Prelude.{ℕ, List, [], ◌∷◌, ◌++◌, length, map, fold, flat_map}
use Rattle.ns_base.specs.declared.selector.Sel.{Sel}
use Rattle.ns_base.specs.Names.{put_in, place_of}
use Rattle.ns_tree.specs.declared.tree.Access.{Access}
use Rattle.ns_tree.specs.declared.tree.Access.TheVariants as a
use Rattle.ns_scope.specs.declared.scope.CodeSide.{CodeSide}
use Rattle.ns_scope.specs.declared.scope.CodeSide.TheVariants as side
use Rattle.ns_code.specs.declared.program.CodeProgram.{CodeProgram}
use Rattle.ns_code.specs.declared.class.ClassCode.{ClassCode}
use Rattle.ns_code.specs.declared.class.SlotCode.{SlotCode}
use Rattle.ns_code.specs.declared.class.NestedCode.{NestedCode}
use Rattle.ns_code.specs.declared.class.MethodCode.{MethodCode}
use Rattle.ns_code.specs.declared.body.BodyCode.{BodyCode}
use Rattle.ns_code.specs.Soundness.{method_kind, block_kind, initialiser_kind, clause_kind, instance_side, class_side}
use Rattle.ns_resolved.specs.Program as m

-- ---- names, in the order in which code uses them

abbrev mutual
  -- A receiver and arguments come before the selector.
  pub node_names : m.Node → List (List ℕ)
  node_names m.nil_value = []
  node_names m.true_value = []
  node_names m.false_value = []
  node_names (m.integer n) = []
  node_names (m.text bytes) = []
  node_names (m.symbol name) = name ∷ []
  node_names m.self_value = []
  node_names (m.local hops index) = []
  node_names (m.set_local hops index value) = node_names value
  node_names (m.set_by_send reach sent value) = node_names value ++ sent.selector ∷ []
  node_names (m.array items) = nodes_names items
  node_names (m.block number) = []
  node_names (m.send receiver sent arguments) = node_names receiver ++ (nodes_names arguments ++ sent.selector ∷ [])
  node_names (m.send_to reach sent arguments) = nodes_names arguments ++ sent.selector ∷ []
  node_names (m.send_super sent arguments) = nodes_names arguments ++ sent.selector ∷ []
  node_names (m.cascade receiver messages) = node_names receiver ++ messages_names messages
  node_names (m.in_turn first then_node) = node_names first ++ node_names then_node

  pub nodes_names : m.Nodes → List (List ℕ)
  nodes_names m.no_nodes = []
  nodes_names (m.more_nodes node rest) = node_names node ++ nodes_names rest

  pub messages_names : m.Messages → List (List ℕ)
  messages_names (m.last_message sent arguments) = nodes_names arguments ++ sent.selector ∷ []
  messages_names (m.more_messages sent arguments rest) = nodes_names arguments ++ (sent.selector ∷ messages_names rest)

-- ---- literal texts, in the order of the text

abbrev mutual
  pub node_texts : m.Node → List (List ℕ)
  node_texts m.nil_value = []
  node_texts m.true_value = []
  node_texts m.false_value = []
  node_texts (m.integer n) = []
  node_texts (m.text bytes) = bytes ∷ []
  node_texts (m.symbol name) = []
  node_texts m.self_value = []
  node_texts (m.local hops index) = []
  node_texts (m.set_local hops index value) = node_texts value
  node_texts (m.set_by_send reach sent value) = node_texts value
  node_texts (m.array items) = nodes_texts items
  node_texts (m.block number) = []
  node_texts (m.send receiver sent arguments) = node_texts receiver ++ nodes_texts arguments
  node_texts (m.send_to reach sent arguments) = nodes_texts arguments
  node_texts (m.send_super sent arguments) = nodes_texts arguments
  node_texts (m.cascade receiver messages) = node_texts receiver ++ messages_texts messages
  node_texts (m.in_turn first then_node) = node_texts first ++ node_texts then_node

  pub nodes_texts : m.Nodes → List (List ℕ)
  nodes_texts m.no_nodes = []
  nodes_texts (m.more_nodes node rest) = node_texts node ++ nodes_texts rest

  pub messages_texts : m.Messages → List (List ℕ)
  messages_texts (m.last_message sent arguments) = nodes_texts arguments
  messages_texts (m.more_messages sent arguments rest) = nodes_texts arguments ++ messages_texts rest

-- ---- what a body says, expression by expression

-- the expressions of values and steps
abbrev pub value_of : m.First → m.Node
value_of first = first.value

-- the expression of a step
abbrev pub step_node : m.Step → m.Node
step_node (m.evaluate node) = node
step_node (m.return node) = node

-- what a body's expressions give, in the order of the text
abbrev pub gathered : (m.Node → List (List ℕ)) → (m.Nodes → List (List ℕ)) → m.Does → List (List ℕ)
gathered of_node of_nodes (m.as_method values steps) =
    flat_map (λ first. of_node (value_of first)) values ++ flat_map (λ step. of_node (step_node step)) steps
gathered of_node of_nodes (m.as_block values steps) =
    flat_map (λ first. of_node (value_of first)) values ++ flat_map (λ step. of_node (step_node step)) steps
gathered of_node of_nodes (m.as_initialiser start) =
    of_nodes start.arguments ++ (flat_map (λ first. of_node (value_of first)) start.slots ++ flat_map of_node start.expressions)
gathered of_node of_nodes (m.as_clause head) = of_node head

abbrev pub body_names : m.Body → List (List ℕ)
body_names body = gathered node_names nodes_names body.does

abbrev pub body_texts : m.Body → List (List ℕ)
body_texts body = gathered node_texts nodes_texts body.does

-- ---- the tables of names and texts

-- the names of a class's record, in their order
abbrev pub class_names : m.Declaration → List (List ℕ)
class_names class =
    class.name ∷ class.factory ∷ class.super_selector
    ∷ (map (λ slot. slot.name) class.slots
    ++ (map (λ method. method.selector) class.methods ++ map (λ method. method.selector) class.side_methods))

-- all names that the code uses: the records of the classes come before all instructions
abbrev pub used_names : m.Meant → List (List ℕ)
used_names meant = flat_map class_names meant.classes ++ flat_map body_names meant.bodies

-- a table with further names, each of which goes last where it is new
abbrev pub put_all : List (List ℕ) → List (List ℕ) → List (List ℕ)
put_all table names = fold put_in table names

-- each name once, in the order of first use
abbrev pub names_of : m.Meant → List (List ℕ)
names_of meant = put_all [] (used_names meant)

-- one text for each literal
abbrev pub texts_of : m.Meant → List (List ℕ)
texts_of meant = flat_map body_texts meant.bodies

-- the number of a name is its place
abbrev pub sel_of : List (List ℕ) → List ℕ → Sel
sel_of names name = record { 0 = place_of names name }

-- ---- records of classes

abbrev pub access_number : Access → ℕ
access_number a.Public = 0
access_number a.Protected = 1
access_number a.Private = 2

abbrev pub slot_code : List (List ℕ) → m.Slot → SlotCode
slot_code names slot = record { name = sel_of names slot.name; access = access_number slot.access; mutable = slot.mutable }

abbrev pub nested_code : m.Nested → NestedCode
nested_code nested = record { class = nested.class; access = access_number nested.access }

abbrev pub method_code : List (List ℕ) → m.Method → MethodCode
method_code names method = record { sel = sel_of names method.selector; access = access_number method.access; body = method.body }

abbrev pub class_code : List (List ℕ) → m.Declaration → ClassCode
class_code names class =
    record {
      name = sel_of names class.name;
      outer = class.outer;
      factory = sel_of names class.factory;
      params = class.params;
      clause = class.clause;
      init = class.initialiser;
      super_sel = sel_of names class.super_selector;
      slots = map (slot_code names) class.slots;
      nested = map nested_code class.nested;
      methods = map (method_code names) class.methods;
      side_methods = map (method_code names) class.side_methods;
    }

-- ---- heads of bodies

abbrev pub kind_of : m.Does → ℕ
kind_of (m.as_method values steps) = method_kind
kind_of (m.as_block values steps) = block_kind
kind_of (m.as_initialiser start) = initialiser_kind
kind_of (m.as_clause head) = clause_kind

abbrev pub side_number : CodeSide → ℕ
side_number side.Instance = instance_side
side_number side.Class = class_side

-- a body without its code
abbrev pub body_head : m.Body → BodyCode
body_head body =
    record {
      kind = kind_of body.does;
      side = side_number body.side;
      class = body.class;
      parent = body.parent;
      params = body.params;
      locals = length body.locals;
      environment = body.environment;
      height = 0;
      instrs = [];
      places = [];
      local_names = body.locals;
    }

-- ---- the whole

abbrev pub tables : m.Meant → CodeProgram
tables meant =
    record {
      files = meant.files;
      names = names_of meant;
      texts = texts_of meant;
      classes = map (class_code (names_of meant)) meant.classes;
      bodies = map body_head meant.bodies;
    }
