-- What code says: its selectors and symbols are spelled, its texts are not too long, and its places are fine.
use Rattle.std.specs.Prelude.{List, [], ◌∷◌, All}
use Rattle.ns_base.specs.declared.place.Place.{Place}
use Rattle.ns_code.specs.Fits.{IsName, IsLocalName, IsShort}
use Rattle.ns_resolved.specs.Program as m
use Rattle.ns_link.proofs.Words.{Spoken}

module _ (Fine : Place → Type 0) where
  abbrev pub SentSays : m.Sent → Type 0
  SentSays sent = Spoken sent.selector × Fine sent.place

  abbrev mutual
    pub NodeSays : m.Node → Type 0
    NodeSays m.nil_value = Unit {0}
    NodeSays m.true_value = Unit {0}
    NodeSays m.false_value = Unit {0}
    NodeSays (m.integer n) = Unit {0}
    NodeSays (m.text bytes) = IsShort bytes
    NodeSays (m.symbol name) = IsName name
    NodeSays m.self_value = Unit {0}
    NodeSays (m.local hops index) = Unit {0}
    NodeSays (m.set_local hops index value) = NodeSays value
    NodeSays (m.set_by_send reach sent value) = NodeSays value × SentSays sent
    NodeSays (m.array items) = NodesSay items
    NodeSays (m.block number) = Unit {0}
    NodeSays (m.send receiver sent arguments) = NodeSays receiver × NodesSay arguments × SentSays sent
    NodeSays (m.send_to reach sent arguments) = NodesSay arguments × SentSays sent
    NodeSays (m.send_super sent arguments) = NodesSay arguments × SentSays sent
    NodeSays (m.cascade receiver messages) = NodeSays receiver × MessagesSay messages
    NodeSays (m.in_turn first then_node) = NodeSays first × NodeSays then_node

    pub NodesSay : m.Nodes → Type 0
    NodesSay m.no_nodes = Unit {0}
    NodesSay (m.more_nodes node others) = NodeSays node × NodesSay others

    pub MessagesSay : m.Messages → Type 0
    MessagesSay (m.last_message sent arguments) = NodesSay arguments × SentSays sent
    MessagesSay (m.more_messages sent arguments others) = NodesSay arguments × SentSays sent × MessagesSay others

  abbrev pub FirstsSay : List m.First → Type 0
  FirstsSay [] = Unit {0}
  FirstsSay (first ∷ others) = NodeSays first.value × FirstsSay others

  abbrev pub StepsSay : List m.Step → Type 0
  StepsSay [] = Unit {0}
  StepsSay (m.evaluate node ∷ steps) = NodeSays node × StepsSay steps
  StepsSay (m.return node ∷ steps) = NodeSays node × StepsSay steps

  abbrev pub ExpressionsSay : List m.Node → Type 0
  ExpressionsSay [] = Unit {0}
  ExpressionsSay (node ∷ nodes) = NodeSays node × ExpressionsSay nodes

  abbrev pub DoesSay : m.Does → Type 0
  DoesSay (m.as_method values steps) = FirstsSay values × StepsSay steps
  DoesSay (m.as_block values steps) = FirstsSay values × StepsSay steps
  DoesSay (m.as_initialiser start) = NodesSay start.arguments × Fine start.place × FirstsSay start.slots × ExpressionsSay start.expressions
  DoesSay (m.as_clause head) = NodeSays head

  pub record BodySays (body : m.Body) : Type 0 where
    pub locals : All IsLocalName body.locals
    pub does : DoesSay body.does

pub record MethodSays (method : m.Method) : Type 0 where
  pub selector : Spoken method.selector

pub record SlotSays (slot : m.Slot) : Type 0 where
  pub name : IsName slot.name

-- the names of a class's record
pub record ClassSays (class : m.Declaration) : Type 0 where
  pub name : IsName class.name
  pub factory : Spoken class.factory
  pub super_selector : Spoken class.super_selector
  pub slots : All SlotSays class.slots
  pub methods : All MethodSays class.methods
  pub side_methods : All MethodSays class.side_methods
