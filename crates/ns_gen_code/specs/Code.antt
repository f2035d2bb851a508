-- The code of a program.
use Rattle.std.specs.Prelude.{ℕ, ◌+◌, ◌∷◌, [], List, map, length, max, if◌then◌else◌}
use Rattle.ns_base.specs.declared.place.Place.{Place}
use Rattle.ns_code.specs.declared.program.CodeProgram.{CodeProgram}
use Rattle.ns_code.specs.declared.body.BodyCode.{BodyCode}
use Rattle.ns_code.specs.declared.instruction.Instr.{Instr}
use Rattle.ns_code.specs.declared.instruction.Instr.TheVariants as i
use Rattle.ns_code.specs.Table.{height_after, goes_on}
use Rattle.ns_resolved.specs.Program as m
use Rattle.ns_resolved.specs.Tables.{node_texts, nodes_texts, body_texts, sel_of, body_head, tables}
pub use Rattle.ns_resolved.specs.Uses.{how_many}

-- ---- lines: instructions before their selectors have numbers

-- how a send finds its method
pub data Way : Type 0 where
  plain : Way
  inner : Way
  private_at : ℕ → Way
  super : Way

pub data CodeLine : Type 0 where
  -- an instruction that names no selector and no place
  does : Instr → CodeLine
  -- the symbol of that text
  symbol : List ℕ → CodeLine
  -- a send with so many arguments
  sends : Way → m.Sent → ℕ → CodeLine
  -- a superclass part that is initialised with so many arguments
  starts : Place → ℕ → CodeLine

-- the object under the arguments of a send
abbrev pub object_lines : m.Reach → List CodeLine → List CodeLine
object_lines m.own rest = does i.PushSelf ∷ rest
object_lines (m.enclosing level) rest = does (i.PushOuter level) ∷ rest
object_lines (m.private_of level) rest = rest

abbrev pub way_of : m.Reach → Way
way_of m.own = inner
way_of (m.enclosing level) = inner
way_of (m.private_of level) = private_at level

-- the value is kept under a send of a setter with it
abbrev pub set_lines : m.Reach → m.Sent → List CodeLine → List CodeLine
set_lines (m.private_of level) sent rest = does (i.Pick 0) ∷ sends (private_at level) sent 1 ∷ does i.Pop ∷ rest
set_lines m.own sent rest = does i.PushSelf ∷ does (i.Pick 1) ∷ sends inner sent 1 ∷ does i.Pop ∷ rest
set_lines (m.enclosing level) sent rest = does (i.PushOuter level) ∷ does (i.Pick 1) ∷ sends inner sent 1 ∷ does i.Pop ∷ rest

-- ---- expressions, before what follows; the number beside one is that of its first literal text

abbrev mutual
  pub node_lines : ℕ → m.Node → List CodeLine → List CodeLine
  node_lines k m.nil_value rest = does i.PushNil ∷ rest
  node_lines k m.true_value rest = does i.PushTrue ∷ rest
  node_lines k m.false_value rest = does i.PushFalse ∷ rest
  node_lines k (m.integer n) rest = does (i.PushInt n) ∷ rest
  node_lines k (m.text bytes) rest = does (i.PushText k) ∷ rest
  node_lines k (m.symbol name) rest = symbol name ∷ rest
  node_lines k m.self_value rest = does i.PushSelf ∷ rest
  node_lines k (m.local hops index) rest = does (i.PushLocal hops index) ∷ rest
  node_lines k (m.set_local hops index value) rest = node_lines k value (does (i.StoreLocal hops index) ∷ rest)
  node_lines k (m.set_by_send reach sent value) rest = node_lines k value (set_lines reach sent rest)
  node_lines k (m.array items) rest = nodes_lines k items (does (i.MakeArray (how_many items)) ∷ rest)
  node_lines k (m.block number) rest = does (i.PushBlock number) ∷ rest
  node_lines k (m.send receiver sent arguments) rest =
      node_lines k receiver (nodes_lines (k + length (node_texts receiver)) arguments (sends plain sent (how_many arguments) ∷ rest))
  node_lines k (m.send_to reach sent arguments) rest = object_lines reach (nodes_lines k arguments (sends (way_of reach) sent (how_many arguments) ∷ rest))
  node_lines k (m.send_super sent arguments) rest = nodes_lines k arguments (sends super sent (how_many arguments) ∷ rest)
  node_lines k (m.cascade receiver messages) rest = node_lines k receiver (messages_lines (k + length (node_texts receiver)) messages rest)
  node_lines k (m.in_turn first then_node) rest = node_lines k first (does i.Pop ∷ node_lines (k + length (node_texts first)) then_node rest)

  pub nodes_lines : ℕ → m.Nodes → List CodeLine → List CodeLine
  nodes_lines k m.no_nodes rest = rest
  nodes_lines k (m.more_nodes node others) rest = node_lines k node (nodes_lines (k + length (node_texts node)) others rest)

  -- the receiver is kept under each message but the last
  pub messages_lines : ℕ → m.Messages → List CodeLine → List CodeLine
  messages_lines k (m.last_message sent arguments) rest = nodes_lines k arguments (sends plain sent (how_many arguments) ∷ rest)
  messages_lines k (m.more_messages sent arguments others) rest =
      does (i.Pick 0) ∷ nodes_lines k arguments
      (sends plain sent (how_many arguments) ∷ does i.Pop ∷ messages_lines (k + length (nodes_texts arguments)) others rest)

-- ---- bodies; what follows depends on the number of the next literal text

-- values that locals get
abbrev pub locals_lines : ℕ → List m.First → (ℕ → List CodeLine) → List CodeLine
locals_lines k [] rest = rest k
locals_lines k (first ∷ others) rest =
    node_lines k first.value (does (i.StoreLocal 0 first.index) ∷ does i.Pop ∷ locals_lines (k + length (node_texts first.value)) others rest)

-- values that slots get
abbrev pub slots_lines : ℕ → List m.First → (ℕ → List CodeLine) → List CodeLine
slots_lines k [] rest = rest k
slots_lines k (first ∷ others) rest =
    node_lines k first.value (does (i.StoreSlot first.index) ∷ slots_lines (k + length (node_texts first.value)) others rest)

-- the steps of a method, which ends with self unless the last one returns
abbrev pub method_lines : List m.Step → ℕ → List CodeLine
method_lines [] k = does i.ReturnSelf ∷ []
method_lines (m.evaluate node ∷ steps) k = node_lines k node (does i.Pop ∷ method_lines steps (k + length (node_texts node)))
method_lines (m.return node ∷ []) k = node_lines k node (does i.Return ∷ [])
method_lines (m.return node ∷ (step ∷ steps)) k =
    node_lines k node (does i.Return ∷ method_lines (step ∷ steps) (k + length (node_texts node)))

-- the steps of a block, which ends with the value of the last one unless that returns from the home
abbrev pub block_lines : List m.Step → ℕ → List CodeLine
block_lines [] k = does i.PushNil ∷ does i.Return ∷ []
block_lines (m.evaluate node ∷ []) k = node_lines k node (does i.Return ∷ [])
block_lines (m.return node ∷ []) k = node_lines k node (does i.ReturnHome ∷ [])
block_lines (m.evaluate node ∷ (step ∷ steps)) k =
    node_lines k node (does i.Pop ∷ block_lines (step ∷ steps) (k + length (node_texts node)))
block_lines (m.return node ∷ (step ∷ steps)) k =
    node_lines k node (does i.ReturnHome ∷ block_lines (step ∷ steps) (k + length (node_texts node)))

-- the expressions of an initialiser, which ends with self
abbrev pub expressions_lines : List m.Node → ℕ → List CodeLine
expressions_lines [] k = does i.ReturnSelf ∷ []
expressions_lines (node ∷ nodes) k = node_lines k node (does i.Pop ∷ expressions_lines nodes (k + length (node_texts node)))

-- the lines of a body whose first literal text has that number
abbrev pub body_lines : ℕ → m.Does → List CodeLine
body_lines k (m.as_method values steps) = locals_lines k values (method_lines steps)
body_lines k (m.as_block values steps) = locals_lines k values (block_lines steps)
body_lines k (m.as_initialiser start) =
    nodes_lines k start.arguments (starts start.place (how_many start.arguments) ∷ slots_lines (k + length (nodes_texts start.arguments)) start.slots
    (expressions_lines start.expressions))
body_lines k (m.as_clause head) = node_lines k head (does i.Return ∷ [])

-- ---- instructions and places

abbrev pub send_instr : List (List ℕ) → Way → List ℕ → ℕ → Instr
send_instr names plain selector count = i.Send (sel_of names selector) count
send_instr names inner selector count = i.SendInner (sel_of names selector) count
send_instr names (private_at level) selector count = i.SendPrivate level (sel_of names selector) count
send_instr names super selector count = i.SendSuper (sel_of names selector) count

abbrev pub instr_of : List (List ℕ) → CodeLine → Instr
instr_of names (does instr) = instr
instr_of names (symbol name) = i.PushSym (sel_of names name)
instr_of names (sends way sent count) = send_instr names way sent.selector count
instr_of names (starts place count) = i.InitSuper count

-- the places of sends and superclass parts, by the numbers of their instructions, which are counted from this one on
abbrev pub places_from : ℕ → List CodeLine → List (ℕ × Place)
places_from number [] = []
places_from number (does instr ∷ lines) = places_from (number + 1) lines
places_from number (symbol name ∷ lines) = places_from (number + 1) lines
places_from number (sends way sent count ∷ lines) = (number, sent.place) ∷ places_from (number + 1) lines
places_from number (starts place count ∷ lines) = (number, place) ∷ places_from (number + 1) lines

-- the height before the next instruction
abbrev pub height_before_next : Instr → ℕ → ℕ
height_before_next instr height = if goes_on instr then height_after instr height else 0

-- the greatest height of instructions without jumps, which begin at this one
abbrev pub greatest_height : ℕ → List Instr → ℕ
greatest_height height [] = height
greatest_height height (instr ∷ instrs) = max height (greatest_height (height_before_next instr height) instrs)

-- ---- the whole

abbrev pub with_code : List (List ℕ) → BodyCode → List CodeLine → BodyCode
with_code names head lines =
    record head { height = greatest_height 0 (map (instr_of names) lines); instrs = map (instr_of names) lines; places = places_from 0 lines }

abbrev pub body_code : List (List ℕ) → ℕ → m.Body → BodyCode
body_code names k body = with_code names (body_head body) (body_lines k body.does)

-- bodies, of which the first literal text has that number
abbrev pub bodies_code : List (List ℕ) → ℕ → List m.Body → List BodyCode
bodies_code names k [] = []
bodies_code names k (body ∷ bodies) = body_code names k body ∷ bodies_code names (k + length (body_texts body)) bodies

abbrev pub code_of : m.Meant → CodeProgram
code_of meant = record (tables meant) { bodies = bodies_code (tables meant).names 0 meant.bodies }
