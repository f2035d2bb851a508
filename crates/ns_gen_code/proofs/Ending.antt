-- Each body ends with a return.
use Rattle.std.proofs.Common.{ℕ, ◌+◌, List, [], ◌∷◌, length, refl}
use Rattle.ns_code.specs.declared.instruction.Instr.TheVariants as i
use Rattle.ns_resolved.specs.Program as m
use Rattle.ns_resolved.specs.Tables.{node_texts, nodes_texts}
use Rattle.ns_gen_code.specs.Code.{CodeLine, does, symbol, sends, starts, plain, inner, private_at, super, how_many, set_lines, node_lines, nodes_lines}
use Rattle.ns_gen_code.specs.Code.{messages_lines, locals_lines, slots_lines, method_lines, block_lines, expressions_lines, body_lines}
use Rattle.ns_gen_code.specs.Stated.{Ends}

more : (line : CodeLine) (lines : List CodeLine) → Ends lines → Ends (line ∷ lines)
more line [] e = absurd e
more line (next ∷ lines) e = e

mutual
  node_ends : (node : m.Node) (k : ℕ) (rest : List CodeLine) → Ends rest → Ends (node_lines k node rest)
  node_ends m.nil_value k rest e = more (does i.PushNil) rest e
  node_ends m.true_value k rest e = more (does i.PushTrue) rest e
  node_ends m.false_value k rest e = more (does i.PushFalse) rest e
  node_ends (m.integer n) k rest e = more (does (i.PushInt n)) rest e
  node_ends (m.text bytes) k rest e = more (does (i.PushText k)) rest e
  node_ends (m.symbol name) k rest e = more (symbol name) rest e
  node_ends m.self_value k rest e = more (does i.PushSelf) rest e
  node_ends (m.local hops index) k rest e = more (does (i.PushLocal hops index)) rest e
  node_ends (m.set_local hops index value) k rest e = node_ends value k _ (more (does (i.StoreLocal hops index)) rest e)
  node_ends (m.set_by_send m.own sent value) k rest e = node_ends value k (set_lines m.own sent rest) (more (does i.Pop) rest e)
  node_ends (m.set_by_send (m.enclosing level) sent value) k rest e = node_ends value k (set_lines (m.enclosing level) sent rest) (more (does i.Pop) rest e)
  node_ends (m.set_by_send (m.private_of level) sent value) k rest e = node_ends value k (set_lines (m.private_of level) sent rest) (more (does i.Pop) rest e)
  node_ends (m.array items) k rest e = nodes_end items k _ (more (does (i.MakeArray (how_many items))) rest e)
  node_ends (m.block number) k rest e = more (does (i.PushBlock number)) rest e
  node_ends (m.send receiver sent arguments) k rest e =
      node_ends receiver k _ (nodes_end arguments (k + length (node_texts receiver)) _ (more (sends plain sent (how_many arguments)) rest e))
  node_ends (m.send_to m.own sent arguments) k rest e =
      more (does i.PushSelf) (nodes_lines k arguments (sends inner sent (how_many arguments) ∷ rest))
      (nodes_end arguments k _ (more (sends inner sent (how_many arguments)) rest e))
  node_ends (m.send_to (m.enclosing level) sent arguments) k rest e =
      more (does (i.PushOuter level)) (nodes_lines k arguments (sends inner sent (how_many arguments) ∷ rest))
      (nodes_end arguments k _ (more (sends inner sent (how_many arguments)) rest e))
  node_ends (m.send_to (m.private_of level) sent arguments) k rest e =
      nodes_end arguments k _ (more (sends (private_at level) sent (how_many arguments)) rest e)
  node_ends (m.send_super sent arguments) k rest e = nodes_end arguments k _ (more (sends super sent (how_many arguments)) rest e)
  node_ends (m.cascade receiver messages) k rest e = node_ends receiver k _ (messages_end messages (k + length (node_texts receiver)) rest e)
  node_ends (m.in_turn first then_node) k rest e =
      node_ends first k _ (more (does i.Pop) (node_lines (k + length (node_texts first)) then_node rest)
      (node_ends then_node (k + length (node_texts first)) rest e))

  nodes_end : (nodes : m.Nodes) (k : ℕ) (rest : List CodeLine) → Ends rest → Ends (nodes_lines k nodes rest)
  nodes_end m.no_nodes k rest e = e
  nodes_end (m.more_nodes node others) k rest e = node_ends node k _ (nodes_end others (k + length (node_texts node)) rest e)

  messages_end : (messages : m.Messages) (k : ℕ) (rest : List CodeLine) → Ends rest → Ends (messages_lines k messages rest)
  messages_end (m.last_message sent arguments) k rest e = nodes_end arguments k _ (more (sends plain sent (how_many arguments)) rest e)
  messages_end (m.more_messages sent arguments others) k rest e =
      let behind = messages_lines (k + length (nodes_texts arguments)) others rest in
      let lines = sends plain sent (how_many arguments) ∷ does i.Pop ∷ behind in
      more (does (i.Pick 0)) (nodes_lines k arguments lines)
      (nodes_end arguments k lines (more (does i.Pop) behind (messages_end others (k + length (nodes_texts arguments)) rest e)))

locals_end : (values : List m.First) (k : ℕ) (rest : ℕ → List CodeLine) → ((n : ℕ) → Ends (rest n)) → Ends (locals_lines k values rest)
locals_end [] k rest e = e k
locals_end (first ∷ others) k rest e =
    let behind = locals_lines (k + length (node_texts first.value)) others rest in
    node_ends first.value k (does (i.StoreLocal 0 first.index) ∷ does i.Pop ∷ behind)
    (more (does i.Pop) behind (locals_end others (k + length (node_texts first.value)) rest e))

slots_end : (values : List m.First) (k : ℕ) (rest : ℕ → List CodeLine) → ((n : ℕ) → Ends (rest n)) → Ends (slots_lines k values rest)
slots_end [] k rest e = e k
slots_end (first ∷ others) k rest e =
    let behind = slots_lines (k + length (node_texts first.value)) others rest in
    node_ends first.value k (does (i.StoreSlot first.index) ∷ behind)
    (more (does (i.StoreSlot first.index)) behind (slots_end others (k + length (node_texts first.value)) rest e))

method_ends : (steps : List m.Step) (k : ℕ) → Ends (method_lines steps k)
method_ends [] k = refl
method_ends (m.evaluate node ∷ steps) k =
    let behind = method_lines steps (k + length (node_texts node)) in
    node_ends node k (does i.Pop ∷ behind) (more (does i.Pop) behind (method_ends steps (k + length (node_texts node))))
method_ends (m.return node ∷ []) k = node_ends node k (does i.Return ∷ []) refl
method_ends (m.return node ∷ (step ∷ steps)) k =
    let behind = method_lines (step ∷ steps) (k + length (node_texts node)) in
    node_ends node k (does i.Return ∷ behind) (more (does i.Return) behind (method_ends (step ∷ steps) (k + length (node_texts node))))

block_ends : (steps : List m.Step) (k : ℕ) → Ends (block_lines steps k)
block_ends [] k = refl
block_ends (m.evaluate node ∷ []) k = node_ends node k (does i.Return ∷ []) refl
block_ends (m.return node ∷ []) k = node_ends node k (does i.ReturnHome ∷ []) refl
block_ends (m.evaluate node ∷ (step ∷ steps)) k =
    let behind = block_lines (step ∷ steps) (k + length (node_texts node)) in
    node_ends node k (does i.Pop ∷ behind) (more (does i.Pop) behind (block_ends (step ∷ steps) (k + length (node_texts node))))
block_ends (m.return node ∷ (step ∷ steps)) k =
    let behind = block_lines (step ∷ steps) (k + length (node_texts node)) in
    node_ends node k (does i.ReturnHome ∷ behind) (more (does i.ReturnHome) behind (block_ends (step ∷ steps) (k + length (node_texts node))))

expressions_end : (nodes : List m.Node) (k : ℕ) → Ends (expressions_lines nodes k)
expressions_end [] k = refl
expressions_end (node ∷ nodes) k =
    let behind = expressions_lines nodes (k + length (node_texts node)) in
    node_ends node k (does i.Pop ∷ behind) (more (does i.Pop) behind (expressions_end nodes (k + length (node_texts node))))

pub body_ends : (body : m.Does) (k : ℕ) → Ends (body_lines k body)
body_ends (m.as_method values steps) k = locals_end values k (method_lines steps) (method_ends steps)
body_ends (m.as_block values steps) k = locals_end values k (block_lines steps) (block_ends steps)
body_ends (m.as_initialiser start) k =
    let behind = slots_lines (k + length (nodes_texts start.arguments)) start.slots (expressions_lines start.expressions) in
    nodes_end start.arguments k (starts start.place (how_many start.arguments) ∷ behind)
    (more (starts start.place (how_many start.arguments)) behind
    (slots_end start.slots (k + length (nodes_texts start.arguments)) (expressions_lines start.expressions) (expressions_end start.expressions)))
body_ends (m.as_clause head) k = node_ends head k (does i.Return ∷ []) refl
