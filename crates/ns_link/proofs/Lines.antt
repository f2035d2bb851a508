-- What the lines of a body say, and so the tables of its code.
use Rattle.std.proofs.Common.{ℕ, ◌+◌, List, [], ◌∷◌, ◌++◌, length, arith}
use Rattle.std.specs.Prelude.{Bool, true, All, flat_map}
use Rattle.std.proofs.lemmas.List.Elements.{All-nil, All-cons, All-append}
use Rattle.ns_base.specs.declared.place.Place.{Place}
use Rattle.ns_code.specs.declared.instruction.Instr.TheVariants as i
use Rattle.ns_code.specs.Fits.{IsName, IsShort}
use Rattle.ns_resolved.specs.Program as m
use Rattle.ns_resolved.specs.Tables.{node_texts, nodes_texts, messages_texts, gathered, value_of, step_node}
use Rattle.ns_resolved.specs.There.{IsThere}
use Rattle.ns_resolved.specs.Uses.{how_many}
use Rattle.ns_gen_code.specs.Code.{CodeLine, does, symbol, sends, starts, plain, inner, private_at, super, set_lines, node_lines, nodes_lines, places_from}
use Rattle.ns_gen_code.specs.Code.{messages_lines, locals_lines, slots_lines, method_lines, block_lines, expressions_lines, body_lines}
use Rattle.ns_gen_code.specs.Stated.{line_names}
use Rattle.ns_gen_code.specs.Uses.{LinesHave}
use Rattle.ns_link.proofs.Says.{SentSays, NodeSays, NodesSay, MessagesSay, FirstsSay, StepsSay, ExpressionsSay, DoesSay}
use Rattle.ns_link.proofs.Words.{spoken_short}

module _ (Fine : Place → Type 0) where
  -- the selectors, symbols and places of lines
  abbrev pub LinesSay : List CodeLine → Type 0
  LinesSay [] = Unit {0}
  LinesSay (does instr ∷ lines) = LinesSay lines
  LinesSay (symbol name ∷ lines) = IsName name × LinesSay lines
  LinesSay (sends way sent count ∷ lines) = SentSays Fine sent × LinesSay lines
  LinesSay (starts place count ∷ lines) = Fine place × LinesSay lines

  mutual
    node_says : (node : m.Node) (k : ℕ) (rest : List CodeLine) → NodeSays Fine node → LinesSay rest → LinesSay (node_lines k node rest)
    node_says m.nil_value k rest h r = r
    node_says m.true_value k rest h r = r
    node_says m.false_value k rest h r = r
    node_says (m.integer n) k rest h r = r
    node_says (m.text bytes) k rest h r = r
    node_says (m.symbol name) k rest h r = (h, r)
    node_says m.self_value k rest h r = r
    node_says (m.local hops index) k rest h r = r
    node_says (m.set_local hops index value) k rest h r = node_says value k (does (i.StoreLocal hops index) ∷ rest) h r
    node_says (m.set_by_send m.own sent value) k rest h r = node_says value k (set_lines m.own sent rest) h.0 (h.1, r)
    node_says (m.set_by_send (m.enclosing level) sent value) k rest h r = node_says value k (set_lines (m.enclosing level) sent rest) h.0 (h.1, r)
    node_says (m.set_by_send (m.private_of level) sent value) k rest h r = node_says value k (set_lines (m.private_of level) sent rest) h.0 (h.1, r)
    node_says (m.array items) k rest h r = nodes_say items k (does (i.MakeArray (how_many items)) ∷ rest) h r
    node_says (m.block number) k rest h r = r
    node_says (m.send receiver sent arguments) k rest h r =
        node_says receiver k (nodes_lines (k + length (node_texts receiver)) arguments (sends plain sent (how_many arguments) ∷ rest)) h.0
        (nodes_say arguments (k + length (node_texts receiver)) (sends plain sent (how_many arguments) ∷ rest) h.1 (h.2, r))
    node_says (m.send_to m.own sent arguments) k rest h r = nodes_say arguments k (sends inner sent (how_many arguments) ∷ rest) h.0 (h.1, r)
    node_says (m.send_to (m.enclosing level) sent arguments) k rest h r = nodes_say arguments k (sends inner sent (how_many arguments) ∷ rest) h.0 (h.1, r)
    node_says (m.send_to (m.private_of level) sent arguments) k rest h r =
        nodes_say arguments k (sends (private_at level) sent (how_many arguments) ∷ rest) h.0 (h.1, r)
    node_says (m.send_super sent arguments) k rest h r = nodes_say arguments k (sends super sent (how_many arguments) ∷ rest) h.0 (h.1, r)
    node_says (m.cascade receiver messages) k rest h r =
        node_says receiver k (messages_lines (k + length (node_texts receiver)) messages rest) h.0
        (messages_say messages (k + length (node_texts receiver)) rest h.1 r)
    node_says (m.in_turn first then_node) k rest h r =
        node_says first k (does i.Pop ∷ node_lines (k + length (node_texts first)) then_node rest) h.0
        (node_says then_node (k + length (node_texts first)) rest h.1 r)

    nodes_say : (nodes : m.Nodes) (k : ℕ) (rest : List CodeLine) → NodesSay Fine nodes → LinesSay rest → LinesSay (nodes_lines k nodes rest)
    nodes_say m.no_nodes k rest h r = r
    nodes_say (m.more_nodes node others) k rest h r =
        node_says node k (nodes_lines (k + length (node_texts node)) others rest) h.0 (nodes_say others (k + length (node_texts node)) rest h.1 r)

    messages_say : (messages : m.Messages) (k : ℕ) (rest : List CodeLine) → MessagesSay Fine messages → LinesSay rest → LinesSay (messages_lines k messages rest)
    messages_say (m.last_message sent arguments) k rest h r = nodes_say arguments k (sends plain sent (how_many arguments) ∷ rest) h.0 (h.1, r)
    messages_say (m.more_messages sent arguments others) k rest h r =
        nodes_say arguments k (sends plain sent (how_many arguments) ∷ does i.Pop ∷ messages_lines (k + length (nodes_texts arguments)) others rest) h.0
        (h.1, messages_say others (k + length (nodes_texts arguments)) rest h.2 r)

  locals_say : (values : List m.First) (k : ℕ) (rest : ℕ → List CodeLine) → FirstsSay Fine values → ((n : ℕ) → LinesSay (rest n)) → LinesSay (locals_lines k values rest)
  locals_say [] k rest h r = r k
  locals_say (first ∷ others) k rest h r =
      node_says first.value k (does (i.StoreLocal 0 first.index) ∷ does i.Pop ∷ locals_lines (k + length (node_texts first.value)) others rest) h.0
      (locals_say others (k + length (node_texts first.value)) rest h.1 r)

  slots_say : (values : List m.First) (k : ℕ) (rest : ℕ → List CodeLine) → FirstsSay Fine values → ((n : ℕ) → LinesSay (rest n)) → LinesSay (slots_lines k values rest)
  slots_say [] k rest h r = r k
  slots_say (first ∷ others) k rest h r =
      node_says first.value k (does (i.StoreSlot first.index) ∷ slots_lines (k + length (node_texts first.value)) others rest) h.0
      (slots_say others (k + length (node_texts first.value)) rest h.1 r)

  method_says : (steps : List m.Step) → StepsSay Fine steps → (k : ℕ) → LinesSay (method_lines steps k)
  method_says [] h k = tt
  method_says (m.evaluate node ∷ steps) h k =
      node_says node k (does i.Pop ∷ method_lines steps (k + length (node_texts node))) h.0 (method_says steps h.1 (k + length (node_texts node)))
  method_says (m.return node ∷ []) h k = node_says node k (does i.Return ∷ []) h.0 tt
  method_says (m.return node ∷ (step ∷ steps)) h k =
      node_says node k (does i.Return ∷ method_lines (step ∷ steps) (k + length (node_texts node))) h.0 (method_says (step ∷ steps) h.1 (k + length (node_texts node)))

  block_says : (steps : List m.Step) → StepsSay Fine steps → (k : ℕ) → LinesSay (block_lines steps k)
  block_says [] h k = tt
  block_says (m.evaluate node ∷ []) h k = node_says node k (does i.Return ∷ []) h.0 tt
  block_says (m.return node ∷ []) h k = node_says node k (does i.ReturnHome ∷ []) h.0 tt
  block_says (m.evaluate node ∷ (step ∷ steps)) h k =
      node_says node k (does i.Pop ∷ block_lines (step ∷ steps) (k + length (node_texts node))) h.0 (block_says (step ∷ steps) h.1 (k + length (node_texts node)))
  block_says (m.return node ∷ (step ∷ steps)) h k =
      node_says node k (does i.ReturnHome ∷ block_lines (step ∷ steps) (k + length (node_texts node))) h.0 (block_says (step ∷ steps) h.1 (k + length (node_texts node)))

  expressions_say : (nodes : List m.Node) → ExpressionsSay Fine nodes → (k : ℕ) → LinesSay (expressions_lines nodes k)
  expressions_say [] h k = tt
  expressions_say (node ∷ nodes) h k =
      node_says node k (does i.Pop ∷ expressions_lines nodes (k + length (node_texts node))) h.0 (expressions_say nodes h.1 (k + length (node_texts node)))

  pub body_says : (body : m.Does) (k : ℕ) → DoesSay Fine body → LinesSay (body_lines k body)
  body_says (m.as_method values steps) k h = locals_say values k (method_lines steps) h.0 (method_says steps h.1)
  body_says (m.as_block values steps) k h = locals_say values k (block_lines steps) h.0 (block_says steps h.1)
  body_says (m.as_initialiser start) k h =
      let expressions = expressions_lines start.expressions in
      nodes_say start.arguments k (starts start.place (how_many start.arguments) ∷ slots_lines (k + length (nodes_texts start.arguments)) start.slots expressions) h.0
      (h.1, slots_say start.slots (k + length (nodes_texts start.arguments)) expressions h.2 (expressions_say start.expressions h.3))
  body_says (m.as_clause head) k h = node_says head k (does i.Return ∷ []) h tt

  -- ---- places

  abbrev pub IsFine : ℕ × Place → Type 0
  IsFine place = Fine place.1

  pub places_fine : (lines : List CodeLine) (n : ℕ) → LinesSay lines → All IsFine (places_from n lines)
  places_fine [] n h = All-nil IsFine
  places_fine (does instr ∷ lines) n h = places_fine lines (n + 1) h
  places_fine (symbol name ∷ lines) n h = places_fine lines (n + 1) h.1
  places_fine (sends way sent count ∷ lines) n h = All-cons IsFine (n, sent.place) (places_from (n + 1) lines) h.0.1 (places_fine lines (n + 1) h.1)
  places_fine (starts place count ∷ lines) n h = All-cons IsFine (n, place) (places_from (n + 1) lines) h.0 (places_fine lines (n + 1) h.1)

  -- ---- names

  -- the names of lines whose messages have few arguments
  pub names_named : (meant : m.Meant) (number : ℕ) (body : m.Body) (texts kind : ℕ) (started : Bool) (lines : List CodeLine) → LinesSay lines →
      LinesHave (IsThere meant number body) texts kind started lines → All IsName (flat_map line_names lines)
  names_named meant number body texts kind started [] h have = All-nil IsName
  names_named meant number body texts kind started (does instr ∷ lines) h have = names_named meant number body texts kind started lines h have.1
  names_named meant number body texts kind started (symbol name ∷ lines) h have =
      All-cons IsName name (flat_map line_names lines) h.0 (names_named meant number body texts kind started lines h.1 have)
  names_named meant number body texts kind started (sends way sent count ∷ lines) h have =
      let same = have.1.0 in
      let few = have.1.1 in
      All-cons IsName sent.selector (flat_map line_names lines) (spoken_short sent.selector h.0.0 (omega (same, few, arith)))
      (names_named meant number body texts kind started lines h.1 have.2)
  names_named meant number body texts kind started (starts place count ∷ lines) h have =
      names_named meant number body texts kind true lines h.1 have.3

-- ---- texts

module _ (Fine : Place → Type 0) where
  two : (left right : List (List ℕ)) → All IsShort left → All IsShort right → All IsShort (left ++ right)
  two left right l r = All-append IsShort left right l r

  mutual
    node_short : (node : m.Node) → NodeSays Fine node → All IsShort (node_texts node)
    node_short m.nil_value h = All-nil IsShort
    node_short m.true_value h = All-nil IsShort
    node_short m.false_value h = All-nil IsShort
    node_short (m.integer n) h = All-nil IsShort
    node_short (m.text bytes) h = All-cons IsShort bytes [] h (All-nil IsShort)
    node_short (m.symbol name) h = All-nil IsShort
    node_short m.self_value h = All-nil IsShort
    node_short (m.local hops index) h = All-nil IsShort
    node_short (m.set_local hops index value) h = node_short value h
    node_short (m.set_by_send reach sent value) h = node_short value h.0
    node_short (m.array items) h = nodes_short items h
    node_short (m.block number) h = All-nil IsShort
    node_short (m.send receiver sent arguments) h = two (node_texts receiver) (nodes_texts arguments) (node_short receiver h.0) (nodes_short arguments h.1)
    node_short (m.send_to reach sent arguments) h = nodes_short arguments h.0
    node_short (m.send_super sent arguments) h = nodes_short arguments h.0
    node_short (m.cascade receiver messages) h = two (node_texts receiver) (messages_texts messages) (node_short receiver h.0) (messages_short messages h.1)
    node_short (m.in_turn first then_node) h = two (node_texts first) (node_texts then_node) (node_short first h.0) (node_short then_node h.1)

    nodes_short : (nodes : m.Nodes) → NodesSay Fine nodes → All IsShort (nodes_texts nodes)
    nodes_short m.no_nodes h = All-nil IsShort
    nodes_short (m.more_nodes node others) h = two (node_texts node) (nodes_texts others) (node_short node h.0) (nodes_short others h.1)

    messages_short : (messages : m.Messages) → MessagesSay Fine messages → All IsShort (messages_texts messages)
    messages_short (m.last_message sent arguments) h = nodes_short arguments h.0
    messages_short (m.more_messages sent arguments others) h = two (nodes_texts arguments) (messages_texts others) (nodes_short arguments h.0) (messages_short others h.2)

  firsts_short : (values : List m.First) → FirstsSay Fine values → All IsShort (flat_map (λ first. node_texts (value_of first)) values)
  firsts_short [] h = All-nil IsShort
  firsts_short (first ∷ others) h =
      two (node_texts first.value) (flat_map (λ first. node_texts (value_of first)) others) (node_short first.value h.0) (firsts_short others h.1)

  steps_short : (steps : List m.Step) → StepsSay Fine steps → All IsShort (flat_map (λ step. node_texts (step_node step)) steps)
  steps_short [] h = All-nil IsShort
  steps_short (m.evaluate node ∷ steps) h = two (node_texts node) (flat_map (λ step. node_texts (step_node step)) steps) (node_short node h.0) (steps_short steps h.1)
  steps_short (m.return node ∷ steps) h = two (node_texts node) (flat_map (λ step. node_texts (step_node step)) steps) (node_short node h.0) (steps_short steps h.1)

  expressions_short : (nodes : List m.Node) → ExpressionsSay Fine nodes → All IsShort (flat_map node_texts nodes)
  expressions_short [] h = All-nil IsShort
  expressions_short (node ∷ nodes) h = two (node_texts node) (flat_map node_texts nodes) (node_short node h.0) (expressions_short nodes h.1)

  pub texts_short : (body : m.Does) → DoesSay Fine body → All IsShort (gathered node_texts nodes_texts body)
  texts_short (m.as_method values steps) h =
      two (flat_map (λ first. node_texts (value_of first)) values) (flat_map (λ step. node_texts (step_node step)) steps) (firsts_short values h.0) (steps_short steps h.1)
  texts_short (m.as_block values steps) h =
      two (flat_map (λ first. node_texts (value_of first)) values) (flat_map (λ step. node_texts (step_node step)) steps) (firsts_short values h.0) (steps_short steps h.1)
  texts_short (m.as_initialiser start) h =
      two (nodes_texts start.arguments) (flat_map (λ first. node_texts (value_of first)) start.slots ++ flat_map node_texts start.expressions) (nodes_short start.arguments h.0)
      (two (flat_map (λ first. node_texts (value_of first)) start.slots) (flat_map node_texts start.expressions) (firsts_short start.slots h.2)
      (expressions_short start.expressions h.3))
  texts_short (m.as_clause head) h = node_short head h
