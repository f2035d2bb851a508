-- Each block that an expression names stands in the body of the expression.
use Rattle.std.proofs.Common.{ℕ, ◌+◌, List, [], ◌∷◌, ◌++◌, length, refl}
use Rattle.std.specs.Prelude.{map, Option, Some, None}
use Rattle.ns_tree.specs.declared.tree.Named.{Named}
use Rattle.ns_tree.specs.declared.tree.Base.{Base}
use Rattle.ns_tree.specs.declared.tree.Origin.{Origin}
use Rattle.ns_tree.specs.declared.tree.Origin.TheVariants as o
use Rattle.ns_tree.specs.Plain as p
use Rattle.ns_scope.specs.declared.resolve.Target.{Target}
use Rattle.ns_scope.specs.declared.resolve.Target.TheVariants as t
use Rattle.ns_scope.specs.Resolve.{resolve}
use Rattle.ns_scope.specs.Bodies as b
use Rattle.ns_resolved.specs.Program as m
use Rattle.ns_resolved.specs.Expressions.{Standing, Receiver, to_value, to_self, to_super, to_outer, Said, nothing, said, Message, message_with, send_node}
use Rattle.ns_resolved.specs.Expressions.{value_of, as_receiver, as_value, names_said, keys_said, messages_of, turns_of, with_cascade, named, set, sets_of}
use Rattle.ns_resolved.specs.Expressions.{reach_of, reach_self, reach_outer, at_level, name_sent, keys_sent, sent_at, expr_node, cascade_messages}
use Rattle.ns_resolved.specs.Expressions.{message_said, key_expr_said, keys_nodes, bin_said, opers_said, un_node, un_said, primary_receiver, items_nodes, one}
use Rattle.ns_resolved.specs.Statements.{block_body, first_values, slots_values, bars_values, list_steps, statements_steps}
use Rattle.ns_resolved.specs.Statements.{expr_bodies, cascade_bodies, message_bodies, key_expr_bodies, keys_bodies, bin_bodies}
use Rattle.ns_resolved.specs.Statements.{opers_bodies, un_bodies, primary_bodies, items_bodies, bars_bodies, slots_bodies}
use Rattle.ns_resolved.specs.Statements.{init_bodies, statements_bodies, list_bodies}
use Rattle.ns_resolved.specs.Statements.{routine_bodies}
use Rattle.ns_resolved.specs.Classes.{super_arguments, super_bodies, initialiser_of, base_by, head_node}
use Rattle.ns_resolved.specs.laws.Counting.{super_counted}
use Rattle.ns_resolved.specs.Uses.{Use, DoesHave, ReachHas, NodeHas, NodesHave, MessagesHave, LocalsHave, SlotsHave, MethodHas, BlockHas, ExpressionsHave}
use Rattle.ns_resolved.specs.There.{BlocksIn}
use Rattle.ns_resolved.specs.laws.Sits.{Sits, sits_left, sits_right, sits_first}
use Rattle.ns_resolved.specs.laws.Numbering.{message_counted, key_expr_counted, bin_counted, un_counted, expr_counted, init_counted, bars_counted}
use Rattle.ns_resolved.specs.Tables.{step_node}

module _ (meant : m.Meant) (here : Standing) where
  abbrev Has : Use → Type 0
  Has = BlocksIn meant here.body

  abbrev ReceiverHas : Receiver → Type 0
  ReceiverHas (to_value value) = NodeHas Has value
  ReceiverHas to_self = Unit {0}
  ReceiverHas to_super = Unit {0}
  ReceiverHas (to_outer class) = Unit {0}

  abbrev SaidHas : Said → Type 0
  SaidHas (nothing receiver) = ReceiverHas receiver
  SaidHas (said receiver message) = ReceiverHas receiver × NodesHave Has message.arguments

  abbrev AllHave : List Message → Type 0
  AllHave [] = Unit {0}
  AllHave (message ∷ messages) = NodesHave Has message.arguments × AllHave messages

  -- ---- messages

  reach_has : (reach : m.Reach) (selector : List ℕ) → ReachHas Has reach selector
  reach_has m.own selector = tt
  reach_has (m.enclosing level) selector = tt
  reach_has (m.private_of level) selector = tt

  send_has : (receiver : Receiver) (sent : m.Sent) (arguments : m.Nodes) → ReceiverHas receiver → NodesHave Has arguments →
      NodeHas Has (send_node here.scope receiver sent arguments)
  send_has (to_value value) sent arguments r a = (r, a, tt)
  send_has to_self sent arguments r a = (reach_has (reach_self here.scope sent.selector) sent.selector, a, tt)
  send_has to_super sent arguments r a = (a, tt)
  send_has (to_outer class) sent arguments r a = (reach_has (reach_outer here.scope class sent.selector) sent.selector, a, tt)

  receiver_has : (last : Said) → SaidHas last → ReceiverHas (as_receiver here last)
  receiver_has (nothing receiver) h = h
  receiver_has (said receiver message) h = send_has receiver message.sent message.arguments h.0 h.1

  value_has : (receiver : Receiver) → ReceiverHas receiver → NodeHas Has (value_of receiver)
  value_has (to_value value) h = h
  value_has to_self h = tt
  value_has to_super h = tt
  value_has (to_outer class) h = tt

  as_value_has : (last : Said) → SaidHas last → NodeHas Has (as_value here last)
  as_value_has last h = value_has (as_receiver here last) (receiver_has last h)

  names_have : (names : List Named) (last : Said) → SaidHas last → SaidHas (names_said here last names)
  names_have [] last h = h
  names_have (name ∷ names) last h =
      names_have names (said (as_receiver here last) (message_with (name_sent here name) m.no_nodes)) (receiver_has last h, tt)

  keys_have_said : (keys : p.Keys) (last : Said) (arguments : m.Nodes) → SaidHas last → NodesHave Has arguments → SaidHas (keys_said here last keys arguments)
  keys_have_said p.no_keys last arguments h a = h
  keys_have_said (p.more_keys name argument rest) last arguments h a = (receiver_has last h, a)

  messages_have_of : (message : Message) (others : List Message) → NodesHave Has message.arguments → AllHave others →
      MessagesHave Has (messages_of message others)
  messages_have_of message [] a h = (a, tt)
  messages_have_of message (next ∷ rest) a h = (a, tt, messages_have_of next rest h.0 h.1)

  turns_have : (message : Message) (others : List Message) → NodesHave Has message.arguments → AllHave others → NodeHas Has (turns_of here.scope message others)
  turns_have message [] a h = send_has to_self message.sent message.arguments tt a
  turns_have message (next ∷ rest) a h = (send_has to_self message.sent message.arguments tt a, turns_have next rest h.0 h.1)

  cascade_has : (last : Said) (others : List Message) → SaidHas last → AllHave others → NodeHas Has (with_cascade here last others)
  cascade_has last [] h a = as_value_has last h
  cascade_has (said (to_value value) message) (next ∷ rest) h a = (h.0, messages_have_of message (next ∷ rest) h.1 a)
  cascade_has (said to_self message) (next ∷ rest) h a = turns_have message (next ∷ rest) h.1 a
  cascade_has (said to_super message) (next ∷ rest) h a = as_value_has (said to_super message) h
  cascade_has (said (to_outer class) message) (next ∷ rest) h a = as_value_has (said (to_outer class) message) h
  cascade_has (nothing receiver) (next ∷ rest) h a = as_value_has (nothing receiver) h

  named_has : (target : Target) (sent : m.Sent) → NodeHas Has (named target sent)
  named_has (t.Local hops index) sent = tt
  named_has (t.Member level private) sent = (reach_has (at_level level private) sent.selector, tt, tt)
  named_has t.SelfSend sent = (tt, tt, tt)

  set_has : (name : Named) (target : Target) (value : m.Node) → NodeHas Has value → NodeHas Has (set here name target value)
  set_has name (t.Local hops index) value h = (h, tt)
  set_has name (t.Member level private) value h = (h, reach_has _ _, tt)
  set_has name t.SelfSend value h = (h, reach_has _ _, tt)

  sets_have : (names : List Named) (value : m.Node) → NodeHas Has value → NodeHas Has (sets_of here names value)
  sets_have [] value h = h
  sets_have (name ∷ names) value h = set_has name (resolve here.scope name.text) (sets_of here names value) (sets_have names value h)

  -- ---- expressions

  mutual
    pub expr_has : (part : p.Expr) (next : ℕ) → Sits meant.bodies next (expr_bodies here next part) → NodeHas Has (expr_node here next part)
    expr_has (p.expr_with sets first more) next sits =
        sets_have sets _ (cascade_has (key_expr_said here next first) (cascade_messages here (next + length (b.key_expr_blocks here.scope first)) more)
        (key_expr_has first next (sits_left meant.bodies next (key_expr_bodies here next first) (cascade_bodies here (next + length (b.key_expr_blocks here.scope first)) more) sits))
        (cascade_messages_have more (next + length (b.key_expr_blocks here.scope first)) (sits_right meant.bodies next (length (b.key_expr_blocks here.scope first)) (key_expr_bodies here next first) (cascade_bodies here (next + length (b.key_expr_blocks here.scope first)) more) (key_expr_counted first here next) sits)))

    cascade_messages_have : (part : p.Cascade) (next : ℕ) → Sits meant.bodies next (cascade_bodies here next part) → AllHave (cascade_messages here next part)
    cascade_messages_have p.no_messages next sits = tt
    cascade_messages_have (p.more_messages at message rest) next sits = (
      message_has message next (sits_left meant.bodies next (message_bodies here next message) (cascade_bodies here (next + length (b.message_blocks here.scope message)) rest) sits),
      cascade_messages_have rest (next + length (b.message_blocks here.scope message)) (sits_right meant.bodies next (length (b.message_blocks here.scope message)) (message_bodies here next message) (cascade_bodies here (next + length (b.message_blocks here.scope message)) rest) (message_counted message here next) sits),
    )

    pub message_has : (part : p.Message) (next : ℕ) → Sits meant.bodies next (message_bodies here next part) →
        NodesHave Has (message_said here next part).arguments
    message_has (p.unary name) next sits = tt
    message_has (p.binary name argument) next sits = (un_node_has argument next sits, tt)
    message_has (p.keywords keys) next sits = keys_have keys next sits

    key_expr_has : (part : p.KeyExpr) (next : ℕ) → Sits meant.bodies next (key_expr_bodies here next part) → SaidHas (key_expr_said here next part)
    key_expr_has (p.sent receiver keys) next sits =
        keys_have_said keys (bin_said here next receiver) (keys_nodes here (next + length (b.bin_blocks here.scope receiver)) keys)
        (bin_has receiver next (sits_left meant.bodies next (bin_bodies here next receiver) (keys_bodies here (next + length (b.bin_blocks here.scope receiver)) keys) sits))
        (keys_have keys (next + length (b.bin_blocks here.scope receiver)) (sits_right meant.bodies next (length (b.bin_blocks here.scope receiver)) (bin_bodies here next receiver) (keys_bodies here (next + length (b.bin_blocks here.scope receiver)) keys) (bin_counted receiver here next) sits))
    key_expr_has (p.implicit keys) next sits = (reach_has (reach_of (resolve here.scope (keys_sent here keys).selector)) (keys_sent here keys).selector, keys_have keys next sits, tt)

    keys_have : (part : p.Keys) (next : ℕ) → Sits meant.bodies next (keys_bodies here next part) → NodesHave Has (keys_nodes here next part)
    keys_have p.no_keys next sits = tt
    keys_have (p.more_keys name argument rest) next sits = (
      as_value_has (bin_said here next argument) (bin_has argument next (sits_left meant.bodies next (bin_bodies here next argument) (keys_bodies here (next + length (b.bin_blocks here.scope argument)) rest) sits)),
      keys_have rest (next + length (b.bin_blocks here.scope argument)) (sits_right meant.bodies next (length (b.bin_blocks here.scope argument)) (bin_bodies here next argument) (keys_bodies here (next + length (b.bin_blocks here.scope argument)) rest) (bin_counted argument here next) sits),
    )

    bin_has : (part : p.BinExpr) (next : ℕ) → Sits meant.bodies next (bin_bodies here next part) → SaidHas (bin_said here next part)
    bin_has (p.bin_with first more) next sits =
        opers_have more (next + length (b.un_blocks here.scope first)) (un_said here next first)
        (un_has first next (sits_left meant.bodies next (un_bodies here next first) (opers_bodies here (next + length (b.un_blocks here.scope first)) more) sits))
        (sits_right meant.bodies next (length (b.un_blocks here.scope first)) (un_bodies here next first) (opers_bodies here (next + length (b.un_blocks here.scope first)) more) (un_counted first here next) sits)

    opers_have : (part : p.Opers) (next : ℕ) (last : Said) → SaidHas last → Sits meant.bodies next (opers_bodies here next part) →
        SaidHas (opers_said here next last part)
    opers_have p.no_opers next last h sits = h
    opers_have (p.more_opers name argument rest) next last h sits =
        opers_have rest (next + length (b.un_blocks here.scope argument))
        (said (as_receiver here last) (message_with (name_sent here name) (one (un_node here next argument))))
        (receiver_has last h, (un_node_has argument next (sits_left meant.bodies next (un_bodies here next argument) (opers_bodies here (next + length (b.un_blocks here.scope argument)) rest) sits), tt))
        (sits_right meant.bodies next (length (b.un_blocks here.scope argument)) (un_bodies here next argument) (opers_bodies here (next + length (b.un_blocks here.scope argument)) rest) (un_counted argument here next) sits)

    un_node_has : (part : p.UnExpr) (next : ℕ) → Sits meant.bodies next (un_bodies here next part) → NodeHas Has (un_node here next part)
    un_node_has (p.un_with at primary names) next sits =
        as_value_has (names_said here (nothing (primary_receiver here next at primary)) names)
        (names_have names (nothing (primary_receiver here next at primary)) (primary_has primary next at sits))

    un_has : (part : p.UnExpr) (next : ℕ) → Sits meant.bodies next (un_bodies here next part) → SaidHas (un_said here next part)
    un_has (p.un_with at primary names) next sits =
        names_have names (nothing (primary_receiver here next at primary)) (primary_has primary next at sits)

    primary_has : (part : p.Primary) (next at : ℕ) → Sits meant.bodies next (primary_bodies here next part) → ReceiverHas (primary_receiver here next at part)
    primary_has (p.name text) next at sits = named_has (resolve here.scope text) (sent_at here text at)
    primary_has (p.number minus size) next at sits = tt
    primary_has (p.string text) next at sits = tt
    primary_has (p.symbol text) next at sits = tt
    primary_has p.nil_word next at sits = tt
    primary_has p.true_word next at sits = tt
    primary_has p.false_word next at sits = tt
    primary_has p.self_word next at sits = tt
    primary_has p.super_word next at sits = tt
    primary_has (p.outer_name name) next at sits = tt
    primary_has (p.paren inner) next at sits = expr_has inner next sits
    primary_has (p.block_literal (p.block_with params bars body)) next at sits =
        (block_body here next (p.block_with params bars body), _, _, sits_first meant.bodies next _ _ sits, refl, refl)
    primary_has (p.tuple items stop) next at sits = (items_have items next sits, tt)

    items_have : (part : p.Exprs) (next : ℕ) → Sits meant.bodies next (items_bodies here next part) → NodesHave Has (items_nodes here next part)
    items_have p.no_exprs next sits = tt
    items_have (p.more_exprs expr rest) next sits = (
      expr_has expr next (sits_left meant.bodies next (expr_bodies here next expr) (items_bodies here (next + length (b.expr_blocks here.scope expr)) rest) sits),
      items_have rest (next + length (b.expr_blocks here.scope expr)) (sits_right meant.bodies next (length (b.expr_blocks here.scope expr)) (expr_bodies here next expr) (items_bodies here (next + length (b.expr_blocks here.scope expr)) rest) (expr_counted expr here next) sits),
    )

  -- ---- slots and statements

  first_locals : (init : p.SlotInit) (next index : ℕ) (others : List m.First) → Sits meant.bodies next (init_bodies here next init) → LocalsHave Has others →
      LocalsHave Has (first_values here next index init ++ others)
  first_locals (p.bare stop) next index others sits h = h
  first_locals (p.fixed value) next index others sits h = (expr_has value next sits, tt, h)
  first_locals (p.mutable value) next index others sits h = (expr_has value next sits, tt, h)

  first_slots : (init : p.SlotInit) (next index : ℕ) (others : List m.First) → Sits meant.bodies next (init_bodies here next init) → SlotsHave Has others →
      SlotsHave Has (first_values here next index init ++ others)
  first_slots (p.bare stop) next index others sits h = h
  first_slots (p.fixed value) next index others sits h = (expr_has value next sits, tt, h)
  first_slots (p.mutable value) next index others sits h = (expr_has value next sits, tt, h)

  locals_have : (slots : p.Slots) (next index : ℕ) → Sits meant.bodies next (slots_bodies here next slots) → LocalsHave Has (slots_values here next index slots)
  locals_have p.no_slots next index sits = tt
  locals_have (p.more_slots (p.slot_with access name init) rest) next index sits =
      let count = length (b.init_blocks here.scope init) in
      first_locals init next index (slots_values here (next + count) (index + 1) rest)
      (sits_left meant.bodies next (init_bodies here next init) (slots_bodies here (next + count) rest) sits)
      (locals_have rest (next + count) (index + 1)
      (sits_right meant.bodies next count (init_bodies here next init) (slots_bodies here (next + count) rest) (init_counted init here next) sits))

  slots_have : (slots : p.Slots) (next index : ℕ) → Sits meant.bodies next (slots_bodies here next slots) → SlotsHave Has (slots_values here next index slots)
  slots_have p.no_slots next index sits = tt
  slots_have (p.more_slots (p.slot_with access name init) rest) next index sits =
      let count = length (b.init_blocks here.scope init) in
      first_slots init next index (slots_values here (next + count) (index + 1) rest)
      (sits_left meant.bodies next (init_bodies here next init) (slots_bodies here (next + count) rest) sits)
      (slots_have rest (next + count) (index + 1)
      (sits_right meant.bodies next count (init_bodies here next init) (slots_bodies here (next + count) rest) (init_counted init here next) sits))

  pub bars_locals : (bars : p.Bars) (next index : ℕ) → Sits meant.bodies next (bars_bodies here next bars) → LocalsHave Has (bars_values here next index bars)
  bars_locals p.no_bars next index sits = tt
  bars_locals (p.bars_around slots) next index sits = locals_have slots next index sits

  pub bars_slots : (bars : p.Bars) (next index : ℕ) → Sits meant.bodies next (bars_bodies here next bars) → SlotsHave Has (bars_values here next index bars)
  bars_slots p.no_bars next index sits = tt
  bars_slots (p.bars_around slots) next index sits = slots_have slots next index sits

  list_method : (list : p.StatementList) (next : ℕ) → Sits meant.bodies next (list_bodies here next list) → MethodHas Has (list_steps here next list)
  list_method p.no_statements next sits = tt
  list_method (p.more_statements (p.statement_with None expr) rest) next sits =
      let count = length (b.expr_blocks here.scope expr) in (
        expr_has expr next (sits_left meant.bodies next (expr_bodies here next expr) (list_bodies here (next + count) rest) sits),
        list_method rest (next + count)
            (sits_right meant.bodies next count (expr_bodies here next expr) (list_bodies here (next + count) rest) (expr_counted expr here next) sits),
      )
  list_method (p.more_statements (p.statement_with (Some at) expr) rest) next sits =
      let count = length (b.expr_blocks here.scope expr) in (
        expr_has expr next (sits_left meant.bodies next (expr_bodies here next expr) (list_bodies here (next + count) rest) sits),
        list_method rest (next + count)
            (sits_right meant.bodies next count (expr_bodies here next expr) (list_bodies here (next + count) rest) (expr_counted expr here next) sits),
      )

  list_block : (list : p.StatementList) (next : ℕ) → Sits meant.bodies next (list_bodies here next list) → BlockHas Has (list_steps here next list)
  list_block p.no_statements next sits = tt
  list_block (p.more_statements (p.statement_with None expr) rest) next sits =
      let count = length (b.expr_blocks here.scope expr) in (
        expr_has expr next (sits_left meant.bodies next (expr_bodies here next expr) (list_bodies here (next + count) rest) sits),
        list_block rest (next + count)
            (sits_right meant.bodies next count (expr_bodies here next expr) (list_bodies here (next + count) rest) (expr_counted expr here next) sits),
      )
  list_block (p.more_statements (p.statement_with (Some at) expr) rest) next sits =
      let count = length (b.expr_blocks here.scope expr) in (
        expr_has expr next (sits_left meant.bodies next (expr_bodies here next expr) (list_bodies here (next + count) rest) sits),
        tt,
        list_block rest (next + count)
            (sits_right meant.bodies next count (expr_bodies here next expr) (list_bodies here (next + count) rest) (expr_counted expr here next) sits),
      )

  list_expressions : (list : p.StatementList) (next : ℕ) → Sits meant.bodies next (list_bodies here next list) → ExpressionsHave Has (map step_node (list_steps here next list))
  list_expressions p.no_statements next sits = tt
  list_expressions (p.more_statements (p.statement_with None expr) rest) next sits =
      let count = length (b.expr_blocks here.scope expr) in (
        expr_has expr next (sits_left meant.bodies next (expr_bodies here next expr) (list_bodies here (next + count) rest) sits),
        list_expressions rest (next + count)
            (sits_right meant.bodies next count (expr_bodies here next expr) (list_bodies here (next + count) rest) (expr_counted expr here next) sits),
      )
  list_expressions (p.more_statements (p.statement_with (Some at) expr) rest) next sits =
      let count = length (b.expr_blocks here.scope expr) in (
        expr_has expr next (sits_left meant.bodies next (expr_bodies here next expr) (list_bodies here (next + count) rest) sits),
        list_expressions rest (next + count)
            (sits_right meant.bodies next count (expr_bodies here next expr) (list_bodies here (next + count) rest) (expr_counted expr here next) sits),
      )

  statements_method : (body : p.Statements) (next : ℕ) → Sits meant.bodies next (statements_bodies here next body) → MethodHas Has (statements_steps here next body)
  statements_method (p.statements_with list stop) next sits = list_method list next sits

  statements_block : (body : p.Statements) (next : ℕ) → Sits meant.bodies next (statements_bodies here next body) → BlockHas Has (statements_steps here next body)
  statements_block (p.statements_with list stop) next sits = list_block list next sits

  statements_expressions : (body : p.Statements) (next : ℕ) → Sits meant.bodies next (statements_bodies here next body) →
      ExpressionsHave Has (map step_node (statements_steps here next body))
  statements_expressions (p.statements_with list stop) next sits = list_expressions list next sits

  -- ---- bodies

  pub method_has : (index : ℕ) (bars : p.Bars) (body : p.Statements) → Sits meant.bodies (here.body + 1) (routine_bodies here bars body) →
      LocalsHave Has (bars_values here (here.body + 1) index bars)
      × MethodHas Has (statements_steps here (here.body + 1 + length (b.bars_blocks here.scope bars)) body)
  method_has index bars body sits =
      let next = here.body + 1 in
      let count = length (b.bars_blocks here.scope bars) in (
        bars_locals bars next index (sits_left meant.bodies next (bars_bodies here next bars) (statements_bodies here (next + count) body) sits),
        statements_method body (next + count)
            (sits_right meant.bodies next count (bars_bodies here next bars) (statements_bodies here (next + count) body) (bars_counted bars here next) sits),
      )

  pub block_has : (index : ℕ) (bars : p.Bars) (body : p.Statements) → Sits meant.bodies (here.body + 1) (routine_bodies here bars body) →
      LocalsHave Has (bars_values here (here.body + 1) index bars)
      × BlockHas Has (statements_steps here (here.body + 1 + length (b.bars_blocks here.scope bars)) body)
  block_has index bars body sits =
      let next = here.body + 1 in
      let count = length (b.bars_blocks here.scope bars) in (
        bars_locals bars next index (sits_left meant.bodies next (bars_bodies here next bars) (statements_bodies here (next + count) body) sits),
        statements_block body (next + count)
            (sits_right meant.bodies next count (bars_bodies here next bars) (statements_bodies here (next + count) body) (bars_counted bars here next) sits),
      )

  super_has : (clause : Option p.SuperClause) (next : ℕ) → Sits meant.bodies next (super_bodies here next clause) →
      NodesHave Has (super_arguments here next clause)
  super_has (Some (p.clause_with head over (Some message))) next sits = message_has message next sits
  super_has (Some (p.clause_with head over None)) next sits = tt
  super_has None next sits = tt

  pub initialiser_has : (name : Named) (clause : Option p.SuperClause) (bars : p.Bars) (body : p.Statements) →
      Sits meant.bodies (here.body + 1) (super_bodies here (here.body + 1) clause
      ++ (bars_bodies here (here.body + 1 + length (b.super_blocks here.scope clause)) bars
      ++ statements_bodies here (here.body + 1 + length (b.super_blocks here.scope clause) + length (b.bars_blocks here.scope bars)) body)) →
      DoesHave Has (m.as_initialiser (initialiser_of here name clause bars body))
  initialiser_has name clause bars body sits =
      let next = here.body + 1 in
      let supers = length (b.super_blocks here.scope clause) in
      let count = length (b.bars_blocks here.scope bars) in
      let slots = bars_bodies here (next + supers) bars in
      let steps = statements_bodies here (next + supers + count) body in
      let behind = sits_right meant.bodies next supers (super_bodies here next clause) (slots ++ steps) (super_counted clause here next) sits in (
        super_has clause next (sits_left meant.bodies next (super_bodies here next clause) (slots ++ steps) sits),
        tt,
        bars_slots bars (next + supers) 0 (sits_left meant.bodies (next + supers) slots steps behind),
        statements_expressions body (next + supers + count)
            (sits_right meant.bodies (next + supers) count slots steps (bars_counted bars here (next + supers)) behind),
      )

  base_has : (origin : Origin) (name : Named) → NodeHas Has (base_by here origin name)
  base_has o.Here name = named_has (resolve here.scope name.text) (name_sent here name)
  base_has o.Super name = send_has to_super (name_sent here name) m.no_nodes tt tt
  base_has (o.Outer class) name = send_has (to_outer class.text) (name_sent here name) m.no_nodes tt tt

  pub head_has : (head : Base) (over : Option Base) → NodeHas Has (head_node here head over)
  head_has head None = base_has head.origin head.name
  head_has head (Some over) = (base_has head.origin head.name, (base_has over.origin over.name, tt), tt)
