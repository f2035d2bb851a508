-- What the names of expressions mean. A number beside where an expression stands is that of the next block's body.
use Rattle.std.specs.Prelude.{ℕ, ◌+◌, Bool, true, false, ◌++◌, List, [], ◌∷◌, length, slice_get, Option, Some, None, ℤ, pos, neg_ℤ, if◌then◌else◌, codes}
use Rattle.std.specs.Option.{unwrap_or}
use Rattle.std.specs.Str.{bytes_eq}
use Rattle.ns_base.specs.declared.place.Place.{Place}
use Rattle.ns_tree.specs.declared.tree.Named.{Named}
use Rattle.ns_tree.specs.declared.tree.Access.{Access}
use Rattle.ns_tree.specs.Plain as p
use Rattle.ns_tree.specs.Parts.{first_key}
use Rattle.ns_scope.specs.declared.scope.ClassScope.{ClassScope}
use Rattle.ns_scope.specs.declared.scope.Scope.{Scope}
use Rattle.ns_scope.specs.declared.resolve.Target.{Target}
use Rattle.ns_scope.specs.declared.resolve.Target.TheVariants as t
use Rattle.ns_scope.specs.Table.{TableOf, look_up}
use Rattle.ns_scope.specs.Resolve.{resolve, levels, is_private}
use Rattle.ns_scope.specs.Bodies.{expr_blocks, message_blocks, key_expr_blocks, bin_blocks, un_blocks}
use Rattle.ns_resolved.specs.Program as m

-- ---- where an expression stands

-- What is seen from an expression, the numbers of its body and of its declaration, and the places of its file's tokens.
pub record Standing : Type 0 where
  pub scope : Scope
  pub body : ℕ
  pub class : ℕ
  pub marks : List Place

-- the place of a token; that of a number without a token is never asked for
abbrev pub place_at : List Place → ℕ → Place
place_at marks at = unwrap_or (slice_get marks at) (record { file = 0; line = 0; col = 0 })

-- a selector that stands at that token
abbrev pub sent_at : Standing → List ℕ → ℕ → m.Sent
sent_at here selector at = record { selector = selector; place = place_at here.marks at }

-- ---- what a send reaches

-- a private member is reached itself, others by lookup from the enclosing object
abbrev pub at_level : ℕ → Bool → m.Reach
at_level level true = m.private_of level
at_level level false = m.enclosing level

-- an implicit send of a name that is no local
abbrev pub reach_of : Target → m.Reach
reach_of (t.Member level private) = at_level level private
reach_of (t.Local hops index) = m.own
reach_of t.SelfSend = m.own

-- whether the declaration at a level has a private member of that name, among the members that count there
abbrev pub private_here : Option Access → Bool
private_here None = false
private_here (Some access) = is_private access

abbrev pub private_in : Option (TableOf Access) → List ℕ → Bool
private_in None name = false
private_in (Some members) name = private_here (look_up members name)

abbrev pub private_at : Scope → ℕ → List ℕ → Bool
private_at scope level name = private_in (slice_get (levels scope.side scope.classes) level) name

-- a send to self reaches the private members of its own declaration and side
abbrev pub reach_self : Scope → List ℕ → m.Reach
reach_self scope name = if private_at scope 0 name then m.private_of 0 else m.own

-- how many declarations stand before the innermost of that name
abbrev pub level_of : List ClassScope → List ℕ → ℕ
level_of [] name = 0
level_of (class ∷ outer) name = if bytes_eq name class.name then 0 else level_of outer name + 1

-- a send to the enclosing object for the innermost declaration of a name
abbrev pub reach_outer : Scope → List ℕ → List ℕ → m.Reach
reach_outer scope class name = at_level (level_of scope.classes class) (private_at scope (level_of scope.classes class) name)

-- ---- messages

-- a message with what its arguments mean
pub record Message : Type 0 where
  pub sent : m.Sent
  pub arguments : m.Nodes

abbrev pub message_with : m.Sent → m.Nodes → Message
message_with sent arguments = record { sent = sent; arguments = arguments }

-- What a message is sent to: a value, self, an enclosing object, or self from the superclass on. A primary `self`,
-- `super` or `outer N` is no value of its own where a message is sent to it.
pub data Receiver : Type 0 where
  to_value : m.Node → Receiver
  to_self : Receiver
  to_super : Receiver
  to_outer : List ℕ → Receiver

abbrev pub send_node : Scope → Receiver → m.Sent → m.Nodes → m.Node
send_node scope (to_value value) sent arguments = m.send value sent arguments
send_node scope to_self sent arguments = m.send_to (reach_self scope sent.selector) sent arguments
send_node scope to_super sent arguments = m.send_super sent arguments
send_node scope (to_outer class) sent arguments = m.send_to (reach_outer scope class sent.selector) sent arguments

-- what stands for a receiver that gets no message; `super` and `outer N` do not stand so in a program without faults
abbrev pub value_of : Receiver → m.Node
value_of (to_value value) = value
value_of to_self = m.self_value
value_of to_super = m.self_value
value_of (to_outer class) = m.self_value

-- the keys of a message, joined
abbrev pub joined : p.Keys → List ℕ
joined p.no_keys = []
joined (p.more_keys name argument rest) = name.text ++ joined rest

abbrev pub keys_sent : Standing → p.Keys → m.Sent
keys_sent here keys = sent_at here (joined keys) (first_key keys)

abbrev pub name_sent : Standing → Named → m.Sent
name_sent here name = sent_at here name.text name.at

-- a send without a written receiver
abbrev pub implicit_send : Standing → m.Sent → m.Nodes → m.Node
implicit_send here sent arguments = m.send_to (reach_of (resolve here.scope sent.selector)) sent arguments

-- a name alone: a local, or an implicit send
abbrev pub named : Target → m.Sent → m.Node
named (t.Local hops index) sent = m.local hops index
named (t.Member level private) sent = m.send_to (at_level level private) sent m.no_nodes
named t.SelfSend sent = m.send_to m.own sent m.no_nodes

abbrev pub name_node : Standing → m.Sent → m.Node
name_node here sent = named (resolve here.scope sent.selector) sent

abbrev pub integer_of : Bool → ℕ → ℤ
integer_of minus size = if minus then neg_ℤ (pos size) else pos size

-- `x:: e`: a local is set; else `x:` is sent to what the name `x:` means
abbrev pub set : Standing → Named → Target → m.Node → m.Node
set here name (t.Local hops index) value = m.set_local hops index value
set here name other value = m.set_by_send (reach_of (resolve here.scope (name.text ++ codes ":"))) (sent_at here (name.text ++ codes ":") name.at) value

-- names that are set, the last first
abbrev pub sets_of : Standing → List Named → m.Node → m.Node
sets_of here [] value = value
sets_of here (name ∷ names) value = set here name (resolve here.scope name.text) (sets_of here names value)

-- ---- what was said last

-- what an expression has said so far: a receiver alone, or a message to one
pub data Said : Type 0 where
  nothing : Receiver → Said
  said : Receiver → Message → Said

-- a message is itself the receiver of the next
abbrev pub as_receiver : Standing → Said → Receiver
as_receiver here (nothing receiver) = receiver
as_receiver here (said receiver message) = to_value (send_node here.scope receiver message.sent message.arguments)

abbrev pub as_value : Standing → Said → m.Node
as_value here last = value_of (as_receiver here last)

-- unary messages in turn
abbrev pub names_said : Standing → Said → List Named → Said
names_said here last [] = last
names_said here last (name ∷ names) = names_said here (said (as_receiver here last) (message_with (name_sent here name) m.no_nodes)) names

-- a keyword message, where there are keys
abbrev pub keys_said : Standing → Said → p.Keys → m.Nodes → Said
keys_said here last p.no_keys arguments = last
keys_said here last (p.more_keys name argument rest) arguments =
    said (as_receiver here last) (message_with (keys_sent here (p.more_keys name argument rest)) arguments)

-- a message and those behind it, to one value
abbrev pub messages_of : Message → List Message → m.Messages
messages_of message [] = m.last_message message.sent message.arguments
messages_of message (next ∷ rest) = m.more_messages message.sent message.arguments (messages_of next rest)

-- a message and those behind it, to self
abbrev pub turns_of : Scope → Message → List Message → m.Node
turns_of scope message [] = send_node scope to_self message.sent message.arguments
turns_of scope message (next ∷ rest) = m.in_turn (send_node scope to_self message.sent message.arguments) (turns_of scope next rest)

-- the messages of a cascade go to the receiver of the last message before it
abbrev pub with_cascade : Standing → Said → List Message → m.Node
with_cascade here last [] = as_value here last
with_cascade here (said (to_value value) message) others = m.cascade value (messages_of message others)
with_cascade here (said to_self message) others = turns_of here.scope message others
with_cascade here last others = as_value here last

abbrev pub one : m.Node → m.Nodes
one node = m.more_nodes node m.no_nodes

-- ---- expressions

abbrev mutual
  pub expr_node : Standing → ℕ → p.Expr → m.Node
  expr_node here next (p.expr_with sets first more) =
      sets_of here sets (with_cascade here (key_expr_said here next first) (cascade_messages here (next + length (key_expr_blocks here.scope first)) more))

  pub cascade_messages : Standing → ℕ → p.Cascade → List Message
  cascade_messages here next p.no_messages = []
  cascade_messages here next (p.more_messages at message rest) =
      message_said here next message ∷ cascade_messages here (next + length (message_blocks here.scope message)) rest

  pub message_said : Standing → ℕ → p.Message → Message
  message_said here next (p.unary name) = message_with (name_sent here name) m.no_nodes
  message_said here next (p.binary name argument) = message_with (name_sent here name) (one (un_node here next argument))
  message_said here next (p.keywords keys) = message_with (keys_sent here keys) (keys_nodes here next keys)

  pub key_expr_said : Standing → ℕ → p.KeyExpr → Said
  key_expr_said here next (p.sent receiver keys) =
      keys_said here (bin_said here next receiver) keys (keys_nodes here (next + length (bin_blocks here.scope receiver)) keys)
  key_expr_said here next (p.implicit keys) = nothing (to_value (implicit_send here (keys_sent here keys) (keys_nodes here next keys)))

  pub keys_nodes : Standing → ℕ → p.Keys → m.Nodes
  keys_nodes here next p.no_keys = m.no_nodes
  keys_nodes here next (p.more_keys name argument rest) =
      m.more_nodes (as_value here (bin_said here next argument)) (keys_nodes here (next + length (bin_blocks here.scope argument)) rest)

  pub bin_said : Standing → ℕ → p.BinExpr → Said
  bin_said here next (p.bin_with first more) = opers_said here (next + length (un_blocks here.scope first)) (un_said here next first) more

  pub opers_said : Standing → ℕ → Said → p.Opers → Said
  opers_said here next last p.no_opers = last
  opers_said here next last (p.more_opers name argument rest) =
      opers_said here (next + length (un_blocks here.scope argument))
      (said (as_receiver here last) (message_with (name_sent here name) (one (un_node here next argument)))) rest

  pub un_node : Standing → ℕ → p.UnExpr → m.Node
  un_node here next (p.un_with at primary names) = as_value here (names_said here (nothing (primary_receiver here next at primary)) names)

  pub un_said : Standing → ℕ → p.UnExpr → Said
  un_said here next (p.un_with at primary names) = names_said here (nothing (primary_receiver here next at primary)) names

  pub primary_receiver : Standing → ℕ → ℕ → p.Primary → Receiver
  primary_receiver here next at (p.name text) = to_value (name_node here (sent_at here text at))
  primary_receiver here next at (p.number minus size) = to_value (m.integer (integer_of minus size))
  primary_receiver here next at (p.string text) = to_value (m.text text)
  primary_receiver here next at (p.symbol text) = to_value (m.symbol text)
  primary_receiver here next at p.nil_word = to_value m.nil_value
  primary_receiver here next at p.true_word = to_value m.true_value
  primary_receiver here next at p.false_word = to_value m.false_value
  primary_receiver here next at p.self_word = to_self
  primary_receiver here next at p.super_word = to_super
  primary_receiver here next at (p.outer_name name) = to_outer name.text
  primary_receiver here next at (p.paren inner) = to_value (expr_node here next inner)
  primary_receiver here next at (p.block_literal block) = to_value (m.block next)
  primary_receiver here next at (p.tuple items stop) = to_value (m.array (items_nodes here next items))

  pub items_nodes : Standing → ℕ → p.Exprs → m.Nodes
  items_nodes here next p.no_exprs = m.no_nodes
  items_nodes here next (p.more_exprs expr rest) = m.more_nodes (expr_node here next expr) (items_nodes here (next + length (expr_blocks here.scope expr)) rest)
