-- What a message, a name and a value that is set use.
use Rattle.std.proofs.Common.{◌≡◌, ℕ, List, [], ◌∷◌, ◌++◌, sym, arith}
use Rattle.std.specs.Prelude.{true, map, codes}
use Rattle.ns_base.specs.Spelling.{is_identifier}
use Rattle.ns_tree.specs.declared.tree.Named.{Named}
use Rattle.ns_tree.specs.Flat.{ident, set_key}
use Rattle.ns_tree.specs.Plain as p
use Rattle.ns_tree.specs.Tree.{AllHaveText}
use Rattle.ns_scope.specs.declared.resolve.Target.{Target}
use Rattle.ns_scope.specs.declared.resolve.Target.TheVariants as target
use Rattle.ns_scope.specs.Resolve.{resolve}
use Rattle.ns_resolved.specs.Program as m
use Rattle.ns_resolved.specs.Uses.{Use, a_message, how_many, ReachHas, NodeHas, NodesHave, MessagesHave}
use Rattle.ns_resolved.specs.Expressions.{Standing, Receiver, to_value, to_self, to_super, to_outer, Said, nothing, said, Message, message_with, send_node}
use Rattle.ns_resolved.specs.Expressions.{value_of, as_receiver, as_value, names_said, keys_said, messages_of, turns_of, with_cascade, named, set, sets_of}
use Rattle.ns_resolved.specs.Expressions.{reach_of, reach_outer, name_sent, keys_sent}
use Rattle.ns_link.specs.Reaching.{LocalHas, NamesHave}
use Rattle.ns_link.proofs.Texts.{identifier_arity}
use Rattle.ns_link.specs.laws.Setters.{setter_arity}

module _ (Has : Use → Type 0) (here : Standing) (reaches : NamesHave Has here.scope) where
  abbrev pub ReceiverHas : Receiver → Type 0
  ReceiverHas (to_value value) = NodeHas Has value
  ReceiverHas to_self = Unit {0}
  ReceiverHas to_super = Unit {0}
  ReceiverHas (to_outer class) = (name : List ℕ) → ReachHas Has (reach_outer here.scope class name) name

  -- a message's arguments, and that they are as many as its selector takes
  abbrev pub IsGood : m.Sent → m.Nodes → Type 0
  IsGood sent arguments = NodesHave Has arguments × Has (a_message sent.selector (how_many arguments))

  abbrev pub SaidHas : Said → Type 0
  SaidHas (nothing receiver) = ReceiverHas receiver
  SaidHas (said receiver message) = ReceiverHas receiver × IsGood message.sent message.arguments

  abbrev pub AllHave : List Message → Type 0
  AllHave [] = Unit {0}
  AllHave (message ∷ messages) = IsGood message.sent message.arguments × AllHave messages

  -- ---- messages

  pub send_has : (receiver : Receiver) (sent : m.Sent) (arguments : m.Nodes) → ReceiverHas receiver → IsGood sent arguments →
      NodeHas Has (send_node here.scope receiver sent arguments)
  send_has (to_value value) sent arguments r a = (r, a.0, a.1)
  send_has to_self sent arguments r a = (reaches.own sent.selector, a.0, a.1)
  send_has to_super sent arguments r a = (a.0, a.1)
  send_has (to_outer class) sent arguments r a = (r sent.selector, a.0, a.1)

  pub receiver_has : (last : Said) → SaidHas last → ReceiverHas (as_receiver here last)
  receiver_has (nothing receiver) h = h
  receiver_has (said receiver message) h = send_has receiver message.sent message.arguments h.0 h.1

  value_has : (receiver : Receiver) → ReceiverHas receiver → NodeHas Has (value_of receiver)
  value_has (to_value value) h = h
  value_has to_self h = tt
  value_has to_super h = tt
  value_has (to_outer class) h = tt

  pub as_value_has : (last : Said) → SaidHas last → NodeHas Has (as_value here last)
  as_value_has last h = value_has (as_receiver here last) (receiver_has last h)

  -- a name takes no arguments
  pub name_good : (text : List ℕ) → is_identifier text ≡ true → Has (a_message text 0)
  name_good text h = reaches.message text 0 (sym (identifier_arity text h)) (omega arith)

  pub names_have : (names : List Named) (last : Said) → AllHaveText (map ident names) → SaidHas last → SaidHas (names_said here last names)
  names_have [] last texts h = h
  names_have (name ∷ names) last texts h =
      names_have names (said (as_receiver here last) (message_with (name_sent here name) m.no_nodes)) texts.1
      (receiver_has last h, (tt, name_good name.text texts.0.0))

  pub keys_have_said : (keys : p.Keys) (last : Said) (arguments : m.Nodes) → SaidHas last → IsGood (keys_sent here keys) arguments →
      SaidHas (keys_said here last keys arguments)
  keys_have_said p.no_keys last arguments h a = h
  keys_have_said (p.more_keys name argument rest) last arguments h a = (receiver_has last h, a)

  messages_have_of : (message : Message) (others : List Message) → IsGood message.sent message.arguments → AllHave others →
      MessagesHave Has (messages_of message others)
  messages_have_of message [] a h = (a.0, a.1)
  messages_have_of message (next ∷ rest) a h = (a.0, a.1, messages_have_of next rest h.0 h.1)

  turns_have : (message : Message) (others : List Message) → IsGood message.sent message.arguments → AllHave others →
      NodeHas Has (turns_of here.scope message others)
  turns_have message [] a h = send_has to_self message.sent message.arguments tt a
  turns_have message (next ∷ rest) a h = (send_has to_self message.sent message.arguments tt a, turns_have next rest h.0 h.1)

  pub cascade_has : (last : Said) (others : List Message) → SaidHas last → AllHave others → NodeHas Has (with_cascade here last others)
  cascade_has last [] h a = as_value_has last h
  cascade_has (said (to_value value) message) (next ∷ rest) h a = (h.0, messages_have_of message (next ∷ rest) h.1 a)
  cascade_has (said to_self message) (next ∷ rest) h a = turns_have message (next ∷ rest) h.1 a
  cascade_has (said to_super message) (next ∷ rest) h a = as_value_has (said to_super message) h
  cascade_has (said (to_outer class) message) (next ∷ rest) h a = as_value_has (said (to_outer class) message) h
  cascade_has (nothing receiver) (next ∷ rest) h a = as_value_has (nothing receiver) h

  -- ---- names

  by_target : (what : Target) (sent : m.Sent) → LocalHas Has what → ReachHas Has (reach_of what) sent.selector → Has (a_message sent.selector 0) →
      NodeHas Has (named what sent)
  by_target (target.Local hops index) sent l r a = l
  by_target (target.Member level private) sent l r a = (r, tt, a)
  by_target target.SelfSend sent l r a = (r, tt, a)

  pub named_has : (sent : m.Sent) → is_identifier sent.selector ≡ true → NodeHas Has (named (resolve here.scope sent.selector) sent)
  named_has sent h =
      by_target (resolve here.scope sent.selector) sent (reaches.local sent.selector) (reaches.send sent.selector) (name_good sent.selector h)

  set_has : (name : Named) (what : Target) (value : m.Node) → is_identifier name.text ≡ true → LocalHas Has what → NodeHas Has value →
      NodeHas Has (set here name what value)
  set_has name (target.Local hops index) value n l h = (h, l)
  set_has name (target.Member level private) value n l h =
      (h, reaches.send (name.text ++ codes ":"), reaches.message (name.text ++ codes ":") 1 (setter_arity name.text n) (omega arith))
  set_has name target.SelfSend value n l h =
      (h, reaches.send (name.text ++ codes ":"), reaches.message (name.text ++ codes ":") 1 (setter_arity name.text n) (omega arith))

  pub sets_have : (names : List Named) (value : m.Node) → AllHaveText (map set_key names) → NodeHas Has value → NodeHas Has (sets_of here names value)
  sets_have [] value texts h = h
  sets_have (name ∷ names) value texts h =
      set_has name (resolve here.scope name.text) (sets_of here names value) texts.0 (reaches.local name.text) (sets_have names value texts.1 h)
