-- What a message, a name and a value that is set say.
use Rattle.std.proofs.Common.{◌≡◌, List, [], ◌∷◌, ◌++◌, refl}
use Rattle.std.specs.Prelude.{codes}
use Rattle.ns_base.specs.declared.place.Place.{Place}
use Rattle.ns_tree.specs.declared.tree.Named.{Named}
use Rattle.ns_tree.specs.Grammar as g
use Rattle.ns_tree.specs.Plain as p
use Rattle.ns_scope.specs.declared.resolve.Target.{Target}
use Rattle.ns_scope.specs.declared.resolve.Target.TheVariants as target
use Rattle.ns_scope.specs.Resolve.{resolve}
use Rattle.ns_resolved.specs.Program as m
use Rattle.ns_resolved.specs.Expressions.{Standing, Receiver, to_value, to_self, to_super, to_outer, Said, nothing, said, Message, message_with, send_node}
use Rattle.ns_resolved.specs.Expressions.{value_of, as_receiver, as_value, names_said, keys_said, messages_of, turns_of, with_cascade, named, set, sets_of}
use Rattle.ns_resolved.specs.Expressions.{name_sent, keys_sent}
use Rattle.ns_link.proofs.Held.{AllHeld}
use Rattle.ns_link.proofs.Says.{SentSays, NodeSays, NodesSay, MessagesSay}
use Rattle.ns_link.proofs.SoundTokens.{ident_gives, set_key_held}
use Rattle.ns_link.proofs.Words.{spoken_setter}

module _ (Fine : Place → Type 0) (here : Standing) where
  abbrev pub ReceiverSays : Receiver → Type 0
  ReceiverSays (to_value value) = NodeSays Fine value
  ReceiverSays to_self = Unit {0}
  ReceiverSays to_super = Unit {0}
  ReceiverSays (to_outer class) = Unit {0}

  -- a message: its arguments, and its selector with its place
  abbrev pub MessageSays : m.Sent → m.Nodes → Type 0
  MessageSays sent arguments = NodesSay Fine arguments × SentSays Fine sent

  abbrev pub SaidSays : Said → Type 0
  SaidSays (nothing receiver) = ReceiverSays receiver
  SaidSays (said receiver message) = ReceiverSays receiver × MessageSays message.sent message.arguments

  abbrev pub AllSay : List Message → Type 0
  AllSay [] = Unit {0}
  AllSay (message ∷ messages) = MessageSays message.sent message.arguments × AllSay messages

  -- ---- messages

  pub send_says : (receiver : Receiver) (sent : m.Sent) (arguments : m.Nodes) → ReceiverSays receiver → MessageSays sent arguments →
      NodeSays Fine (send_node here.scope receiver sent arguments)
  send_says (to_value value) sent arguments r a = (r, a.0, a.1)
  send_says to_self sent arguments r a = (a.0, a.1)
  send_says to_super sent arguments r a = (a.0, a.1)
  send_says (to_outer class) sent arguments r a = (a.0, a.1)

  pub receiver_says : (last : Said) → SaidSays last → ReceiverSays (as_receiver here last)
  receiver_says (nothing receiver) h = h
  receiver_says (said receiver message) h = send_says receiver message.sent message.arguments h.0 h.1

  value_says : (receiver : Receiver) → ReceiverSays receiver → NodeSays Fine (value_of receiver)
  value_says (to_value value) h = h
  value_says to_self h = tt
  value_says to_super h = tt
  value_says (to_outer class) h = tt

  pub as_value_says : (last : Said) → SaidSays last → NodeSays Fine (as_value here last)
  as_value_says last h = value_says (as_receiver here last) (receiver_says last h)

  pub names_say : (names : List Named) (last : Said) → AllHeld Fine here.marks g.ident names → SaidSays last → SaidSays (names_said here last names)
  names_say [] last held h = h
  names_say (name ∷ names) last held h =
      names_say names (said (as_receiver here last) (message_with (name_sent here name) m.no_nodes)) held.1
      (receiver_says last h, (tt, ident_gives Fine here.marks name held.0))

  pub keys_say : (keys : p.Keys) (last : Said) (arguments : m.Nodes) → SaidSays last → NodesSay Fine arguments →
      ((name : Named) (argument : p.BinExpr) (rest : p.Keys) → keys ≡ p.more_keys name argument rest → SentSays Fine (keys_sent here keys)) →
      SaidSays (keys_said here last keys arguments)
  keys_say p.no_keys last arguments h a sent = h
  keys_say (p.more_keys name argument rest) last arguments h a sent = (receiver_says last h, (a, sent name argument rest refl))

  -- ---- cascades

  messages_say : (message : Message) (rest : List Message) → MessageSays message.sent message.arguments → AllSay rest → MessagesSay Fine (messages_of message rest)
  messages_say message [] h all = (h.0, h.1)
  messages_say message (next ∷ rest) h all = (h.0, h.1, messages_say next rest all.0 all.1)

  turns_say : (message : Message) (rest : List Message) → MessageSays message.sent message.arguments → AllSay rest → NodeSays Fine (turns_of here.scope message rest)
  turns_say message [] h all = send_says to_self message.sent message.arguments tt h
  turns_say message (next ∷ rest) h all = (send_says to_self message.sent message.arguments tt h, turns_say next rest all.0 all.1)

  pub cascade_says : (last : Said) (others : List Message) → SaidSays last → AllSay others → NodeSays Fine (with_cascade here last others)
  cascade_says last [] h all = as_value_says last h
  cascade_says (nothing receiver) (next ∷ rest) h all = as_value_says (nothing receiver) h
  cascade_says (said (to_value value) message) (next ∷ rest) h all = (h.0, messages_say message (next ∷ rest) h.1 all)
  cascade_says (said to_self message) (next ∷ rest) h all = turns_say message (next ∷ rest) h.1 all
  cascade_says (said to_super message) (next ∷ rest) h all = as_value_says (said to_super message) h
  cascade_says (said (to_outer class) message) (next ∷ rest) h all = as_value_says (said (to_outer class) message) h

  -- ---- names and values that are set

  pub name_says : (to : Target) (sent : m.Sent) → SentSays Fine sent → NodeSays Fine (named to sent)
  name_says (target.Local hops index) sent h = tt
  name_says (target.Member level private) sent h = (tt, h)
  name_says target.SelfSend sent h = (tt, h)

  set_says : (name : Named) (to : Target) (value : m.Node) → SentSays Fine (name_sent here (record { text = name.text ++ codes ":"; at = name.at })) →
      NodeSays Fine value → NodeSays Fine (set here name to value)
  set_says name (target.Local hops index) value sent h = h
  set_says name (target.Member level private) value sent h = (h, sent)
  set_says name target.SelfSend value sent h = (h, sent)

  pub sets_say : (names : List Named) (value : m.Node) → AllHeld Fine here.marks g.set_key names → NodeSays Fine value → NodeSays Fine (sets_of here names value)
  sets_say [] value held h = h
  sets_say (name ∷ names) value held h =
      let one = set_key_held Fine here.marks name held.0 in
      set_says name (resolve here.scope name.text) (sets_of here names value) (spoken_setter name.text one.0 one.1, one.2) (sets_say names value held.1 h)
