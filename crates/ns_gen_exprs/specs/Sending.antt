-- What is written of nodes and messages: the whole of a node, and a message behind its receiver.
use Rattle.std.specs.Prelude.{ℕ, ◌+◌, List, [], ◌∷◌, ◌++◌, length}
use Rattle.ns_scope.specs.declared.scope.Scope.{Scope}
use Rattle.ns_tree.specs.declared.tree.Named.{Named}
use Rattle.ns_tree.specs.Plain as p
use Rattle.ns_scope.specs.Bodies as b
use Rattle.ns_resolved.specs.Program as m
use Rattle.ns_resolved.specs.Expressions as e
use Rattle.ns_resolved.specs.Tables.{put_all, node_names, nodes_names, node_texts, nodes_texts}
use Rattle.ns_gen_code.specs.Code.{CodeLine, Way, sends, plain, super, how_many, object_lines, way_of, node_lines, nodes_lines}
use Rattle.ns_gen_draft.specs.Drafts.{Written, filled}
use Rattle.ns_gen_exprs.specs.declared.reach.Reach.{Reach}
use Rattle.ns_gen_exprs.specs.declared.reach.Reach.TheVariants as r
use Rattle.ns_gen_exprs.specs.declared.receiver.Receiver.{Receiver}
use Rattle.ns_gen_exprs.specs.declared.receiver.Receiver.TheVariants as v

-- what a send reaches, as the meaning of names has it
abbrev pub meant_reach : Reach → m.Reach
meant_reach r.Own = m.own
meant_reach (r.Enclosing level) = m.enclosing level
meant_reach (r.PrivateOf level) = m.private_of level

-- ---- whole nodes

-- with further lines
abbrev pub with_lines : List CodeLine → Written → Written
with_lines lines before = record before { lines = filled before.lines lines }

-- with a node: its names, its literal texts and its lines
abbrev pub with_node : m.Node → Written → Written
with_node node before =
    record {
      names = put_all before.names (node_names node);
      texts = before.texts ++ node_texts node;
      lines = filled before.lines (node_lines (length before.texts) node []);
    }

-- with nodes in turn
abbrev pub with_nodes : m.Nodes → Written → Written
with_nodes nodes before =
    record {
      names = put_all before.names (nodes_names nodes);
      texts = before.texts ++ nodes_texts nodes;
      lines = filled before.lines (nodes_lines (length before.texts) nodes []);
    }

-- ---- receivers

-- what is kept of a receiver: a value lies on top already
abbrev pub kept : e.Receiver → Receiver
kept (e.to_value node) = v.Value
kept e.to_self = v.Own
kept e.to_super = v.Super
kept (e.to_outer class) = v.Outer class

-- with a receiver, of which a value alone is written before its message
abbrev pub with_receiver : e.Receiver → Written → Written
with_receiver (e.to_value node) before = with_node node before
with_receiver e.to_self before = before
with_receiver e.to_super before = before
with_receiver (e.to_outer class) before = before

-- the lines under the arguments of a message
abbrev pub begin_lines : Scope → Receiver → List ℕ → List CodeLine → List CodeLine
begin_lines scope v.Value selector rest = rest
begin_lines scope v.Own selector rest = object_lines (e.reach_self scope selector) rest
begin_lines scope v.Super selector rest = rest
begin_lines scope (v.Outer class) selector rest = object_lines (e.reach_outer scope class selector) rest

-- how the send of a message finds its method
abbrev pub begin_way : Scope → Receiver → List ℕ → Way
begin_way scope v.Value selector = plain
begin_way scope v.Own selector = way_of (e.reach_self scope selector)
begin_way scope v.Super selector = super
begin_way scope (v.Outer class) selector = way_of (e.reach_outer scope class selector)

-- with a message to a receiver
abbrev pub with_message : Scope → Receiver → m.Sent → m.Nodes → Written → Written
with_message scope receiver sent arguments before =
    record {
      names = put_all before.names (nodes_names arguments ++ sent.selector ∷ []);
      texts = before.texts ++ nodes_texts arguments;
      lines =
          filled before.lines
          (begin_lines scope receiver sent.selector
          (nodes_lines (length before.texts) arguments (sends (begin_way scope receiver sent.selector) sent (how_many arguments) ∷ [])));
    }

-- the same with the selector and the arguments of a message
abbrev pub with_one_message : Scope → Receiver → e.Message → Written → Written
with_one_message scope receiver message before = with_message scope receiver message.sent message.arguments before

-- with the value of a receiver to which no message is sent
abbrev pub with_value : Receiver → Written → Written
with_value v.Value before = before
with_value v.Own before = with_node m.self_value before
with_value v.Super before = with_node m.self_value before
with_value (v.Outer class) before = with_node m.self_value before

-- ---- unary messages

-- with unary messages in turn to a receiver
abbrev pub with_names : e.Standing → Receiver → List Named → Written → Written
with_names here receiver [] before = before
with_names here receiver (name ∷ names) before =
    with_names here v.Value names (with_message here.scope receiver (e.name_sent here name) m.no_nodes before)

-- what is left of a receiver behind messages
abbrev pub left : {A : Type 0} → Receiver → List A → Receiver
left receiver [] = receiver
left receiver (message ∷ messages) = v.Value

-- ---- binary and keyword messages; the number beside them is that of the next block's body

-- with binary messages in turn to a receiver
abbrev pub with_opers : e.Standing → ℕ → Receiver → p.Opers → Written → Written
with_opers here next receiver p.no_opers before = before
with_opers here next receiver (p.more_opers name argument rest) before =
    with_opers here (next + length (b.un_blocks here.scope argument)) v.Value rest
    (with_message here.scope receiver (e.name_sent here name) (e.one (e.un_node here next argument)) before)

-- what is left of a receiver behind them
abbrev pub opers_left : Receiver → p.Opers → Receiver
opers_left receiver p.no_opers = receiver
opers_left receiver (p.more_opers name argument rest) = v.Value

-- with a keyword message, where there are keys
abbrev pub with_keywords : e.Standing → ℕ → Receiver → p.Keys → Written → Written
with_keywords here next receiver p.no_keys before = before
with_keywords here next receiver (p.more_keys name argument rest) before =
    with_message here.scope receiver (e.keys_sent here (p.more_keys name argument rest)) (e.keys_nodes here next (p.more_keys name argument rest)) before

-- what is left of a receiver behind keys
abbrev pub keys_left : Receiver → p.Keys → Receiver
keys_left receiver p.no_keys = receiver
keys_left receiver (p.more_keys name argument rest) = v.Value
