-- What is written in turn is the writing of the whole: values and messages to them, arguments, and lists of nodes.
use Rattle.std.proofs.Common.{◌≡◌, ℕ, ◌+◌, List, [], ◌∷◌, ◌++◌, length, refl, sym, ap, ◌∙◌, append-nil, append_assoc, length-append}
use Rattle.ns_scope.specs.declared.scope.Scope.{Scope}
use Rattle.ns_resolved.specs.Program as m
use Rattle.ns_resolved.specs.Expressions as e
use Rattle.ns_resolved.specs.Tables.{put_all, node_names, nodes_names, node_texts, nodes_texts}
use Rattle.ns_gen_code.specs.Code.{CodeLine, Way, sends, plain, how_many, object_lines, way_of, node_lines, nodes_lines}
use Rattle.ns_gen_draft.specs.Drafts.{Written, filled, with_line, with_name}
use Rattle.ns_gen_draft.specs.laws.Filling.{filled_none, filled_more}
use Rattle.ns_gen_draft.specs.laws.Writing.{put_more, written_is}
use Rattle.ns_gen_exprs.specs.Sending.{with_lines, with_node, with_nodes, kept, with_receiver, begin_lines, begin_way, with_message, with_value}
use Rattle.ns_gen_exprs.specs.declared.receiver.Receiver.{Receiver}
use Rattle.ns_gen_exprs.specs.declared.receiver.Receiver.TheVariants as v
use Rattle.ns_gen_code.specs.laws.GoesOn.{node_goes_on, nodes_go_on}

-- ---- lines behind those of a node or of nodes

-- Lines behind those of a node are lines that the node's go before.
pub behind_node : (node : m.Node) (k : ℕ) (before after : List CodeLine) →
    filled (filled before (node_lines k node [])) after ≡ filled before (node_lines k node after)
behind_node node k before after =
    filled_more before (node_lines k node []) after ∙ ap (filled before) (sym (node_goes_on node k [] after))

-- Lines behind those of nodes are lines that the nodes' go before.
pub behind_nodes : (nodes : m.Nodes) (k : ℕ) (before after : List CodeLine) →
    filled (filled before (nodes_lines k nodes [])) after ≡ filled before (nodes_lines k nodes after)
behind_nodes nodes k before after =
    filled_more before (nodes_lines k nodes []) after ∙ ap (filled before) (sym (nodes_go_on nodes k [] after))

-- ---- lists of nodes

-- No nodes are written as nothing.
pub with_none : (before : Written) → with_nodes m.no_nodes before ≡ before
with_none before = written_is _ _ _ _ _ _ refl (append-nil before.texts) (filled_none before.lines)

pub with_more : (node : m.Node) (rest : m.Nodes) (before : Written) →
    with_nodes (m.more_nodes node rest) before ≡ with_nodes rest (with_node node before)
with_more node rest before =
    let k = length before.texts in
    written_is _ _ _ _ _ _ (put_more (node_names node) (nodes_names rest) before.names)
    (sym (append_assoc before.texts (node_texts node) (nodes_texts rest)))
    (sym (behind_node node k before.lines (nodes_lines (k + length (node_texts node)) rest []))
    ∙ ap (λ n. filled (filled before.lines (node_lines k node [])) (nodes_lines n rest [])) (sym (length-append before.texts (node_texts node))))

-- One node is written as the list of it.
pub with_one : (node : m.Node) (before : Written) → with_nodes (e.one node) before ≡ with_node node before
with_one node before = with_more node m.no_nodes before ∙ with_none (with_node node before)

-- ---- messages

-- what stands under the arguments stands before whatever follows
object_on : (reach : m.Reach) (rest : List CodeLine) → object_lines reach rest ≡ object_lines reach [] ++ rest
object_on m.own rest = refl
object_on (m.enclosing level) rest = refl
object_on (m.private_of level) rest = refl

begin_on : (scope : Scope) (receiver : Receiver) (selector : List ℕ) (rest : List CodeLine) →
    begin_lines scope receiver selector rest ≡ begin_lines scope receiver selector [] ++ rest
begin_on scope v.Value selector rest = refl
begin_on scope v.Own selector rest = object_on (e.reach_self scope selector) rest
begin_on scope v.Super selector rest = refl
begin_on scope (v.Outer class) selector rest = object_on (e.reach_outer scope class selector) rest

-- what is written behind lines, arguments and a send
sent_behind : (begin : List CodeLine) (way : Way) (sent : m.Sent) (arguments : m.Nodes) (count : ℕ) (before : Written) →
    count ≡ how_many arguments →
    with_line (with_name (with_nodes arguments (with_lines begin before)) sent.selector) (sends way sent count)
    ≡ (let w : Written = record {
      names = put_all before.names (nodes_names arguments ++ sent.selector ∷ []);
      texts = before.texts ++ nodes_texts arguments;
      lines = filled before.lines (begin ++ nodes_lines (length before.texts) arguments (sends way sent (how_many arguments) ∷ []));
    } in w)
sent_behind begin way sent arguments count before e =
    written_is _ _ _ _ _ _ (sym (put_more (nodes_names arguments) (sent.selector ∷ []) before.names)) refl
    (ap (λ n. filled (filled (filled before.lines begin) (nodes_lines (length before.texts) arguments [])) (sends way sent n ∷ [])) e
    ∙ behind_nodes arguments (length before.texts) (filled before.lines begin) (sends way sent (how_many arguments) ∷ [])
    ∙ filled_more before.lines begin (nodes_lines (length before.texts) arguments (sends way sent (how_many arguments) ∷ [])))

-- a message, with its arguments written in between
pub message_put : (scope : Scope) (receiver : Receiver) (sent : m.Sent) (arguments : m.Nodes) (way : Way) (count : ℕ) (before : Written) →
    way ≡ begin_way scope receiver sent.selector → count ≡ how_many arguments →
    with_line (with_name (with_nodes arguments (with_lines (begin_lines scope receiver sent.selector []) before)) sent.selector) (sends way sent count)
    ≡ with_message scope receiver sent arguments before
message_put scope receiver sent arguments way count before p q =
    let line = sends (begin_way scope receiver sent.selector) sent (how_many arguments) in
    let lines = nodes_lines (length before.texts) arguments (line ∷ []) in
    ap (λ w. with_line (with_name (with_nodes arguments (with_lines (begin_lines scope receiver sent.selector []) before)) sent.selector) (sends w sent count)) p
    ∙ sent_behind (begin_lines scope receiver sent.selector []) (begin_way scope receiver sent.selector) sent arguments count before q
    ∙ written_is _ _ _ _ _ _ refl refl (ap (filled before.lines) (sym (begin_on scope receiver sent.selector lines)))

-- a send to an object that is reached so
pub object_sent : (reach : m.Reach) (sent : m.Sent) (arguments : m.Nodes) (way : Way) (count : ℕ) (before : Written) → way ≡ way_of reach →
    count ≡ how_many arguments →
    with_line (with_name (with_nodes arguments (with_lines (object_lines reach []) before)) sent.selector) (sends way sent count)
    ≡ with_node (m.send_to reach sent arguments) before
object_sent reach sent arguments way count before p q =
    let lines = nodes_lines (length before.texts) arguments (sends (way_of reach) sent (how_many arguments) ∷ []) in
    ap (λ w. with_line (with_name (with_nodes arguments (with_lines (object_lines reach []) before)) sent.selector) (sends w sent count)) p
    ∙ sent_behind (object_lines reach []) (way_of reach) sent arguments count before q
    ∙ written_is _ _ _ _ _ _ refl refl (ap (filled before.lines) (sym (object_on reach lines)))

-- a message without arguments
pub unary_put : (scope : Scope) (receiver : Receiver) (sent : m.Sent) (way : Way) (before : Written) → way ≡ begin_way scope receiver sent.selector →
    with_line (with_name (with_lines (begin_lines scope receiver sent.selector []) before) sent.selector) (sends way sent 0)
    ≡ with_message scope receiver sent m.no_nodes before
unary_put scope receiver sent way before p =
    ap (λ w. with_line (with_name w sent.selector) (sends way sent 0)) (sym (with_none (with_lines (begin_lines scope receiver sent.selector []) before)))
    ∙ message_put scope receiver sent m.no_nodes way 0 before p refl

-- a send without arguments to an object that is reached so
pub object_named : (reach : m.Reach) (sent : m.Sent) (way : Way) (before : Written) → way ≡ way_of reach →
    with_line (with_name (with_lines (object_lines reach []) before) sent.selector) (sends way sent 0) ≡ with_node (m.send_to reach sent m.no_nodes) before
object_named reach sent way before p =
    ap (λ w. with_line (with_name w sent.selector) (sends way sent 0)) (sym (with_none (with_lines (object_lines reach []) before)))
    ∙ object_sent reach sent m.no_nodes way 0 before p refl

-- a message to a receiver is the send that it means
pub message_is : (scope : Scope) (receiver : e.Receiver) (sent : m.Sent) (arguments : m.Nodes) (before : Written) →
    with_message scope (kept receiver) sent arguments (with_receiver receiver before) ≡ with_node (e.send_node scope receiver sent arguments) before
message_is scope (e.to_value node) sent arguments before =
    let k = length before.texts in
    let last = sends plain sent (how_many arguments) ∷ [] in
    written_is _ _ _ _ _ _ (sym (put_more (node_names node) (nodes_names arguments ++ sent.selector ∷ []) before.names))
    (append_assoc before.texts (node_texts node) (nodes_texts arguments))
    (ap (λ n. filled (filled before.lines (node_lines k node [])) (nodes_lines n arguments last)) (length-append before.texts (node_texts node))
    ∙ behind_node node k before.lines (nodes_lines (k + length (node_texts node)) arguments last))
message_is scope e.to_self sent arguments before = refl
message_is scope e.to_super sent arguments before = refl
message_is scope (e.to_outer class) sent arguments before = refl

pub value_is : (receiver : e.Receiver) (before : Written) →
    with_value (kept receiver) (with_receiver receiver before) ≡ with_node (e.value_of receiver) before
value_is (e.to_value node) before = refl
value_is e.to_self before = refl
value_is e.to_super before = refl
value_is (e.to_outer class) before = refl

-- a binary message, with its argument written in between
pub binary_put : (scope : Scope) (receiver : Receiver) (sent : m.Sent) (argument : m.Node) (way : Way) (before : Written) →
    way ≡ begin_way scope receiver sent.selector →
    with_line (with_name (with_node argument (with_lines (begin_lines scope receiver sent.selector []) before)) sent.selector) (sends way sent 1)
    ≡ with_message scope receiver sent (e.one argument) before
binary_put scope receiver sent argument way before p =
    ap (λ w. with_line (with_name w sent.selector) (sends way sent 1)) (sym (with_one argument (with_lines (begin_lines scope receiver sent.selector []) before)))
    ∙ message_put scope receiver sent (e.one argument) way 1 before p refl
