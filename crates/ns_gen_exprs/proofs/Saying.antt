-- Messages in turn are the ones that an expression has said.
use Rattle.std.proofs.Common.{◌≡◌, ℕ, ◌+◌, List, [], ◌∷◌, ◌++◌, length, refl, ap, sym, ◌∙◌, arith}
use Rattle.ns_tree.specs.declared.tree.Named.{Named}
use Rattle.ns_tree.specs.declared.tree.Expr.{Expr}
use Rattle.ns_tree.specs.PlainOf.{expr_of, exprs_of}
use Rattle.ns_tree.specs.Plain as p
use Rattle.ns_scope.specs.Resolve.{resolve}
use Rattle.ns_code.specs.declared.instruction.Instr.TheVariants as i
use Rattle.ns_scope.specs.Bodies as b
use Rattle.ns_resolved.specs.Program as m
use Rattle.ns_resolved.specs.Expressions as e
use Rattle.ns_gen_draft.specs.Drafts.{Written, filled, with_line, with_name}
use Rattle.ns_gen_code.specs.Code.{Way, does, sends, object_lines, way_of, how_many, nodes_lines}
use Rattle.ns_gen_draft.specs.Keys.{keys_count}
use Rattle.ns_gen_draft.specs.laws.Writing.{written_is}
use Rattle.ns_gen_draft.specs.laws.Keywords.{keys_many}
use Rattle.ns_gen_exprs.specs.Sending.{with_lines, with_node, with_nodes, begin_lines, begin_way, kept, with_receiver, with_message}
use Rattle.ns_gen_exprs.specs.Sending.{with_names, left, with_opers, opers_left, with_keywords, keys_left}
use Rattle.ns_gen_exprs.specs.declared.receiver.Receiver.{Receiver}
use Rattle.ns_gen_exprs.specs.declared.receiver.Receiver.TheVariants as v
use Rattle.ns_gen_exprs.specs.laws.Composing.{behind_nodes, message_put, object_sent, message_is}

-- ---- unary messages

-- what was said last counts by the receiver that it makes
names_by : (here : e.Standing) (last : e.Said) (names : List Named) →
    e.as_receiver here (e.names_said here last names) ≡ e.as_receiver here (e.names_said here (e.nothing (e.as_receiver here last)) names)
names_by here last [] = refl
names_by here last (name ∷ names) = refl

pub names_are : (here : e.Standing) (receiver : e.Receiver) (names : List Named) (before : Written) →
    with_names here (kept receiver) names (with_receiver receiver before)
    ≡ with_receiver (e.as_receiver here (e.names_said here (e.nothing receiver) names)) before
names_are here receiver [] before = refl
names_are here receiver (name ∷ names) before =
    let sent = e.name_sent here name in
    let node = e.send_node here.scope receiver sent m.no_nodes in
    ap (with_names here v.Value names) (message_is here.scope receiver sent m.no_nodes before)
    ∙ names_are here (e.to_value node) names before
    ∙ ap (λ r. with_receiver r before) (sym (names_by here (e.said receiver (e.message_with sent m.no_nodes)) names))

said_names : (here : e.Standing) (receiver : e.Receiver) (message : e.Message) (names : List Named) →
    kept (e.as_receiver here (e.names_said here (e.said receiver message) names)) ≡ v.Value
said_names here receiver message [] = refl
said_names here receiver message (name ∷ names) =
    said_names here (e.as_receiver here (e.said receiver message)) (e.message_with (e.name_sent here name) m.no_nodes) names

pub names_left : (here : e.Standing) (receiver : e.Receiver) (names : List Named) →
    left (kept receiver) names ≡ kept (e.as_receiver here (e.names_said here (e.nothing receiver) names))
names_left here receiver [] = refl
names_left here receiver (name ∷ names) = sym (said_names here receiver (e.message_with (e.name_sent here name) m.no_nodes) names)

-- ---- binary messages

opers_by : (here : e.Standing) (next : ℕ) (last : e.Said) (opers : p.Opers) →
    e.as_receiver here (e.opers_said here next last opers) ≡ e.as_receiver here (e.opers_said here next (e.nothing (e.as_receiver here last)) opers)
opers_by here next last p.no_opers = refl
opers_by here next last (p.more_opers name argument rest) = refl

pub opers_are : (here : e.Standing) (next : ℕ) (last : e.Said) (opers : p.Opers) (before : Written) →
    with_opers here next (kept (e.as_receiver here last)) opers (with_receiver (e.as_receiver here last) before)
    ≡ with_receiver (e.as_receiver here (e.opers_said here next last opers)) before
opers_are here next last p.no_opers before = refl
opers_are here next last (p.more_opers name argument rest) before =
    let sent = e.name_sent here name in
    let arguments = e.one (e.un_node here next argument) in
    let next_said = e.said (e.as_receiver here last) (e.message_with sent arguments) in
    ap (with_opers here (next + length (b.un_blocks here.scope argument)) v.Value rest) (message_is here.scope (e.as_receiver here last) sent arguments before)
    ∙ opers_are here (next + length (b.un_blocks here.scope argument)) next_said rest before

said_opers : (here : e.Standing) (next : ℕ) (receiver : e.Receiver) (message : e.Message) (opers : p.Opers) →
    kept (e.as_receiver here (e.opers_said here next (e.said receiver message) opers)) ≡ v.Value
said_opers here next receiver message p.no_opers = refl
said_opers here next receiver message (p.more_opers name argument rest) =
    said_opers here (next + length (b.un_blocks here.scope argument)) (e.as_receiver here (e.said receiver message))
    (e.message_with (e.name_sent here name) (e.one (e.un_node here next argument))) rest

pub opers_kept : (here : e.Standing) (next : ℕ) (last : e.Said) (opers : p.Opers) →
    opers_left (kept (e.as_receiver here last)) opers ≡ kept (e.as_receiver here (e.opers_said here next last opers))
opers_kept here next last p.no_opers = refl
opers_kept here next last (p.more_opers name argument rest) =
    sym (said_opers here (next + length (b.un_blocks here.scope argument)) (e.as_receiver here last)
    (e.message_with (e.name_sent here name) (e.one (e.un_node here next argument))) rest)

pub keywords_are : (here : e.Standing) (next : ℕ) (last : e.Said) (keys : p.Keys) (before : Written) →
    with_keywords here next (kept (e.as_receiver here last)) keys (with_receiver (e.as_receiver here last) before)
    ≡ with_receiver (e.as_receiver here (e.keys_said here last keys (e.keys_nodes here next keys))) before
keywords_are here next last p.no_keys before = refl
keywords_are here next last (p.more_keys name argument rest) before = message_is here.scope (e.as_receiver here last) _ _ before

pub keywords_kept : (here : e.Standing) (next : ℕ) (last : e.Said) (keys : p.Keys) →
    keys_left (kept (e.as_receiver here last)) keys ≡ kept (e.as_receiver here (e.keys_said here last keys (e.keys_nodes here next keys)))
keywords_kept here next last p.no_keys = refl
keywords_kept here next last (p.more_keys name argument rest) = refl

-- a keyword message, with its arguments written in between
pub keywords_put : (here : e.Standing) (next : ℕ) (receiver : Receiver) (keys : p.Keys) (way : Way) (count : ℕ) (before : Written) →
    way ≡ begin_way here.scope receiver (e.joined keys) → count ≡ keys_count keys →
    with_line (with_name (with_nodes (e.keys_nodes here next keys) (with_lines (begin_lines here.scope receiver (e.joined keys) []) before)) (e.joined keys))
    (sends way (e.keys_sent here keys) count)
    ≡ with_message here.scope receiver (e.keys_sent here keys) (e.keys_nodes here next keys) before
keywords_put here next receiver keys way count before p q =
    message_put here.scope receiver (e.keys_sent here keys) (e.keys_nodes here next keys) way count before p (q ∙ sym (keys_many here next keys))

pub implicit_put : (here : e.Standing) (next : ℕ) (reach : m.Reach) (keys : p.Keys) (way : Way) (count : ℕ) (before : Written) →
    reach ≡ e.reach_of (resolve here.scope (e.joined keys)) → way ≡ way_of reach → count ≡ keys_count keys →
    with_line (with_name (with_nodes (e.keys_nodes here next keys) (with_lines (object_lines reach []) before)) (e.joined keys)) (sends way (e.keys_sent here keys) count)
    ≡ with_node (e.implicit_send here (e.keys_sent here keys) (e.keys_nodes here next keys)) before
implicit_put here next reach keys way count before r p q =
    object_sent reach (e.keys_sent here keys) (e.keys_nodes here next keys) way count before p (q ∙ sym (keys_many here next keys))
    ∙ ap (λ x. with_node (m.send_to x (e.keys_sent here keys) (e.keys_nodes here next keys)) before) r

-- ---- tuples

items_many : (here : e.Standing) (next : ℕ) (items : List Expr) → how_many (e.items_nodes here next (exprs_of items)) ≡ length items
items_many here next [] = refl
items_many here next (item ∷ items) =
    ap (λ n. n + 1) (items_many here (next + length (b.expr_blocks here.scope (expr_of item))) items) ∙ omega arith

pub array_put : (here : e.Standing) (next : ℕ) (items : List Expr) (count : ℕ) (before : Written) → count ≡ length items →
    with_line (with_nodes (e.items_nodes here next (exprs_of items)) before) (does (i.MakeArray count))
    ≡ with_node (m.array (e.items_nodes here next (exprs_of items))) before
array_put here next items count before same =
    let nodes = e.items_nodes here next (exprs_of items) in
    written_is _ _ _ _ _ _ refl refl
    (ap (λ n. filled (filled before.lines (nodes_lines (length before.texts) nodes [])) (does (i.MakeArray n) ∷ [])) (same ∙ sym (items_many here next items))
    ∙ behind_nodes nodes (length before.texts) before.lines (does (i.MakeArray (how_many nodes)) ∷ []))
