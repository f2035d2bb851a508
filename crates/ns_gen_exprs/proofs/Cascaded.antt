-- Messages in turn to one receiver are the cascade.
use Rattle.std.proofs.Common.{◌≡◌, ◌<◌, ℕ, ◌+◌, zero, suc, List, [], ◌∷◌, ◌++◌, length, refl, sym, ap, ◌∙◌, append_assoc, length-append, arith}
use Rattle.std.specs.Prelude.{true, false, ◌==◌}
use Rattle.ns_tree.specs.declared.tree.Named.{Named}
use Rattle.ns_tree.specs.declared.tree.Message.{Message}
use Rattle.ns_tree.specs.PlainOf.{cascade_of}
use Rattle.ns_tree.specs.Plain as p
use Rattle.ns_scope.specs.declared.scope.Scope.{Scope}
use Rattle.ns_scope.specs.Bodies as b
use Rattle.ns_code.specs.declared.instruction.Instr.TheVariants as i
use Rattle.ns_resolved.specs.Program as m
use Rattle.ns_resolved.specs.Expressions as e
use Rattle.ns_resolved.specs.Tables.{put_all, node_names, nodes_names, node_texts, nodes_texts, messages_names, messages_texts}
use Rattle.ns_gen_code.specs.Code.{CodeLine, does, sends, plain, how_many, node_lines, nodes_lines, messages_lines}
use Rattle.ns_gen_draft.specs.Drafts.{Written, filled}
use Rattle.ns_gen_draft.specs.laws.Filling.{filled_more}
use Rattle.ns_gen_exprs.specs.Sending.{with_node, with_message}
use Rattle.ns_gen_exprs.specs.Cascading.{with_messages, with_pop, with_copy, with_copies, left_of, with_rest, with_first, said_kept, is_said, is_repeated, unset_node}
use Rattle.ns_gen_exprs.specs.declared.receiver.Receiver.{Receiver}
use Rattle.ns_gen_exprs.specs.declared.receiver.Receiver.TheVariants as v
use Rattle.ns_gen_code.specs.laws.GoesOn.{nodes_go_on}
use Rattle.ns_gen_draft.specs.laws.Writing.{written_is, put_more}
use Rattle.ns_gen_exprs.specs.laws.Composing.{behind_node}
use Rattle.ns_gen_exprs.proofs.Firsts.{left_counted}

pub copies_some : (left : ℕ) (receiver : Receiver) (before : Written) → 0 < left →
    with_copies left receiver before ≡ with_copy receiver before
copies_some zero receiver before h = absurd (omega (h, arith))
copies_some (suc left) receiver before h = refl

-- ---- to a value

one_line : (before : List CodeLine) (copy : CodeLine) (args rest : List CodeLine) (pop : CodeLine) (behind : List CodeLine) →
    filled (filled (filled (filled before (copy ∷ [])) args) (pop ∷ [])) behind ≡ filled before (copy ∷ (args ++ pop ∷ behind))
one_line before copy args rest pop behind = simp (filled_more, append_assoc)

value_step : (scope : Scope) (sent : m.Sent) (arguments : m.Nodes) (messages : m.Messages) (before : Written) →
    with_messages messages (with_pop (with_message scope v.Value sent arguments (with_copy v.Value before)))
    ≡ with_messages (m.more_messages sent arguments messages) before
value_step scope sent arguments messages before =
    let k = length before.texts in
    let send = sends plain sent (how_many arguments) in
    let rest = messages_lines (k + length (nodes_texts arguments)) messages [] in
    written_is _ _ _ _ _ _
    (sym (put_more (nodes_names arguments ++ sent.selector ∷ []) (messages_names messages) before.names)
    ∙ ap (λ names. put_all before.names names) (append_assoc (nodes_names arguments) (sent.selector ∷ []) (messages_names messages)))
    (append_assoc before.texts (nodes_texts arguments) (messages_texts messages))
    (ap (λ n. filled (filled (filled (filled before.lines (does (i.Pick 0) ∷ [])) (nodes_lines k arguments (send ∷ []))) (does i.Pop ∷ [])) (messages_lines n messages []))
    (length-append before.texts (nodes_texts arguments))
    ∙ one_line before.lines (does (i.Pick 0)) (nodes_lines k arguments (send ∷ [])) rest (does i.Pop) rest
    ∙ ap (λ lines. filled before.lines (does (i.Pick 0) ∷ lines)) (sym (nodes_go_on arguments k (send ∷ []) (does i.Pop ∷ rest))))

values_put : (here : e.Standing) (next at : ℕ) (first : p.Message) (rest : p.Cascade) (message : e.Message) (before : Written) →
    with_rest here next v.Value (p.more_messages at first rest) (with_message here.scope v.Value message.sent message.arguments (with_copy v.Value before))
    ≡ with_messages (e.messages_of message (e.cascade_messages here next (p.more_messages at first rest))) before
values_put here next at first p.no_messages message before =
    let said = e.message_said here next first in
    value_step here.scope message.sent message.arguments (m.last_message said.sent said.arguments) before
values_put here next at first (p.more_messages after second rest) message before =
    let said = e.message_said here next first in
    let behind = next + length (b.message_blocks here.scope first) in
    values_put here behind after second rest said (with_pop (with_message here.scope v.Value message.sent message.arguments (with_copy v.Value before)))
    ∙ value_step here.scope message.sent message.arguments (e.messages_of said (e.cascade_messages here behind (p.more_messages after second rest))) before

value_whole : (value : m.Node) (messages : m.Messages) (before : Written) →
    with_messages messages (with_node value before) ≡ with_node (m.cascade value messages) before
value_whole value messages before =
    let k = length before.texts in
    written_is _ _ _ _ _ _ (sym (put_more (node_names value) (messages_names messages) before.names))
    (append_assoc before.texts (node_texts value) (messages_texts messages))
    (ap (λ n. filled (filled before.lines (node_lines k value [])) (messages_lines n messages [])) (length-append before.texts (node_texts value))
    ∙ behind_node value k before.lines (messages_lines (k + length (node_texts value)) messages []))

-- ---- to self

turn_step : (first then_node : m.Node) (before : Written) →
    with_node then_node (with_pop (with_node first before)) ≡ with_node (m.in_turn first then_node) before
turn_step first then_node before =
    let k = length before.texts in
    let rest = node_lines (k + length (node_texts first)) then_node [] in
    written_is _ _ _ _ _ _ (sym (put_more (node_names first) (node_names then_node) before.names))
    (append_assoc before.texts (node_texts first) (node_texts then_node))
    (ap (λ n. filled (filled (filled before.lines (node_lines k first [])) (does i.Pop ∷ [])) (node_lines n then_node [])) (length-append before.texts (node_texts first))
    ∙ filled_more (filled before.lines (node_lines k first [])) (does i.Pop ∷ []) rest
    ∙ behind_node first k before.lines (does i.Pop ∷ rest))

turns_put : (here : e.Standing) (next at : ℕ) (first : p.Message) (rest : p.Cascade) (message : e.Message) (before : Written) →
    with_rest here next v.Own (p.more_messages at first rest) (with_message here.scope v.Own message.sent message.arguments before)
    ≡ with_node (e.turns_of here.scope message (e.cascade_messages here next (p.more_messages at first rest))) before
turns_put here next at first p.no_messages message before =
    let said = e.message_said here next first in
    turn_step (e.send_node here.scope e.to_self message.sent message.arguments) (e.send_node here.scope e.to_self said.sent said.arguments) before
turns_put here next at first (p.more_messages after second rest) message before =
    let said = e.message_said here next first in
    let behind = next + length (b.message_blocks here.scope first) in
    turns_put here behind after second rest said (with_pop (with_message here.scope v.Own message.sent message.arguments before))
    ∙ turn_step (e.send_node here.scope e.to_self message.sent message.arguments)
    (e.turns_of here.scope said (e.cascade_messages here behind (p.more_messages after second rest))) before

-- ---- the whole

pub cascade_put : (here : e.Standing) (next : ℕ) (last : e.Said) (more : p.Cascade) (before : Written) → is_said last ≡ true →
    is_repeated (said_kept last) ≡ true → 0 < left_of more →
    with_rest here next (said_kept last) more (with_first here last before) ≡ with_node (e.with_cascade here last (e.cascade_messages here next more)) before
cascade_put here next last p.no_messages before said repeated some = absurd (omega (some, arith))
cascade_put here next (e.nothing receiver) (p.more_messages at first rest) before said repeated some =
    absurd (let f : false ≡ true = said in cc)
cascade_put here next (e.said (e.to_value value) message) (p.more_messages at first rest) before said repeated some =
    values_put here next at first rest message (with_node value before)
    ∙ value_whole value (e.messages_of message (e.cascade_messages here next (p.more_messages at first rest))) before
cascade_put here next (e.said e.to_self message) (p.more_messages at first rest) before said repeated some =
    turns_put here next at first rest message before
cascade_put here next (e.said e.to_super message) (p.more_messages at first rest) before said repeated some =
    absurd (let f : false ≡ true = repeated in cc)
cascade_put here next (e.said (e.to_outer class) message) (p.more_messages at first rest) before said repeated some =
    absurd (let f : false ≡ true = repeated in cc)

pub some_more : (count left : ℕ) → count ≡ left → false ≡ (count == 0) → 0 < left
some_more zero left same h = absurd (let f : false ≡ true = h in cc)
some_more (suc count) left same h = omega (same, arith)

pub cascade_whole : (here : e.Standing) (next n1 : ℕ) (first : p.KeyExpr) (sets : List Named) (more : List (ℕ × Message)) (receiver : Receiver) (w0 w1 w2 : Written) →
    w1 ≡ with_first here (e.key_expr_said here next first) w0 → receiver ≡ said_kept (e.key_expr_said here next first) →
    is_said (e.key_expr_said here next first) ≡ true → n1 ≡ next + length (b.key_expr_blocks here.scope first) → is_repeated receiver ≡ true →
    0 < length more → w2 ≡ with_rest here n1 receiver (cascade_of more) w1 →
    w2 ≡ with_node (unset_node here next (p.expr_with sets first (cascade_of more))) w0
cascade_whole here next n1 first sets more receiver w0 w1 w2 one is said number repeated some two =
    let spoken = e.key_expr_said here next first in
    let n = next + length (b.key_expr_blocks here.scope first) in
    two
    ∙ ap (λ k. with_rest here k receiver (cascade_of more) w1) number
    ∙ ap (λ r. with_rest here n r (cascade_of more) w1) is
    ∙ ap (with_rest here n (said_kept spoken) (cascade_of more)) one
    ∙ cascade_put here n spoken (cascade_of more) w0 said (ap is_repeated (sym is) ∙ repeated) (omega (some, left_counted more, arith))
