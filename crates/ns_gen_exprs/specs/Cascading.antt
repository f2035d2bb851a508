-- What is written of cascades.
use Rattle.std.specs.Prelude.{ℕ, ◌+◌, zero, suc, Bool, true, false, [], ◌∷◌, ◌++◌, length}
use Rattle.ns_tree.specs.Plain as p
use Rattle.ns_scope.specs.Bodies as b
use Rattle.ns_code.specs.declared.instruction.Instr.TheVariants as i
use Rattle.ns_resolved.specs.Program as m
use Rattle.ns_resolved.specs.Expressions as e
use Rattle.ns_resolved.specs.Tables.{put_all, messages_names, messages_texts}
use Rattle.ns_gen_code.specs.Code.{does, messages_lines}
use Rattle.ns_gen_draft.specs.Drafts.{Written, filled}
use Rattle.ns_gen_exprs.specs.Sending.{with_lines, kept, with_receiver, with_message}
use Rattle.ns_gen_exprs.specs.declared.receiver.Receiver.{Receiver}
use Rattle.ns_gen_exprs.specs.declared.receiver.Receiver.TheVariants as v

-- with messages to the value that lies on top
abbrev pub with_messages : m.Messages → Written → Written
with_messages messages before =
    record {
      names = put_all before.names (messages_names messages);
      texts = before.texts ++ messages_texts messages;
      lines = filled before.lines (messages_lines (length before.texts) messages []);
    }

-- with the value on top dropped
abbrev pub with_pop : Written → Written
with_pop before = with_lines (does i.Pop ∷ []) before

-- with a copy of a receiver that is a value
abbrev pub with_copy : Receiver → Written → Written
with_copy v.Value before = with_lines (does (i.Pick 0) ∷ []) before
with_copy v.Own before = before
with_copy v.Super before = before
with_copy (v.Outer class) before = before

-- the same, where so many messages are left
abbrev pub with_copies : ℕ → Receiver → Written → Written
with_copies zero receiver before = before
with_copies (suc left) receiver before = with_copy receiver before

-- how many messages there are
abbrev pub left_of : p.Cascade → ℕ
left_of p.no_messages = 0
left_of (p.more_messages at message rest) = suc (left_of rest)

-- with the messages behind the first, each behind the dropped value of the one before
abbrev pub with_rest : e.Standing → ℕ → Receiver → p.Cascade → Written → Written
with_rest here next receiver p.no_messages before = before
with_rest here next receiver (p.more_messages at message rest) before =
    let said = e.message_said here next message in
    with_rest here (next + length (b.message_blocks here.scope message)) receiver rest
    (with_message here.scope receiver said.sent said.arguments (with_copies (left_of rest) receiver (with_pop before)))

-- with a receiver, and the message that was said last to a copy of it
abbrev pub with_first : e.Standing → e.Said → Written → Written
with_first here (e.nothing receiver) before = with_receiver receiver before
with_first here (e.said receiver message) before =
    with_message here.scope (kept receiver) message.sent message.arguments (with_copy (kept receiver) (with_receiver receiver before))

-- what is kept of the receiver of the message that was said last
abbrev pub said_kept : e.Said → Receiver
said_kept (e.nothing receiver) = kept receiver
said_kept (e.said receiver message) = kept receiver

-- whether there is a message
abbrev pub is_said : e.Said → Bool
is_said (e.nothing receiver) = false
is_said (e.said receiver message) = true

-- whether several messages go to such a receiver
abbrev pub is_repeated : Receiver → Bool
is_repeated v.Value = true
is_repeated v.Own = true
is_repeated v.Super = false
is_repeated (v.Outer class) = false

-- what an expression means before its names are set
abbrev pub unset_node : e.Standing → ℕ → p.Expr → m.Node
unset_node here next (p.expr_with sets first more) =
    e.with_cascade here (e.key_expr_said here next first) (e.cascade_messages here (next + length (b.key_expr_blocks here.scope first)) more)
