-- The last message of an expression, apart from what it is sent to.
use Rattle.std.proofs.Common.{◌≡◌, ◌<◌, ◌≤◌, ℕ, ◌+◌, ◌-◌, suc, List, [], ◌∷◌, ◌++◌, length, take, drop, get_or, refl, sym, ap, ◌∙◌, length-append, take_all, arith}
use Rattle.std.specs.Prelude.{true}
use Rattle.std.proofs.lemmas.List.{drop_more, take_more}
use Rattle.ns_tree.specs.declared.tree.Named.{Named}
use Rattle.ns_tree.specs.declared.tree.UnExpr.{UnExpr}
use Rattle.ns_tree.specs.declared.tree.BinExpr.{BinExpr}
use Rattle.ns_tree.specs.declared.tree.Message.{Message}
use Rattle.ns_tree.specs.PlainOf.{un_of, opers_of, keys_of, message_of, cascade_of}
use Rattle.ns_tree.specs.Plain as p
use Rattle.ns_scope.specs.Bodies as b
use Rattle.ns_resolved.specs.Program as m
use Rattle.ns_resolved.specs.Expressions as e
use Rattle.ns_gen_draft.specs.Drafts.{Written}
use Rattle.ns_gen_exprs.specs.Sending.{kept, with_receiver, with_message, with_names, left, with_opers, opers_left}
use Rattle.ns_gen_exprs.specs.Cascading.{with_pop, with_copy, with_copies, left_of, with_rest, with_first, said_kept, is_said}
use Rattle.ns_gen_exprs.specs.declared.receiver.Receiver.{Receiver}
use Rattle.ns_gen_exprs.proofs.Saying.{names_are, names_left, opers_are, opers_kept}

-- What was said last is written, to a copy of the receiver that is left.
abbrev pub IsFirst : e.Standing → e.Said → Receiver → Written → Written → Type 0
IsFirst here spoken receiver before after =
    (after ≡ with_first here spoken before) × (receiver ≡ said_kept spoken) × (is_said spoken ≡ true)

-- a list in two parts, of which the second is its last item
pub parted : {A : Type 0} (items : List A) (last : A) → 1 ≤ length items → last ≡ get_or items (length items - 1) last →
    items ≡ take (length items - 1) items ++ last ∷ []
parted items last h is =
    let whole : length items ≡ length items - 1 + 1 = omega arith in
    sym (take_all (length items) items (omega arith))
    ∙ (ap (λ n. take n items) whole ∙ take_more items (length items - 1) last (omega arith))
    ∙ ap (λ x. take (length items - 1) items ++ x ∷ []) (sym is)

-- ---- a message that is known

pub first_put : (here : e.Standing) (to : e.Receiver) (message : e.Message) (spoken : e.Said) (receiver : Receiver) (w0 w1 w2 w3 : Written) →
    spoken ≡ e.said to message → receiver ≡ kept to → w1 ≡ with_receiver to w0 → w2 ≡ with_copy receiver w1 →
    w3 ≡ with_message here.scope receiver message.sent message.arguments w2 → w3 ≡ with_first here spoken w0
first_put here to message spoken receiver w0 w1 w2 w3 is keeps one two three =
    three
    ∙ ap (with_message here.scope receiver message.sent message.arguments) (two ∙ ap (with_copy receiver) one)
    ∙ ap (λ r. with_message here.scope r message.sent message.arguments (with_copy r (with_receiver to w0))) keeps
    ∙ ap (λ s. with_first here s w0) (sym is)

-- ---- unary messages

names_split : (here : e.Standing) (spoken : e.Said) (names : List Named) (last : Named) →
    e.names_said here spoken (names ++ last ∷ []) ≡ e.said (e.as_receiver here (e.names_said here spoken names))
    (e.message_with (e.name_sent here last) m.no_nodes)
names_split here spoken [] last = refl
names_split here spoken (name ∷ names) last =
    names_split here (e.said (e.as_receiver here spoken) (e.message_with (e.name_sent here name) m.no_nodes)) names last

pub un_first : (here : e.Standing) (to : e.Receiver) (names front : List Named) (last : Named) (first receiver : Receiver) (w0 w1 w2 w3 w4 : Written) →
    names ≡ front ++ last ∷ [] → first ≡ kept to → w1 ≡ with_receiver to w0 → w2 ≡ with_names here first front w1 → receiver ≡ left first front →
    w3 ≡ with_copy receiver w2 → w4 ≡ with_message here.scope receiver (e.name_sent here last) m.no_nodes w3 →
    IsFirst here (e.names_said here (e.nothing to) names) receiver w0 w4
un_first here to names front last first receiver w0 w1 w2 w3 w4 split is one two behind three four =
    let whole = e.as_receiver here (e.names_said here (e.nothing to) front) in
    let message = e.message_with (e.name_sent here last) m.no_nodes in
    let spoken : e.names_said here (e.nothing to) names ≡ e.said whole message =
    ap (e.names_said here (e.nothing to)) split ∙ names_split here (e.nothing to) front last in
    let keeps : receiver ≡ kept whole = behind ∙ ap (λ r. left r front) is ∙ names_left here to front in
    let has : w2 ≡ with_receiver whole w0 = two ∙ ap (λ r. with_names here r front w1) is ∙ ap (with_names here (kept to) front) one ∙ names_are here to front w0 in (
      first_put here whole message (e.names_said here (e.nothing to) names) receiver w0 w2 w3 w4 spoken keeps has three four,
      keeps ∙ ap said_kept (sym spoken),
      ap is_said spoken,
    )

-- ---- binary messages

opers_split : (here : e.Standing) (next : ℕ) (spoken : e.Said) (opers : List (Named × UnExpr)) (last : Named × UnExpr) →
    e.opers_said here next spoken (opers_of (opers ++ last ∷ []))
    ≡ e.said (e.as_receiver here (e.opers_said here next spoken (opers_of opers)))
    (e.message_with (e.name_sent here last.0) (e.one (e.un_node here (next + length (b.opers_blocks here.scope (opers_of opers))) (un_of last.1))))
opers_split here next spoken [] last =
    let n : next ≡ next + 0 = omega arith in
    ap (λ k. e.said (e.as_receiver here spoken) (e.message_with (e.name_sent here last.0) (e.one (e.un_node here k (un_of last.1))))) n
opers_split here next spoken (oper ∷ opers) last =
    let behind = next + length (b.un_blocks here.scope (un_of oper.1)) in
    let said_oper = e.said (e.as_receiver here spoken) (e.message_with (e.name_sent here oper.0) (e.one (e.un_node here next (un_of oper.1)))) in
    let n : behind + length (b.opers_blocks here.scope (opers_of opers)) ≡ next + length (b.opers_blocks here.scope (opers_of (oper ∷ opers))) =
    omega (length-append (b.un_blocks here.scope (un_of oper.1)) (b.opers_blocks here.scope (opers_of opers)), arith) in
    opers_split here behind said_oper opers last
    ∙ ap (λ k. e.said (e.as_receiver here (e.opers_said here behind said_oper (opers_of opers)))
    (e.message_with (e.name_sent here last.0) (e.one (e.un_node here k (un_of last.1))))) n

opers_number : (here : e.Standing) (opers : List (Named × UnExpr)) (last : Named × UnExpr) →
    length (b.opers_blocks here.scope (opers_of (opers ++ last ∷ [])))
    ≡ length (b.opers_blocks here.scope (opers_of opers)) + length (b.un_blocks here.scope (un_of last.1))
opers_number here [] last = omega (length-append (b.un_blocks here.scope (un_of last.1)) [], arith)
opers_number here (oper ∷ opers) last =
    let x = b.un_blocks here.scope (un_of oper.1) in
    omega (
      length-append x (b.opers_blocks here.scope (opers_of (opers ++ last ∷ []))),
      length-append x
          (b.opers_blocks here.scope (opers_of opers)),
      opers_number here opers last,
      arith,
    )

pub bin_first : (here : e.Standing) (next n1 n2 n3 : ℕ) (un : p.UnExpr) (opers front : List (Named × UnExpr)) (last : Named × UnExpr) (first receiver : Receiver) (w0 w1 w2 w3 w4 : Written) →
    opers ≡ front ++ last ∷ [] → first ≡ kept (e.as_receiver here (e.un_said here next un)) → w1 ≡ with_receiver
    (e.as_receiver here (e.un_said here next un)) w0 →
    n1 ≡ next + length (b.un_blocks here.scope un) → w2 ≡ with_opers here n1 first (opers_of front) w1 → receiver ≡ opers_left first (opers_of front) →
    n2 ≡ n1 + length (b.opers_blocks here.scope (opers_of front)) → w3 ≡ with_copy receiver w2 →
    w4 ≡ with_message here.scope receiver (e.name_sent here last.0) (e.one (e.un_node here n2 (un_of last.1))) w3 → n3 ≡ n2 + length
    (b.un_blocks here.scope (un_of last.1)) →
    let spoken = e.bin_said here next (p.bin_with un (opers_of opers)) in
    IsFirst here spoken receiver w0 w4 × (n3 ≡ next + length (b.bin_blocks here.scope (p.bin_with un (opers_of opers))))
bin_first here next n1 n2 n3 un opers front last first receiver w0 w1 w2 w3 w4 split is one e1 two behind e2 three four e3 =
    let start = e.un_said here next un in
    let n = next + length (b.un_blocks here.scope un) in
    let whole = e.as_receiver here (e.opers_said here n start (opers_of front)) in
    let k = n + length (b.opers_blocks here.scope (opers_of front)) in
    let message = e.message_with (e.name_sent here last.0) (e.one (e.un_node here k (un_of last.1))) in
    let spoken : e.opers_said here n start (opers_of opers) ≡ e.said whole message =
    ap (λ x. e.opers_said here n start (opers_of x)) split ∙ opers_split here n start front last in
    let keeps : receiver ≡ kept whole = behind ∙ ap (λ r. opers_left r (opers_of front)) is ∙ opers_kept here n start (opers_of front) in
    let has : w2 ≡ with_receiver whole w0 =
    two ∙ ap (λ x. with_opers here x first (opers_of front) w1) e1 ∙ ap (λ r. with_opers here n r (opers_of front) w1) is
    ∙ ap (with_opers here n (kept (e.as_receiver here start)) (opers_of front)) one ∙ opers_are here n start (opers_of front) w0 in
    let at : n2 ≡ k = e2 ∙ ap (λ x. x + length (b.opers_blocks here.scope (opers_of front))) e1 in
    let sent : w4 ≡ with_message here.scope receiver message.sent message.arguments w3 =
    four ∙ ap (λ x. with_message here.scope receiver (e.name_sent here last.0) (e.one (e.un_node here x (un_of last.1))) w3) at in
    let number : length (b.opers_blocks here.scope (opers_of opers)) ≡ length (b.opers_blocks here.scope (opers_of front)) + length (b.un_blocks here.scope (un_of last.1)) =
    ap (λ x. length (b.opers_blocks here.scope (opers_of x))) split ∙ opers_number here front last in (
      (
        first_put here whole message (e.opers_said here n start (opers_of opers)) receiver w0 w2 w3 w4 spoken keeps has three sent,
        keeps ∙ ap said_kept (sym spoken),
        ap is_said spoken,
      ),
      omega (e1, e2, e3, number, length-append (b.un_blocks here.scope un) (b.opers_blocks here.scope (opers_of opers)), arith),
    )

-- ---- keyword messages

pub keys_first : (here : e.Standing) (next n1 n2 : ℕ) (bin : p.BinExpr) (keys : List (Named × BinExpr)) (receiver : Receiver) (w0 w1 w2 w3 : Written) →
    0 < length keys → receiver ≡ kept (e.as_receiver here (e.bin_said here next bin)) →
    w1 ≡ with_receiver (e.as_receiver here (e.bin_said here next bin)) w0 →
    n1 ≡ next + length (b.bin_blocks here.scope bin) → w2 ≡ with_copy receiver w1 →
    w3 ≡ with_message here.scope receiver (e.keys_sent here (keys_of keys)) (e.keys_nodes here n1 (keys_of keys)) w2 →
    n2 ≡ n1 + length (b.keys_blocks here.scope (keys_of keys)) →
    IsFirst here (e.key_expr_said here next (p.sent bin (keys_of keys))) receiver w0 w3
    × (n2 ≡ next + length (b.key_expr_blocks here.scope (p.sent bin (keys_of keys))))
keys_first here next n1 n2 bin [] receiver w0 w1 w2 w3 some is one e1 two three e2 = absurd (omega (some, arith))
keys_first here next n1 n2 bin (key ∷ keys) receiver w0 w1 w2 w3 some is one e1 two three e2 =
    let all = keys_of (key ∷ keys) in
    let whole = e.as_receiver here (e.bin_said here next bin) in
    let message = e.message_with (e.keys_sent here all) (e.keys_nodes here (next + length (b.bin_blocks here.scope bin)) all) in
    let sent : w3 ≡ with_message here.scope receiver message.sent message.arguments w2 =
    three ∙ ap (λ n. with_message here.scope receiver (e.keys_sent here all) (e.keys_nodes here n all) w2) e1 in (
      (first_put here whole message (e.said whole message) receiver w0 w1 w2 w3 refl is one two sent, is, refl),
      omega (e1, e2, length-append (b.bin_blocks here.scope bin) (b.keys_blocks here.scope all), arith),
    )

-- ---- the messages behind

pub left_counted : (messages : List (ℕ × Message)) → left_of (cascade_of messages) ≡ length messages
left_counted [] = refl
left_counted (message ∷ messages) = ap suc (left_counted messages) ∙ omega arith

pub rest_step : (here : e.Standing) (next next' k count : ℕ) (receiver : Receiver) (messages : List (ℕ × Message)) (message : ℕ × Message) (w0 w1 w2 w3 whole : Written) →
    k < length messages → message ≡ get_or messages k message → count ≡ length (drop (k + 1) messages) →
    with_rest here next receiver (cascade_of (drop k messages)) w0 ≡ whole → w1 ≡ with_pop w0 → w2 ≡ with_copies count receiver w1 →
    w3 ≡ with_message here.scope receiver (e.message_said here next (message_of message.1)).sent
    (e.message_said here next (message_of message.1)).arguments w2 →
    next' ≡ next + length (b.message_blocks here.scope (message_of message.1)) →
    with_rest here next' receiver (cascade_of (drop (k + 1) messages)) w3 ≡ whole
rest_step here next next' k count receiver messages message w0 w1 w2 w3 whole within is many before one two three number =
    let parts : drop k messages ≡ message ∷ drop (k + 1) messages = drop_more messages k message within ∙ ap (λ x. x ∷ drop (k + 1) messages) (sym is) in
    let rest = cascade_of (drop (k + 1) messages) in
    let spoken = e.message_said here next (message_of message.1) in
    let behind = next + length (b.message_blocks here.scope (message_of message.1)) in
    ap (λ n. with_rest here n receiver rest w3) number
    ∙ ap (with_rest here behind receiver rest)
    (three ∙ ap (with_message here.scope receiver spoken.sent spoken.arguments)
    (two ∙ ap (with_copies count receiver) one ∙ ap (λ n. with_copies n receiver (with_pop w0)) (many ∙ sym (left_counted (drop (k + 1) messages)))))
    ∙ ap (λ all. with_rest here next receiver (cascade_of all) w0) (sym parts)
    ∙ before

pub rest_number : (here : e.Standing) (next next' k last : ℕ) (messages : List (ℕ × Message)) (message : ℕ × Message) →
    k < length messages →
    message ≡ get_or messages k message → next + length (b.cascade_blocks here.scope (cascade_of (drop k messages))) ≡ last →
    next' ≡ next + length (b.message_blocks here.scope (message_of message.1)) →
    next' + length (b.cascade_blocks here.scope (cascade_of (drop (k + 1) messages))) ≡ last
rest_number here next next' k last messages message within is before number =
    let parts : drop k messages ≡ message ∷ drop (k + 1) messages = drop_more messages k message within ∙ ap (λ x. x ∷ drop (k + 1) messages) (sym is) in
    let e : next + length (b.cascade_blocks here.scope (cascade_of (message ∷ drop (k + 1) messages))) ≡ last =
    ap (λ all. next + length (b.cascade_blocks here.scope (cascade_of all))) (sym parts) ∙ before in
    omega (
      e,
      number,
      length-append (b.message_blocks here.scope (message_of message.1))
          (b.cascade_blocks here.scope (cascade_of (drop (k + 1) messages))),
      arith,
    )
