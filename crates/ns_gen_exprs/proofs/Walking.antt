-- What the walks over expressions write, step by step, is the whole.
use Rattle.std.proofs.Common.{◌≡◌, ◌<◌, ◌≤◌, ℕ, ◌+◌, List, [], ◌∷◌, length, drop, get_or, refl, ap, sym, ◌∙◌, length-append, arith}
use Rattle.std.proofs.lemmas.List.{drop_all, drop_more}
use Rattle.ns_base.specs.declared.place.Place.{Place}
use Rattle.ns_tree.specs.declared.tree.Named.{Named}
use Rattle.ns_tree.specs.declared.tree.Expr.{Expr}
use Rattle.ns_tree.specs.declared.tree.BinExpr.{BinExpr}
use Rattle.ns_tree.specs.PlainOf.{expr_of, exprs_of, bin_of, keys_of}
use Rattle.ns_tree.specs.Plain as p
use Rattle.ns_tree.specs.Parts.{first_key}
use Rattle.ns_scope.specs.Resolve.{resolve}
use Rattle.ns_scope.specs.Bodies as b
use Rattle.ns_resolved.specs.Program as m
use Rattle.ns_resolved.specs.Expressions as e
use Rattle.ns_gen_code.specs.Code as code
use Rattle.ns_gen_draft.specs.Drafts.{Written, with_line, with_name, way_of}
use Rattle.ns_gen_draft.specs.Keys.{keys_count}
use Rattle.ns_gen_draft.specs.declared.draft.SendWay.{SendWay}
use Rattle.ns_gen_exprs.specs.Sending.{meant_reach, with_lines, with_node, with_nodes, begin_lines, begin_way, kept, with_receiver, with_message, with_value}
use Rattle.ns_gen_exprs.specs.Sending.{with_opers, opers_left, with_keywords, keys_left}
use Rattle.ns_gen_exprs.specs.Setting.{with_sets}
use Rattle.ns_gen_exprs.specs.declared.reach.Reach.{Reach}
use Rattle.ns_gen_exprs.specs.declared.receiver.Receiver.{Receiver}
use Rattle.ns_gen_exprs.specs.declared.receiver.Receiver.TheVariants as v
use Rattle.ns_gen_exprs.specs.laws.Composing.{with_none, with_more, unary_put, binary_put, value_is}
use Rattle.ns_gen_exprs.proofs.Saying.{opers_are, opers_kept, keywords_are, keywords_kept, keywords_put, implicit_put}
use Rattle.ns_gen_exprs.proofs.Setting.{sets_are}

-- ---- an operand as a value

pub un_is : (here : e.Standing) (next : ℕ) (un : p.UnExpr) → e.as_value here (e.un_said here next un) ≡ e.un_node here next un
un_is here next (p.un_with at primary names) = refl

-- ---- unary messages

pub name_put : (here : e.Standing) (receiver : Receiver) (name : Named) (place : Place) (way : SendWay) (w0 w1 : Written) →
    place ≡ e.place_at here.marks name.at → way_of way ≡ begin_way here.scope receiver name.text →
    w1 ≡ with_lines (begin_lines here.scope receiver name.text []) w0 →
    with_line (with_name w1 name.text) (code.sends (way_of way) (record { selector = name.text; place = place }) 0)
    ≡ with_message here.scope receiver (e.name_sent here name) m.no_nodes w0
name_put here receiver name place way w0 w1 at finds one =
    ap (λ (x : Place). with_line (with_name w1 name.text) (code.sends (way_of way) (record { selector = name.text; place = x }) 0)) at
    ∙ ap (λ w. with_line (with_name w name.text) (code.sends (way_of way) (e.name_sent here name) 0)) one
    ∙ unary_put here.scope receiver (e.name_sent here name) (way_of way) w0 finds

-- ---- binary messages

pub oper_put : (here : e.Standing) (receiver : Receiver) (name : Named) (place : Place) (argument : m.Node) (way : SendWay) (w0 w1 w2 w3 : Written) →
    place ≡ e.place_at here.marks name.at → way_of way ≡ begin_way here.scope receiver name.text →
    w1 ≡ with_lines (begin_lines here.scope receiver name.text []) w0 → w2 ≡ with_node argument w1 →
    w3 ≡ with_line (with_name w2 name.text) (code.sends (way_of way) (record { selector = name.text; place = place }) 1) →
    w3 ≡ with_message here.scope receiver (e.name_sent here name) (e.one argument) w0
oper_put here receiver name place argument way w0 w1 w2 w3 at finds one two three =
    three
    ∙ ap (λ (x : Place). with_line (with_name w2 name.text) (code.sends (way_of way) (record { selector = name.text; place = x }) 1)) at
    ∙ ap (λ w. with_line (with_name w name.text) (code.sends (way_of way) (e.name_sent here name) 1)) (two ∙ ap (with_node argument) one)
    ∙ binary_put here.scope receiver (e.name_sent here name) argument (way_of way) w0 finds

pub bin_put : (here : e.Standing) (next next' : ℕ) (un : p.UnExpr) (opers : p.Opers) (receiver : Receiver) (before middle after : Written) →
    receiver ≡ kept (e.as_receiver here (e.un_said here next un)) → middle ≡ with_receiver (e.as_receiver here (e.un_said here next un)) before →
    next' ≡ next + length (b.un_blocks here.scope un) → after ≡ with_opers here next' receiver opers middle →
    after ≡ with_receiver (e.as_receiver here (e.bin_said here next (p.bin_with un opers))) before
bin_put here next next' un opers receiver before middle after is first number rest =
    let said = e.un_said here next un in
    rest
    ∙ ap (λ n. with_opers here n receiver opers middle) number
    ∙ ap (λ r. with_opers here (next + length (b.un_blocks here.scope un)) r opers middle) is
    ∙ ap (with_opers here (next + length (b.un_blocks here.scope un)) (kept (e.as_receiver here said)) opers) first
    ∙ opers_are here (next + length (b.un_blocks here.scope un)) said opers before

pub bin_kept : (here : e.Standing) (next : ℕ) (un : p.UnExpr) (opers : p.Opers) (receiver behind : Receiver) →
    receiver ≡ kept (e.as_receiver here (e.un_said here next un)) → behind ≡ opers_left receiver opers →
    behind ≡ kept (e.as_receiver here (e.bin_said here next (p.bin_with un opers)))
bin_kept here next un opers receiver behind is rest =
    rest ∙ ap (λ r. opers_left r opers) is ∙ opers_kept here (next + length (b.un_blocks here.scope un)) (e.un_said here next un) opers

-- ---- keyword messages

pub keywords_whole : (here : e.Standing) (next : ℕ) (receiver : Receiver) (keys : p.Keys) (selector : List ℕ) (place : Place) (way : SendWay) (count : ℕ) (w0 w1 w2 w3 : Written) →
    selector ≡ e.joined keys → place ≡ e.place_at here.marks (first_key keys) → count ≡ keys_count keys →
    way_of way ≡ begin_way here.scope receiver selector →
    w1 ≡ with_lines (begin_lines here.scope receiver selector []) w0 → w2 ≡ with_nodes (e.keys_nodes here next keys) w1 →
    w3 ≡ with_line (with_name w2 selector) (code.sends (way_of way) (record { selector = selector; place = place }) count) →
    w3 ≡ with_message here.scope receiver (e.keys_sent here keys) (e.keys_nodes here next keys) w0
keywords_whole here next receiver keys selector place way count w0 w1 w2 w3 text at many finds one two three =
    let nodes = e.keys_nodes here next keys in
    three
    ∙ ap (λ (x : Place). with_line (with_name w2 selector) (code.sends (way_of way) (record { selector = selector; place = x }) count)) at
    ∙ ap (λ (s : List ℕ). with_line (with_name w2 s) (code.sends (way_of way) (e.sent_at here s (first_key keys)) count)) text
    ∙ ap (λ w. with_line (with_name w (e.joined keys)) (code.sends (way_of way) (e.keys_sent here keys) count))
    (two ∙ ap (with_nodes nodes) (one ∙ ap (λ s. with_lines (begin_lines here.scope receiver s []) w0) text))
    ∙ keywords_put here next receiver keys (way_of way) count w0 (finds ∙ ap (begin_way here.scope receiver) text) many

pub implicit_whole : (here : e.Standing) (next : ℕ) (reach : Reach) (keys : p.Keys) (selector : List ℕ) (place : Place) (way : SendWay) (count : ℕ) (w0 w1 w2 w3 : Written) →
    selector ≡ e.joined keys → place ≡ e.place_at here.marks (first_key keys) → count ≡ keys_count keys →
    meant_reach reach ≡ e.reach_of (resolve here.scope selector) → way_of way ≡ code.way_of (meant_reach reach) →
    w1 ≡ with_lines (code.object_lines (meant_reach reach) []) w0 → w2 ≡ with_nodes (e.keys_nodes here next keys) w1 →
    w3 ≡ with_line (with_name w2 selector) (code.sends (way_of way) (record { selector = selector; place = place }) count) →
    w3 ≡ with_node (e.implicit_send here (e.keys_sent here keys) (e.keys_nodes here next keys)) w0
implicit_whole here next reach keys selector place way count w0 w1 w2 w3 text at many reaches finds one two three =
    let nodes = e.keys_nodes here next keys in
    three
    ∙ ap (λ (x : Place). with_line (with_name w2 selector) (code.sends (way_of way) (record { selector = selector; place = x }) count)) at
    ∙ ap (λ (s : List ℕ). with_line (with_name w2 s) (code.sends (way_of way) (e.sent_at here s (first_key keys)) count)) text
    ∙ ap (λ w. with_line (with_name w (e.joined keys)) (code.sends (way_of way) (e.keys_sent here keys) count)) (two ∙ ap (with_nodes nodes) one)
    ∙ implicit_put here next (meant_reach reach) keys (way_of way) count w0 (reaches ∙ ap (λ s. e.reach_of (resolve here.scope s)) text) finds many

pub keyed_put : (here : e.Standing) (next : ℕ) (receiver : Receiver) (keys : List (Named × BinExpr)) (before : Written) → 0 < length keys →
    with_message here.scope receiver (e.keys_sent here (keys_of keys)) (e.keys_nodes here next (keys_of keys)) before
    ≡ with_keywords here next receiver (keys_of keys) before
keyed_put here next receiver [] before h = absurd (omega (h, arith))
keyed_put here next receiver (key ∷ keys) before h = refl

pub keyed_left : (receiver : Receiver) (keys : List (Named × BinExpr)) → 0 < length keys → v.Value ≡ keys_left receiver (keys_of keys)
keyed_left receiver [] h = absurd (omega (h, arith))
keyed_left receiver (key ∷ keys) h = refl

pub received_put : (here : e.Standing) (next next' : ℕ) (bin : p.BinExpr) (keys : p.Keys) (receiver behind : Receiver) (w0 w1 w2 w3 : Written) →
    receiver ≡ kept (e.as_receiver here (e.bin_said here next bin)) → w1 ≡ with_receiver (e.as_receiver here (e.bin_said here next bin)) w0 →
    next' ≡ next + length (b.bin_blocks here.scope bin) → w2 ≡ with_keywords here next' receiver keys w1 → behind ≡ keys_left receiver keys →
    w3 ≡ with_value behind w2 → w3 ≡ with_node (e.as_value here (e.key_expr_said here next (p.sent bin keys))) w0
received_put here next next' bin keys receiver behind w0 w1 w2 w3 is one number two left three =
    let said = e.bin_said here next bin in
    let n = next + length (b.bin_blocks here.scope bin) in
    let whole = e.as_receiver here (e.keys_said here said keys (e.keys_nodes here n keys)) in
    let w2_is : w2 ≡ with_receiver whole w0 =
    two
    ∙ ap (λ k. with_keywords here k receiver keys w1) number
    ∙ ap (λ r. with_keywords here n r keys w1) is
    ∙ ap (with_keywords here n (kept (e.as_receiver here said)) keys) one
    ∙ keywords_are here n said keys w0 in
    let behind_is : behind ≡ kept whole = left ∙ ap (λ r. keys_left r keys) is ∙ keywords_kept here n said keys in
    three ∙ ap (λ r. with_value r w2) behind_is ∙ ap (with_value (kept whole)) w2_is ∙ value_is whole w0

-- ---- lists

pub keys_step : (here : e.Standing) (next next' k : ℕ) (keys : List (Named × BinExpr)) (key : Named × BinExpr) (writer after whole : Written) →
    k < length keys →
    key ≡ get_or keys k key → with_nodes (e.keys_nodes here next (keys_of (drop k keys))) writer ≡ whole →
    after ≡ with_node (e.as_value here (e.bin_said here next (bin_of key.1))) writer → next' ≡ next + length (b.bin_blocks here.scope (bin_of key.1)) →
    with_nodes (e.keys_nodes here next' (keys_of (drop (k + 1) keys))) after ≡ whole
keys_step here next next' k keys key writer after whole within is before one number =
    let node = e.as_value here (e.bin_said here next (bin_of key.1)) in
    let rest = keys_of (drop (k + 1) keys) in
    let parts : drop k keys ≡ key ∷ drop (k + 1) keys = drop_more keys k key within ∙ ap (λ x. x ∷ drop (k + 1) keys) (sym is) in
    ap (λ n. with_nodes (e.keys_nodes here n rest) after) number
    ∙ ap (with_nodes (e.keys_nodes here (next + length (b.bin_blocks here.scope (bin_of key.1))) rest)) one
    ∙ sym (with_more node (e.keys_nodes here (next + length (b.bin_blocks here.scope (bin_of key.1))) rest) writer)
    ∙ ap (λ all. with_nodes (e.keys_nodes here next (keys_of all)) writer) (sym parts)
    ∙ before

-- behind all keys
pub keys_done : (here : e.Standing) (next k : ℕ) (keys : List (Named × BinExpr)) (writer whole : Written) → length keys ≤ k →
    with_nodes (e.keys_nodes here next (keys_of (drop k keys))) writer ≡ whole → writer ≡ whole
keys_done here next k keys writer whole behind before =
    sym (with_none writer) ∙ ap (λ rest. with_nodes (e.keys_nodes here next (keys_of rest)) writer) (sym (drop_all k keys behind)) ∙ before

pub keys_number : (here : e.Standing) (next next' k last : ℕ) (keys : List (Named × BinExpr)) (key : Named × BinExpr) → k < length keys →
    key ≡ get_or keys k key → next + length (b.keys_blocks here.scope (keys_of (drop k keys))) ≡ last →
    next' ≡ next + length (b.bin_blocks here.scope (bin_of key.1)) → next' + length (b.keys_blocks here.scope (keys_of (drop (k + 1) keys))) ≡ last
keys_number here next next' k last keys key within is before number =
    let parts : drop k keys ≡ key ∷ drop (k + 1) keys = drop_more keys k key within ∙ ap (λ x. x ∷ drop (k + 1) keys) (sym is) in
    let e : next + length (b.keys_blocks here.scope (keys_of (key ∷ drop (k + 1) keys))) ≡ last =
    ap (λ all. next + length (b.keys_blocks here.scope (keys_of all))) (sym parts) ∙ before in
    omega (e, number, length-append (b.bin_blocks here.scope (bin_of key.1)) (b.keys_blocks here.scope (keys_of (drop (k + 1) keys))), arith)

pub items_step : (here : e.Standing) (next next' k : ℕ) (items : List Expr) (item : Expr) (writer after whole : Written) →
    k < length items →
    item ≡ get_or items k item → with_nodes (e.items_nodes here next (exprs_of (drop k items))) writer ≡ whole →
    after ≡ with_node (e.expr_node here next (expr_of item)) writer → next' ≡ next + length (b.expr_blocks here.scope (expr_of item)) →
    with_nodes (e.items_nodes here next' (exprs_of (drop (k + 1) items))) after ≡ whole
items_step here next next' k items item writer after whole within is before one number =
    let rest = exprs_of (drop (k + 1) items) in
    let parts : drop k items ≡ item ∷ drop (k + 1) items = drop_more items k item within ∙ ap (λ x. x ∷ drop (k + 1) items) (sym is) in
    ap (λ n. with_nodes (e.items_nodes here n rest) after) number
    ∙ ap (with_nodes (e.items_nodes here (next + length (b.expr_blocks here.scope (expr_of item))) rest)) one
    ∙ sym (with_more (e.expr_node here next (expr_of item)) (e.items_nodes here (next + length (b.expr_blocks here.scope (expr_of item))) rest) writer)
    ∙ ap (λ all. with_nodes (e.items_nodes here next (exprs_of all)) writer) (sym parts)
    ∙ before

-- behind all items
pub items_done : (here : e.Standing) (next k : ℕ) (items : List Expr) (writer whole : Written) → length items ≤ k →
    with_nodes (e.items_nodes here next (exprs_of (drop k items))) writer ≡ whole → writer ≡ whole
items_done here next k items writer whole behind before =
    sym (with_none writer) ∙ ap (λ rest. with_nodes (e.items_nodes here next (exprs_of rest)) writer) (sym (drop_all k items behind)) ∙ before

pub items_number : (here : e.Standing) (next next' k last : ℕ) (items : List Expr) (item : Expr) → k < length items →
    item ≡ get_or items k item → next + length (b.items_blocks here.scope (exprs_of (drop k items))) ≡ last →
    next' ≡ next + length (b.expr_blocks here.scope (expr_of item)) → next' + length (b.items_blocks here.scope (exprs_of (drop (k + 1) items))) ≡ last
items_number here next next' k last items item within is before number =
    let parts : drop k items ≡ item ∷ drop (k + 1) items = drop_more items k item within ∙ ap (λ x. x ∷ drop (k + 1) items) (sym is) in
    let e : next + length (b.items_blocks here.scope (exprs_of (item ∷ drop (k + 1) items))) ≡ last =
    ap (λ all. next + length (b.items_blocks here.scope (exprs_of all))) (sym parts) ∙ before in
    omega (e, number, length-append (b.expr_blocks here.scope (expr_of item)) (b.items_blocks here.scope (exprs_of (drop (k + 1) items))), arith)

-- ---- names that are set behind

pub expr_put : (here : e.Standing) (sets : List Named) (value : m.Node) (before middle after : Written) →
    middle ≡ with_node value before → after ≡ with_sets here sets middle → after ≡ with_node (e.sets_of here sets value) before
expr_put here sets value before middle after one two = two ∙ ap (with_sets here sets) one ∙ sets_are here sets value before
