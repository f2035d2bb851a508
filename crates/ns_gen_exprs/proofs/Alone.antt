-- An expression without a further part is what stands before that part.
use Rattle.std.proofs.Common.{◌≡◌, ◌<◌, ℕ, List, [], ◌∷◌, ◌++◌, length, refl, ap, ◌∙◌, append-nil, length-append, arith}
use Rattle.std.specs.Prelude.{Some}
use Rattle.ns_tree.specs.declared.tree.BinExpr.{BinExpr}
use Rattle.ns_tree.specs.declared.tree.FullExpr.{FullExpr, out-FullExpr}
use Rattle.ns_tree.specs.declared.tree.KeyExpr.{KeyExpr, out-KeyExpr}
use Rattle.ns_tree.specs.PlainOf.{un_of, bin_of, opers_of, keys_of, key_expr_of, cascade_of, full_expr_of}
use Rattle.ns_tree.specs.Plain as p
use Rattle.ns_tree.specs.laws.Nodes.{key_expr_some, full_expr_out}
use Rattle.ns_scope.specs.declared.scope.Scope.{Scope}
use Rattle.ns_scope.specs.Bodies as b
use Rattle.ns_resolved.specs.Expressions as e
use Rattle.ns_gen_exprs.specs.Cascading.{unset_node}

none_left : {A : Type 0} (items : List A) → length items < 1 → items ≡ []
none_left [] h = refl
none_left (item ∷ items) h = absurd (omega (h, arith))

-- ---- without binary messages

un_alone : (bin : BinExpr) → length bin.more.items < 1 → bin_of bin ≡ p.bin_with (un_of bin.first) p.no_opers
un_alone bin h = ap (λ l. p.bin_with (un_of bin.first) (opers_of l)) (none_left bin.more.items h)

pub un_alone_said : (here : e.Standing) (next : ℕ) (bin : BinExpr) → length bin.more.items < 1 →
    e.bin_said here next (bin_of bin) ≡ e.un_said here next (un_of bin.first)
un_alone_said here next bin h = ap (e.bin_said here next) (un_alone bin h)

pub un_alone_counted : (scope : Scope) (bin : BinExpr) → length bin.more.items < 1 →
    length (b.bin_blocks scope (bin_of bin)) ≡ length (b.un_blocks scope (un_of bin.first))
un_alone_counted scope bin h =
    ap (λ x. length (b.bin_blocks scope x)) (un_alone bin h) ∙ omega (length-append (b.un_blocks scope (un_of bin.first)) [], arith)

-- ---- without keys

bin_alone : (expr : KeyExpr) (bin : BinExpr) → (out-KeyExpr expr).receiver ≡ Some bin → length (out-KeyExpr expr).keys.items < 1 →
    key_expr_of expr ≡ p.sent (bin_of bin) p.no_keys
bin_alone expr bin is h = key_expr_some expr bin is ∙ ap (λ l. p.sent (bin_of bin) (keys_of l)) (none_left (out-KeyExpr expr).keys.items h)

pub bin_alone_said : (here : e.Standing) (next : ℕ) (expr : KeyExpr) (bin : BinExpr) → (out-KeyExpr expr).receiver ≡ Some bin →
    length (out-KeyExpr expr).keys.items < 1 → e.key_expr_said here next (key_expr_of expr) ≡ e.bin_said here next (bin_of bin)
bin_alone_said here next expr bin is h = ap (e.key_expr_said here next) (bin_alone expr bin is h)

pub bin_alone_counted : (scope : Scope) (expr : KeyExpr) (bin : BinExpr) → (out-KeyExpr expr).receiver ≡ Some bin →
    length (out-KeyExpr expr).keys.items < 1 → length (b.key_expr_blocks scope (key_expr_of expr)) ≡ length (b.bin_blocks scope (bin_of bin))
bin_alone_counted scope expr bin is h =
    ap (λ x. length (b.key_expr_blocks scope x)) (bin_alone expr bin is h) ∙ omega (length-append (b.bin_blocks scope (bin_of bin)) [], arith)

-- ---- without a cascade

key_alone : (expr : FullExpr) → length (out-FullExpr expr).more.items < 1 →
    full_expr_of expr ≡ p.expr_with (out-FullExpr expr).sets.items (key_expr_of (out-FullExpr expr).first) p.no_messages
key_alone expr h =
    full_expr_out expr ∙ ap (λ l. p.expr_with (out-FullExpr expr).sets.items (key_expr_of (out-FullExpr expr).first) (cascade_of l)) (none_left (out-FullExpr expr).more.items h)

pub key_alone_node : (here : e.Standing) (next : ℕ) (expr : FullExpr) → length (out-FullExpr expr).more.items < 1 →
    unset_node here next (full_expr_of expr) ≡ e.as_value here (e.key_expr_said here next (key_expr_of (out-FullExpr expr).first))
key_alone_node here next expr h = ap (unset_node here next) (key_alone expr h)

pub key_alone_counted : (scope : Scope) (expr : FullExpr) → length (out-FullExpr expr).more.items < 1 →
    length (b.expr_blocks scope (full_expr_of expr)) ≡ length (b.key_expr_blocks scope (key_expr_of (out-FullExpr expr).first))
key_alone_counted scope expr h =
    ap (λ x. length (b.expr_blocks scope x)) (key_alone expr h)
    ∙ omega (length-append (b.key_expr_blocks scope (key_expr_of (out-FullExpr expr).first)) [], arith)

-- ---- with nothing around

pub operand_node : (here : e.Standing) (next : ℕ) (un : p.UnExpr) →
    e.expr_node here next (p.expr_with [] (p.sent (p.bin_with un p.no_opers) p.no_keys) p.no_messages) ≡ e.un_node here next un
operand_node here next (p.un_with at primary names) = refl

pub operand_counted : (scope : Scope) (un : p.UnExpr) →
    length (b.expr_blocks scope (p.expr_with [] (p.sent (p.bin_with un p.no_opers) p.no_keys) p.no_messages)) ≡ length (b.un_blocks scope un)
operand_counted scope un =
    let blocks = b.un_blocks scope un in
    ap length (append-nil ((blocks ++ []) ++ []) ∙ append-nil (blocks ++ []) ∙ append-nil blocks)

pub operation_counted : (scope : Scope) (bin : p.BinExpr) →
    length (b.expr_blocks scope (p.expr_with [] (p.sent bin p.no_keys) p.no_messages)) ≡ length (b.bin_blocks scope bin)
operation_counted scope bin =
    let blocks = b.bin_blocks scope bin in
    ap length (append-nil (blocks ++ []) ∙ append-nil blocks)

pub implicit_counted : (scope : Scope) (keys : p.Keys) →
    length (b.expr_blocks scope (p.expr_with [] (p.implicit keys) p.no_messages)) ≡ length (b.keys_blocks scope keys)
implicit_counted scope keys = ap length (append-nil (b.keys_blocks scope keys))
