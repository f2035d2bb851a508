-- A block, and then those in it; and the blocks in an expression with less around it.
use Rattle.std.proofs.Common.{◌≡◌, ◌∙◌, ℕ, ◌+◌, List, [], ◌∷◌, ◌++◌, length, ap, append-nil, arith}
use Rattle.ns_tree.specs.declared.tree.Named.{Named}
use Rattle.ns_tree.specs.Plain as p
use Rattle.ns_scope.specs.declared.scope.Scope.{Scope}
use Rattle.ns_scope.specs.Scopes.{block_scope}
use Rattle.ns_scope.specs.Bodies as b
use Rattle.ns_resolved.specs.Expressions as e
use Rattle.ns_resolved.specs.Statements.{block_bodies, statements_bodies, expr_bodies, keys_bodies, bin_bodies, un_bodies}
use Rattle.ns_gen_bodies.specs.Heading.{block_in}
use Rattle.ns_gen_bodies.specs.Coding.{Coded, with_one, with_bodies}
use Rattle.ns_gen.specs.Inner.{inside_bodies}

-- where the expressions of a block of this number stand that see this
abbrev pub standing_in : e.Standing → ℕ → Scope → e.Standing
standing_in here number scope = record here { scope = scope; body = number }

pub block_put : (here : e.Standing) (next next' : ℕ) (params : List Named) (bars : p.Bars) (body : p.Statements) (scope : Scope) (s0 s1 s2 : Coded) →
    scope ≡ block_scope here.scope params bars →
    s1 ≡ with_one (block_in (standing_in here next scope) here.body (p.block_with params bars body)) s0 → next' ≡ next + 1 →
    s2 ≡ with_bodies (inside_bodies (standing_in here next scope) next' (p.block_with params bars body)) s1 →
    s2 ≡ with_bodies (block_bodies here next (p.block_with params bars body)) s0
block_put here next next' params bars body scope s0 s1 s2 seen one number two =
    let block = p.block_with params bars body in
    two
    ∙ ap (λ n. with_bodies (inside_bodies (standing_in here next scope) n block) s1) number
    ∙ ap (with_bodies (inside_bodies (standing_in here next scope) (next + 1) block)) one
    ∙ ap (λ s. with_bodies (inside_bodies (standing_in here next s) (next + 1) block) (with_one (block_in (standing_in here next s) here.body block) s0)) seen

pub block_number : (here : e.Standing) (next next' last : ℕ) (params : List Named) (bars : p.Bars) (body : p.Statements) (scope : Scope) →
    scope ≡ block_scope here.scope params bars → next' ≡ next + 1 →
    last ≡ next' + length (b.inside_blocks scope (p.block_with params bars body)) →
    last ≡ next + length (b.block_blocks here.scope (p.block_with params bars body))
block_number here next next' last params bars body scope seen one two =
    let block = p.block_with params bars body in
    let there = block_scope here.scope params bars in
    let behind : last ≡ next' + length (b.inside_blocks there block) = two ∙ ap (λ s. next' + length (b.inside_blocks s block)) seen in
    let whole : last ≡ next + length (there ∷ b.inside_blocks there block) = omega (one, behind, arith) in
    whole

-- ---- without parameters and locals

pub bare_put : (here : e.Standing) (next next' : ℕ) (body : p.Statements) (scope : Scope) (s0 s1 s2 : Coded) →
    scope ≡ block_scope here.scope [] p.no_bars →
    s1 ≡ with_one (block_in (standing_in here next scope) here.body (p.block_with [] p.no_bars body)) s0 → next' ≡ next + 1 →
    s2 ≡ with_bodies (statements_bodies (standing_in here next scope) next' body) s1 →
    s2 ≡ with_bodies (block_bodies here next (p.block_with [] p.no_bars body)) s0
bare_put here next next' body scope s0 s1 s2 seen one number two =
    let same : next' ≡ next' + 0 = omega arith in
    block_put here next next' [] p.no_bars body scope s0 s1 s2 seen one number
    (two ∙ ap (λ n. with_bodies (statements_bodies (standing_in here next scope) n body) s1) same)

pub bare_number : (here : e.Standing) (next next' last : ℕ) (body : p.Statements) (scope : Scope) →
    scope ≡ block_scope here.scope [] p.no_bars → next' ≡ next + 1 →
    last ≡ next' + length (b.statements_blocks scope body) →
    last ≡ next + length (b.block_blocks here.scope (p.block_with [] p.no_bars body))
bare_number here next next' last body scope seen one two = block_number here next next' last [] p.no_bars body scope seen one two

-- ---- with nothing around

pub operand_blocks : (scope : Scope) (un : p.UnExpr) →
    b.expr_blocks scope (p.expr_with [] (p.sent (p.bin_with un p.no_opers) p.no_keys) p.no_messages) ≡ b.un_blocks scope un
operand_blocks scope un =
    let blocks = b.un_blocks scope un in
    append-nil ((blocks ++ []) ++ []) ∙ append-nil (blocks ++ []) ∙ append-nil blocks

pub operand_bodies : (here : e.Standing) (next : ℕ) (un : p.UnExpr) →
    expr_bodies here next (p.expr_with [] (p.sent (p.bin_with un p.no_opers) p.no_keys) p.no_messages) ≡ un_bodies here next un
operand_bodies here next un =
    let bodies = un_bodies here next un in
    append-nil ((bodies ++ []) ++ []) ∙ append-nil (bodies ++ []) ∙ append-nil bodies

pub operation_blocks : (scope : Scope) (bin : p.BinExpr) →
    b.expr_blocks scope (p.expr_with [] (p.sent bin p.no_keys) p.no_messages) ≡ b.bin_blocks scope bin
operation_blocks scope bin = append-nil (b.bin_blocks scope bin ++ []) ∙ append-nil (b.bin_blocks scope bin)

pub operation_bodies : (here : e.Standing) (next : ℕ) (bin : p.BinExpr) →
    expr_bodies here next (p.expr_with [] (p.sent bin p.no_keys) p.no_messages) ≡ bin_bodies here next bin
operation_bodies here next bin = append-nil (bin_bodies here next bin ++ []) ∙ append-nil (bin_bodies here next bin)

pub implicit_blocks : (scope : Scope) (keys : p.Keys) →
    b.expr_blocks scope (p.expr_with [] (p.implicit keys) p.no_messages) ≡ b.keys_blocks scope keys
implicit_blocks scope keys = append-nil (b.keys_blocks scope keys)

pub implicit_bodies : (here : e.Standing) (next : ℕ) (keys : p.Keys) →
    expr_bodies here next (p.expr_with [] (p.implicit keys) p.no_messages) ≡ keys_bodies here next keys
implicit_bodies here next keys = append-nil (keys_bodies here next keys)
