-- Worked examples of what expressions and programs mean.
use Rattle.std.specs.Prelude.{◌≡◌, ℕ, List, [], ◌∷◌, Option, Some, None, codes, false, ◌+◌, pos}
use Rattle.std.proofs.Common.{refl}
use Rattle.ns_base.specs.declared.place.Place.{Place}
use Rattle.ns_tree.specs.declared.tree.Named.{Named}
use Rattle.ns_tree.specs.declared.tree.Access.{Access}
use Rattle.ns_tree.specs.declared.tree.Access.TheVariants as a
use Rattle.ns_tree.specs.declared.tree.Origin.TheVariants as o
use Rattle.ns_tree.specs.Plain as p
use Rattle.ns_scope.specs.declared.scope.CodeSide.TheVariants as side
use Rattle.ns_scope.specs.declared.scope.Scope.{Scope}
use Rattle.ns_scope.specs.Scopes.{class_scope, method_scope, block_scope}
use Rattle.ns_resolved.specs.Program as m
use Rattle.ns_resolved.specs.Expressions.{Standing, expr_node}
use Rattle.ns_resolved.specs.Classes.{meant_of}
use Rattle.ns_resolved.specs.Worked.{at_column, expected, sent}

-- ---- words for small trees

abbrev named : List ℕ → ℕ → Named
named text at = record { text = text; at = at }

-- an expression of one primary, or with unary messages to it
abbrev alone : ℕ → p.Primary → p.Expr
alone at primary = p.expr_with [] (p.sent (p.bin_with (p.un_with at primary []) p.no_opers) p.no_keys) p.no_messages

abbrev said : ℕ → p.Primary → List Named → p.Cascade → p.Expr
said at primary names more = p.expr_with [] (p.sent (p.bin_with (p.un_with at primary names) p.no_opers) p.no_keys) more

abbrev no_body : p.Statements
no_body = p.statements_with p.no_statements false

-- a method without parameters that returns an expression
abbrev method : Option Access → List ℕ → ℕ → p.Expr → p.Member
method access name at expr =
    p.member_with [] access (p.method_member (p.method_with (p.pattern_with (named name at ∷ []) []) p.no_bars
    (p.statements_with (p.more_statements (p.statement_with (Some (at + 3)) expr) p.no_statements) false)))

abbrev marks : List Place
marks =
    at_column 0 ∷ at_column 1 ∷ at_column 2 ∷ at_column 3 ∷ at_column 4 ∷ at_column 5 ∷ at_column 6 ∷ at_column 7 ∷ at_column 8
    ∷ at_column 9 ∷ at_column 10 ∷ at_column 11 ∷ at_column 12 ∷ at_column 13 ∷ at_column 14 ∷ at_column 15 ∷ []

-- ---- a class in a class
-- class W of: x = () (who = (^'outer') class In = Base (private own = (^[who])))

abbrev inner_members : p.Members
inner_members =
    p.more_members
    (method (Some a.Private) (codes "own") 11 (alone 13 (p.block_literal (p.block_with [] p.no_bars
    (p.statements_with (p.more_statements (p.statement_with None (alone 14 (p.name (codes "who")))) p.no_statements) false)))))
    p.no_members

abbrev inner : p.Class
inner =
    p.class_with (named (codes "In") 8) None (Some (p.clause_with (record { origin = o.Here; name = named (codes "Base") 10 }) None None))
    p.no_bars no_body (p.side_with inner_members []) p.no_class_side

abbrev outer : p.Class
outer =
    p.class_with (named (codes "W") 1) (Some (p.pattern_with (named (codes "of:") 2 ∷ []) (named (codes "x") 3 ∷ []))) None p.no_bars no_body
    (p.side_with
    (p.more_members (method None (codes "who") 4 (alone 7 (p.string (codes "outer"))))
    (p.more_members (p.member_with [] None (p.class_member inner)) p.no_members)) [])
    p.no_class_side

-- ---- expressions of that class

abbrev in_own : Scope
in_own = method_scope (class_scope inner ∷ class_scope outer ∷ []) side.Instance [] p.no_bars

abbrev standing_in : Scope → Standing
standing_in scope = record { scope = scope; body = 4; class = 1; marks = marks }

sent_out : expr_node (standing_in in_own) 5 (alone 7 (p.name (codes "who"))) ≡ m.send_to (m.enclosing 1) (sent (codes "who") 7) m.no_nodes
sent_out = refl

self_reaches_private : expr_node (standing_in in_own) 5 (said 5 p.self_word (named (codes "own") 6 ∷ []) p.no_messages)
    ≡ m.send_to (m.private_of 0) (sent (codes "own") 6) m.no_nodes
self_reaches_private = refl

-- a self in parentheses is a value like others
self_as_value : expr_node (standing_in in_own) 5 (said 5 (p.paren (alone 6 p.self_word)) (named (codes "own") 8 ∷ []) p.no_messages)
    ≡ m.send m.self_value (sent (codes "own") 8) m.no_nodes
self_as_value = refl

outer_send : expr_node (standing_in in_own) 5 (said 5 (p.outer_name (named (codes "W") 6)) (named (codes "foo") 7 ∷ []) p.no_messages)
    ≡ m.send_to (m.enclosing 1) (sent (codes "foo") 7) m.no_nodes
outer_send = refl

-- a block with the parameter `who`, in a method with the parameters `x` and `y`
abbrev in_block : Scope
in_block =
    block_scope (method_scope (class_scope outer ∷ []) side.Instance (named (codes "x") 0 ∷ named (codes "y") 0 ∷ []) p.no_bars)
    (named (codes "who") 0 ∷ []) p.no_bars

-- `x m n; o` sends `n` and `o` to the value of `x m`
two_to_one_value : expr_node (standing_in in_block) 5
    (said 5 (p.name (codes "x")) (named (codes "m") 6 ∷ named (codes "n") 7 ∷ []) (p.more_messages 8 (p.unary (named (codes "o") 9)) p.no_messages))
    ≡ m.cascade (m.send (m.local 1 0) (sent (codes "m") 6) m.no_nodes)
    (m.more_messages (sent (codes "n") 7) m.no_nodes (m.last_message (sent (codes "o") 9) m.no_nodes))
two_to_one_value = refl

-- `self n; o` sends `n` to self, and then `o`
two_to_self : expr_node (standing_in in_block) 5
    (said 5 p.self_word (named (codes "n") 7 ∷ []) (p.more_messages 8 (p.unary (named (codes "o") 9)) p.no_messages))
    ≡ m.in_turn (m.send_to m.own (sent (codes "n") 7) m.no_nodes) (m.send_to m.own (sent (codes "o") 9) m.no_nodes)
two_to_self = refl

-- `a:: y:: 1` sets the local `y`, and then sends `a:`
sets_in_turn : expr_node (standing_in in_block) 5
    (p.expr_with (named (codes "a") 0 ∷ named (codes "y") 1 ∷ []) (p.sent (p.bin_with (p.un_with 2 (p.number false 1) []) p.no_opers) p.no_keys) p.no_messages)
    ≡ m.set_by_send m.own (sent (codes "a:") 0) (m.set_local 1 1 (m.integer (pos 1)))
sets_in_turn = refl

-- the blocks of a tuple have the numbers from the next on
abbrev empty_block : ℕ → p.Expr
empty_block at = alone at (p.block_literal (p.block_with [] p.no_bars no_body))

blocks_in_turn : expr_node (standing_in in_block) 7 (alone 0 (p.tuple (p.more_exprs (empty_block 1) (p.more_exprs (empty_block 4) p.no_exprs)) false))
    ≡ m.array (m.more_nodes (m.block 7) (m.more_nodes (m.block 8) m.no_nodes))
blocks_in_turn = refl

-- ---- the whole

program_is_meant : meant_of (codes "W.ns" ∷ []) (p.unit_with false None outer ∷ []) (marks ∷ []) ≡ expected
program_is_meant = refl
