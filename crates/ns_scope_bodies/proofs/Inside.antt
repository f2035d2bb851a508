-- What stands in a block, in an expression with less around it, and in a class.
use Rattle.std.specs.Prelude.{◌≡◌, [], ◌∷◌, ◌++◌, List, option_map}
use Rattle.std.proofs.Common.{◌∙◌, refl, append-nil}
use Rattle.ns_tree.specs.declared.tree.Block.{Block, out-Block}
use Rattle.ns_tree.specs.declared.tree.Class.{Class, out-Class}
use Rattle.ns_tree.specs.Plain as p
use Rattle.ns_tree.specs.PlainOf.{block_of, bars_of, class_of, side_of, clause_of}
use Rattle.ns_tree.specs.laws.Nodes.{block_out, class_out}
use Rattle.ns_scope.specs.declared.scope.ClassScope.{ClassScope}
use Rattle.ns_scope.specs.declared.scope.Scope.{Scope}
use Rattle.ns_scope.specs.Scopes.{block_scope, class_scope}
use Rattle.ns_scope.specs.Bodies.{block_blocks, inside_blocks, expr_blocks, keys_blocks, bin_blocks, un_blocks, class_bodies, class_inside, clause_bodies, own_bodies, nested_bodies}

pub block_and_inside : (scope : Scope) (e : Block) → block_blocks scope (block_of e) ≡ block_scope scope (out-Block e).params.items (bars_of (out-Block e).slots) ∷ inside_blocks (block_scope scope (out-Block e).params.items (bars_of (out-Block e).slots)) (block_of e)
block_and_inside scope e = rw (block_out e) refl

pub operand_blocks : (scope : Scope) (un : p.UnExpr) →
    expr_blocks scope (p.expr_with [] (p.sent (p.bin_with un p.no_opers) p.no_keys) p.no_messages) ≡ un_blocks scope un
operand_blocks scope un =
    let blocks = un_blocks scope un in
    append-nil ((blocks ++ []) ++ []) ∙ append-nil (blocks ++ []) ∙ append-nil blocks

pub operation_blocks : (scope : Scope) (bin : p.BinExpr) →
    expr_blocks scope (p.expr_with [] (p.sent bin p.no_keys) p.no_messages) ≡ bin_blocks scope bin
operation_blocks scope bin = append-nil (bin_blocks scope bin ++ []) ∙ append-nil (bin_blocks scope bin)

pub implicit_blocks : (scope : Scope) (keys : p.Keys) →
    expr_blocks scope (p.expr_with [] (p.implicit keys) p.no_messages) ≡ keys_blocks scope keys
implicit_blocks scope keys = append-nil (keys_blocks scope keys)

pub class_and_inside : (outer : List ClassScope) (e : Class) → class_bodies outer (class_of e) ≡ clause_bodies outer (option_map clause_of (out-Class e).clause) ++ class_inside (class_scope (class_of e) ∷ outer) (class_of e)
class_and_inside outer e = rw (class_out e) refl

pub own_and_nested : (classes : List ClassScope) (e : Class) → class_inside classes (class_of e) ≡ own_bodies classes (class_of e) ++ nested_bodies classes (side_of (out-Class e).side)
own_and_nested classes e = rw (class_out e) refl
