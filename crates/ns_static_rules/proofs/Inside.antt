-- What is found in a block, and in an expression with less around it.
use Rattle.std.proofs.Common.{◌≡◌, ◌∙◌, refl, [], ◌++◌, append-nil}
use Rattle.ns_tree.specs.declared.tree.Block.{Block, out-Block}
use Rattle.ns_tree.specs.Plain as p
use Rattle.ns_tree.specs.PlainOf.{block_of, bars_of}
use Rattle.ns_tree.specs.laws.Nodes.{block_out}
use Rattle.ns_scope.specs.declared.scope.Scope.{Scope}
use Rattle.ns_scope.specs.Names.{locals_of}
use Rattle.ns_scope.specs.Scopes.{block_scope}
use Rattle.ns_static_rules.specs.Rules.{locals_found}
use Rattle.ns_static_rules.specs.Faults.{block_faults, inside_faults, expr_faults, keywords_found, keys_faults, bin_faults, un_faults}
use Rattle.ns_static_rules.specs.declared.fault.Role.TheVariants as r

pub block_and_inside : (scope : Scope) (e : Block) →
    block_faults scope (block_of e) ≡ locals_found (locals_of (out-Block e).params.items (bars_of (out-Block e).slots))
    ++ inside_faults (block_scope scope (out-Block e).params.items (bars_of (out-Block e).slots)) (block_of e)
block_and_inside scope e = rw (block_out e) refl

-- an operand alone is neither a receiver nor an argument
pub operand_faults : (scope : Scope) (un : p.UnExpr) →
    expr_faults scope (p.expr_with [] (p.sent (p.bin_with un p.no_opers) p.no_keys) p.no_messages) ≡ un_faults scope r.Value un
operand_faults scope un =
    let found = un_faults scope r.Value un in
    append-nil ((found ++ []) ++ []) ∙ append-nil (found ++ []) ∙ append-nil found

pub operation_faults : (scope : Scope) (bin : p.BinExpr) →
    expr_faults scope (p.expr_with [] (p.sent bin p.no_keys) p.no_messages) ≡ bin_faults scope r.Value bin
operation_faults scope bin =
    let found = bin_faults scope r.Value bin in
    append-nil (found ++ []) ∙ append-nil found

pub implicit_faults : (scope : Scope) (keys : p.Keys) →
    expr_faults scope (p.expr_with [] (p.implicit keys) p.no_messages) ≡ keywords_found keys ++ keys_faults scope keys
implicit_faults scope keys = append-nil (keywords_found keys ++ keys_faults scope keys)
