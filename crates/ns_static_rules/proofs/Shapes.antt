-- What the lists of a tree begin with.
use Rattle.std.proofs.Common.{◌≡◌, refl, ◌≤◌, true, List, [], ◌∷◌, length, arith}
use Rattle.ns_tree.specs.declared.tree.Named.{Named}
use Rattle.ns_tree.specs.declared.tree.BinExpr.{BinExpr}
use Rattle.ns_tree.specs.declared.tree.UnExpr.{UnExpr}
use Rattle.ns_tree.specs.Plain as p
use Rattle.ns_tree.specs.PlainOf.{opers_of, keys_of}
use Rattle.ns_static_rules.specs.Rules.{has_opers, has_keys, is_written, opers_send}

pub opers_there : (xs : List (Named × UnExpr)) → 1 ≤ length xs → has_opers (opers_of xs) ≡ true
opers_there [] h = absurd (omega arith)
opers_there (x ∷ xs) h = refl

pub keys_there : (xs : List (Named × BinExpr)) → 1 ≤ length xs → has_keys (keys_of xs) ≡ true
keys_there [] h = absurd (omega arith)
keys_there (x ∷ xs) h = refl

pub one_oper : (first : p.UnExpr) (xs : List (Named × UnExpr)) → length xs ≡ 1 → opers_send first (opers_of xs) ≡ is_written first
one_oper first [] h = absurd (omega arith)
one_oper first (x ∷ []) h = refl
one_oper first (x ∷ y ∷ xs) h = absurd (omega arith)

pub more_opers : (first : p.UnExpr) (xs : List (Named × UnExpr)) → 2 ≤ length xs → opers_send first (opers_of xs) ≡ true
more_opers first [] h = absurd (omega arith)
more_opers first (x ∷ []) h = absurd (omega arith)
more_opers first (x ∷ y ∷ xs) h = refl
