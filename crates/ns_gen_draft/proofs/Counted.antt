-- The keys of a message, as they are counted.
use Rattle.std.proofs.Common.{◌≡◌, ◌+◌, List, [], ◌∷◌, length, refl, ap, ◌∙◌, arith}
use Rattle.ns_tree.specs.declared.tree.Named.{Named}
use Rattle.ns_tree.specs.declared.tree.BinExpr.{BinExpr}
use Rattle.ns_tree.specs.PlainOf.{keys_of}
use Rattle.ns_gen_draft.specs.Keys.{keys_count}

pub keys_counted : (keys : List (Named × BinExpr)) → keys_count (keys_of keys) ≡ length keys
keys_counted [] = refl
keys_counted (key ∷ keys) = ap (λ n. n + 1) (keys_counted keys) ∙ omega arith
