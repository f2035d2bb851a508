-- The numbers of locals.
use Rattle.std.proofs.Common.{◌≡◌, refl, ℕ, ◌+◌, List, [], ◌∷◌, ◌++◌, length, arith}
use Rattle.ns_tree.specs.declared.tree.Named.{Named}
use Rattle.ns_scope.specs.Names.{numbered}
use Rattle.ns_scope.specs.declared.names.Setting.{Setting}

-- what is numbered behind others goes on from their count
pub numbered_append : (index : ℕ) (xs ys : List (Named × Setting)) → numbered index (xs ++ ys) ≡ numbered index xs ++ numbered (index + length (numbered index xs)) ys
numbered_append index [] ys = let e : index + 0 ≡ index = omega arith in rw e refl
numbered_append index (x ∷ xs) ys =
    let e : index + 1 + length (numbered (index + 1) xs) ≡ index + length (numbered index (x ∷ xs)) = omega arith in
    rw (numbered_append (index + 1) xs ys) (rw e refl)
