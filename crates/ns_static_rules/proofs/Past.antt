-- The places in a list, and the one that has so many before it.
use Rattle.std.proofs.Common.{◌≡◌, refl, ap, ℕ, ◌<◌, ◌≤◌, zero, suc, List, [], ◌∷◌, length, get_or, map, arith, Some, None}
use Rattle.std.specs.Prelude.{slice_get}
use Rattle.ns_tree.specs.declared.tree.Named.{Named}
use Rattle.ns_tree.specs.declared.tree.BinExpr.{BinExpr}
use Rattle.ns_tree.specs.declared.tree.Expr.{Expr}
use Rattle.ns_tree.specs.PlainOf.{expr_of, keys_of, exprs_of}
use Rattle.ns_static_rules.specs.Faults.{key_places, expr_start, expr_starts}

pub none_past : {A : Type 0} (f : A → ℕ) (xs : List A) (most : ℕ) → length xs ≤ most → None ≡ slice_get (map f xs) most
none_past f [] most h = refl
none_past f (x ∷ xs) zero h = absurd (omega arith)
none_past f (x ∷ xs) (suc most) h = none_past f xs most (omega arith)

pub some_past : {A : Type 0} (f : A → ℕ) (xs : List A) (most : ℕ) (x : A) → most < length xs → x ≡ get_or xs most x → Some (f x) ≡ slice_get (map f xs) most
some_past f [] most x h e = absurd (omega arith)
some_past f (y ∷ xs) zero x h e = ap (λ z. Some (f z)) e
some_past f (y ∷ xs) (suc most) x h e = some_past f xs most x (omega arith) e

pub key_map : (xs : List (Named × BinExpr)) → map (λ x. x.0.at) xs ≡ key_places (keys_of xs)
key_map [] = refl
key_map (x ∷ xs) = ap (λ ys. x.0.at ∷ ys) (key_map xs)

pub element_map : (xs : List Expr) → map (λ x. expr_start (expr_of x)) xs ≡ expr_starts (exprs_of xs)
element_map [] = refl
element_map (x ∷ xs) = ap (λ ys. expr_start (expr_of x) ∷ ys) (element_map xs)
