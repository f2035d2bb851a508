-- The kinds of tokens, seen from the front.
use Rattle.std.proofs.Common.{◌≡◌, ◌<◌, ◌≤◌, ℕ, List, [], ◌∷◌, drop, length, slice_index_or, refl, ap, sym, arith}
use Rattle.ns_tree.specs.Tokens.{kinds}
use Rattle.ns_tree.specs.declared.token.Token.{Token}

-- the first item is the first of the kinds
pub first_kind : (ts : List Token) (t : Token) → 0 < length ts → t ≡ slice_index_or ts 0 t → kinds ts ≡ t.kind ∷ drop 1 (kinds ts)
first_kind [] t some first = absurd (omega (arith, some))
first_kind (x ∷ xs) t some first = ap (λ (it : Token). it.kind ∷ kinds xs) (sym first)

-- no items have no kinds
pub no_kinds : (ts : List Token) → length ts ≤ 0 → kinds ts ≡ []
no_kinds [] none = refl
no_kinds (x ∷ xs) none = absurd (omega (arith, none))

-- behind the first
pub kinds_behind : (ts : List Token) → kinds (drop 1 ts) ≡ drop 1 (kinds ts)
kinds_behind [] = refl
kinds_behind (x ∷ xs) = refl
