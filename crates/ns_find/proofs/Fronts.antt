-- The name before the colon of a slot's setter is that slot's, and no other.
use Rattle.std.proofs.Common.{◌≡◌, ◌≢◌, ℕ, zero, suc, ◌+◌, ◌-◌, ◌<◌, List, [], ◌∷◌, ◌++◌, length, take, get_or, refl, ap, sym, ◌∙◌, arith, Some, None, Bool, true, false, cond, not, length-append, take_at}
use Rattle.std.specs.Prelude.{position}
use Rattle.std.specs.List.{position_or_len, AllPairs}
use Rattle.std.specs.Str.{bytes_eq}
use Rattle.std.proofs.lemmas.Bool.{lt-ltb, eq-eqb}
use Rattle.std.proofs.lemmas.Slice.Eq.{bytes_eq-Decides}
use Rattle.std.proofs.Math.Seq.{get_or-append_seam}
use Rattle.ns_code.specs.Fronts.{front_in}

unlike : (one other : List ℕ) → one ≢ other → bytes_eq one other ≡ false
unlike one other apart = by (bytes_eq one other) refl
  where
    by : (b : Bool) → bytes_eq one other ≡ b → bytes_eq one other ≡ false
    by true is = absurd (apart ((bytes_eq-Decides one other).0 is))
    by false is = is

-- the first name of a text stands at a place, where those before it are others
first_at : (text : List ℕ) (names : List (List ℕ)) (place : ℕ) → place < length names → bytes_eq text (get_or names place []) ≡ true
    → ((k : ℕ) → k < place → bytes_eq text (get_or names k []) ≡ false) → position_or_len (bytes_eq text) names ≡ place
first_at text [] place lt is other = omega (arith, lt)
first_at text (name ∷ names) zero lt is other = ap (λ b. cond (not b) (1 + position_or_len (bytes_eq text) names) 0) is
first_at text (name ∷ names) (suc place) lt is other =
    let rest : position_or_len (bytes_eq text) names ≡ place = first_at text names place (omega (arith, lt)) is (λ k below. other (suc k) (omega (arith, below))) in
    ap (λ b. cond (not b) (1 + position_or_len (bytes_eq text) names) 0) (other 0 (omega arith)) ∙ omega (arith, rest)

pub front_told : (names : List (List ℕ)) (text : List ℕ) (place : ℕ) → AllPairs (λ a b. a ≢ b) names → place < length names
    → bytes_eq text (get_or names place [] ++ 58 ∷ []) ≡ true → front_in names text ≡ Some place
front_told names text place differ lt t =
    let name : List ℕ = get_or names place [] in
    let is : text ≡ name ++ 58 ∷ [] = (bytes_eq-Decides text (name ++ 58 ∷ [])).0 t in
    let n : length text - 1 ≡ length name = omega (arith, ap length is, length-append name (58 ∷ [])) in
    let last : get_or text (length text - 1) 0 ≡ 58 = ap (λ k. get_or text k 0) n ∙ (ap (λ z. get_or z (length name) 0) is ∙ get_or-append_seam name 58 [] 0) in
    let front : take (length text - 1) text ≡ name = ap (λ k. take k text) n ∙ (ap (take (length name)) is ∙ take_at name (58 ∷ []) (length name) refl) in
    let first : position_or_len (bytes_eq name) names ≡ place =
    first_at name names place lt ((bytes_eq-Decides name name).1 refl)
    (λ k below. unlike name (get_or names k []) (λ same. differ k place [] below lt (sym same))) in
    let there : position (bytes_eq name) names ≡ Some place =
    ap (λ b. cond b (Some (position_or_len (bytes_eq name) names)) None) (lt-ltb (position_or_len (bytes_eq name) names) (length names) (omega (arith, first, lt)))
    ∙ ap Some first in
    ap (λ b. cond b (position (bytes_eq (take (length text - 1) text)) names) None) (eq-eqb (get_or text (length text - 1) 0) 58 last)
    ∙ (ap (λ z. position (bytes_eq z) names) front ∙ there)
