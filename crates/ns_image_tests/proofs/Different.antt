-- Texts of which none comes twice.
use Rattle.std.proofs.Common.{◌≡◌, ◌≢◌, List, [], ◌∷◌, ℕ, Bool, true, false, not, ◌&&◌, ◌||◌, refl, All, arith}
use Rattle.std.specs.List.{AllPairs, list_any}
use Rattle.std.specs.Str.{bytes_eq}
use Rattle.std.proofs.lemmas.List.Kept.{AllPairs-cons}
use Rattle.std.proofs.lemmas.List.Elements.{All-nil, All-cons}
use Rattle.std.proofs.lemmas.Slice.Eq.{bytes_eq-Decides}
use Rattle.ns_code.specs.Soundness.{are_different}

neither : (a b : Bool) → (a || b) ≡ false → (a ≡ false) × (b ≡ false)
neither false false e = (refl, refl)
neither true b e = absurd (cc)
neither false true e = absurd (cc)

both : (a b : Bool) → (not a && b) ≡ true → (a ≡ false) × (b ≡ true)
both false true e = (refl, refl)
both false false e = absurd (cc)
both true b e = absurd (cc)

differs : (text other : List ℕ) → bytes_eq text other ≡ false → text ≢ other
differs text other e same = let yes = (bytes_eq-Decides text other).1 same in absurd (cc)

none_same : (text : List ℕ) (texts : List (List ℕ)) → list_any (bytes_eq text) texts ≡ false → All (λ other. text ≢ other) texts
none_same text [] e = All-nil (λ other. text ≢ other)
none_same text (other ∷ texts) e =
    let no = neither (bytes_eq text other) (list_any (bytes_eq text) texts) e in
    All-cons (λ one. text ≢ one) other texts (differs text other no.0) (none_same text texts no.1)

pub different_pairs : (texts : List (List ℕ)) → are_different texts ≡ true → AllPairs (λ a b. a ≢ b) texts
different_pairs [] e = λ i j d lt below. absurd (omega (arith, below))
different_pairs (text ∷ texts) e =
    let is = both (list_any (bytes_eq text) texts) (are_different texts) e in
    AllPairs-cons (λ a b. a ≢ b) text texts (none_same text texts is.0) (different_pairs texts is.1)
