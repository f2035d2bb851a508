-- Bytes with each quote doubled, one after another.
use Rattle.std.proofs.Common.{◌≡◌, ℕ, ◌+◌, ◌<◌, List, [], ◌∷◌, ◌++◌, length, drop, get_or, refl, ap, ◌∙◌, Bool, true, false, cond, eqb}
use Rattle.std.proofs.lemmas.List.{drop_more}
use Rattle.ns_base.specs.Quoted.{doubled}

pub doubled_next : (byte : ℕ) (bytes : List ℕ) → doubled (byte ∷ bytes) ≡ doubled (byte ∷ []) ++ doubled bytes
doubled_next byte bytes = tested (eqb byte 39)
  where
    tested : (b : Bool) → cond b (39 ∷ 39 ∷ doubled bytes) (byte ∷ doubled bytes) ≡ cond b (39 ∷ 39 ∷ []) (byte ∷ []) ++ doubled bytes
    tested true = refl
    tested false = refl

-- one byte of what is left to double
pub doubled_step : (bytes : List ℕ) (i : ℕ) → i < length bytes → doubled (drop i bytes) ≡ doubled (get_or bytes i 0 ∷ []) ++ doubled (drop (i + 1) bytes)
doubled_step bytes i h = ap doubled (drop_more bytes i 0 h) ∙ doubled_next (get_or bytes i 0) (drop (i + 1) bytes)
