-- Bytes with each quote doubled.
use Rattle.std.proofs.Common.{◌≡◌, ℕ, ◌+◌, ◌*◌, ◌<◌, ◌≤◌, List, [], ◌∷◌, length, drop, get_or, ap, ◌∙◌, arith, Bool, true, false, cond, eqb, length-append}
use Rattle.ns_base.specs.Quoted.{doubled, quoted}
use Rattle.ns_base.specs.laws.Quoted.{doubled_next, doubled_step}

pub doubled_step_size : (bytes : List ℕ) (i : ℕ) → i < length bytes →
    length (doubled (drop i bytes)) ≡ length (doubled (get_or bytes i 0 ∷ [])) + length (doubled (drop (i + 1) bytes))
doubled_step_size bytes i h =
    ap length (doubled_step bytes i h) ∙ length-append (doubled (get_or bytes i 0 ∷ [])) (doubled (drop (i + 1) bytes))

pub quoted_size : (bytes : List ℕ) → length (quoted bytes) ≡ 2 + length (doubled bytes)
quoted_size bytes = omega (arith, length-append (doubled bytes) (39 ∷ []))

one_size : (byte : ℕ) → length (doubled (byte ∷ [])) ≤ 2
one_size byte = tested (eqb byte 39)
  where
    tested : (b : Bool) → length (cond b (39 ∷ 39 ∷ []) (byte ∷ [])) ≤ 2
    tested true = omega arith
    tested false = omega arith

-- doubling makes no more than twice as many
pub doubled_few : (bytes : List ℕ) → length (doubled bytes) ≤ length bytes * 2
doubled_few [] = omega arith
doubled_few (byte ∷ bytes) =
    omega (arith, ap length (doubled_next byte bytes), length-append (doubled (byte ∷ [])) (doubled bytes), one_size byte, doubled_few bytes)
