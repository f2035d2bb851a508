-- Which line is told where something can't be written.
use Rattle.std.proofs.Common.{◌≡◌, ◌≢◌, ℕ, zero, suc, List, [], ◌∷◌, ◌++◌, Option, codes, refl, arith}
use Rattle.ns_system.specs.Fault.{unwritten_line}

pub of_error : (unstored : Option (List ℕ)) (stores puts : ℕ) → stores ≡ 0 → puts ≡ 0 →
    unwritten_line unstored stores puts ≡ codes "nspk: standard error can't be written" ++ 10 ∷ []
of_error unstored zero zero s p = refl
of_error unstored zero (suc puts) s p = absurd (omega (arith, p))
of_error unstored (suc stores) puts s p = absurd (omega (arith, s))

pub of_output : (unstored : Option (List ℕ)) (stores puts : ℕ) → stores ≡ 0 → puts ≢ 0 →
    unwritten_line unstored stores puts ≡ codes "nspk: standard output can't be written" ++ 10 ∷ []
of_output unstored zero zero s p = absurd (p refl)
of_output unstored zero (suc puts) s p = refl
of_output unstored (suc stores) puts s p = absurd (omega (arith, s))
