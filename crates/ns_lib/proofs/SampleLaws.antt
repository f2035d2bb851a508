-- Lines that are written one after the other.
use Rattle.std.proofs.Common.{◌≡◌, ℕ, ◌+◌, List, [], ◌∷◌, ◌++◌, append_assoc, add-one}
use Rattle.ns_lib.specs.Sample.{lines_below}

-- the lines so far, and the next one
pub one_line_more : (line : ℕ → List ℕ) (before : List ℕ) (k : ℕ) → (before ++ lines_below line k) ++ line k ++ 10 ∷ [] ≡ before ++ lines_below line (k + 1)
one_line_more line before k = simp (append_assoc, add-one)
