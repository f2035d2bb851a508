-- What is written to a sink.
use Rattle.std.specs.Prelude.{◌≡◌, ℕ, List, ◌++◌, take, Option, option_map}

-- what was written with these bytes after it, where the sink tells it
abbrev pub with_bytes : List ℕ → Option (List ℕ) → Option (List ℕ)
with_bytes bytes = option_map (λ written. written ++ bytes)

-- The first bytes of a piece were written, and the others not.
abbrev pub WrotePrefix : List ℕ → Option (List ℕ) → Option (List ℕ) → Type 0
WrotePrefix piece old new = (n : ℕ) × (new ≡ with_bytes (take n piece) old)
