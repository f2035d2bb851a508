-- The pieces in which bytes are written (this profile).
use Rattle.std.specs.Prelude.{ℕ, min}

-- how many bytes the next piece has, by how many are left: 4,096, and at the end what is left
abbrev pub piece_len : ℕ → ℕ
piece_len left = min left 4096
