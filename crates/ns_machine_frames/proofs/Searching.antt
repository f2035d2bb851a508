-- A search that has gone past so many.
use Rattle.std.proofs.Common.{ℕ, ◌+◌, Option, Some, None}

-- what is found behind so many
abbrev pub behind : ℕ → Option ℕ → Option ℕ
behind number None = None
behind number (Some count) = Some (number + count)
