-- One more name that is a number.
use Rattle.std.proofs.Common.{◌≡◌, ℕ, ◌+◌, ◌++◌, ◌∷◌, [], arith}
use Rattle.std.proofs.lemmas.List.FromFn.{map-range_with_len_more}
use Rattle.ns_code.specs.LocalNames.{numbered_name, numbered_names}

pub numbered_names_more : (n : ℕ) → numbered_names (n + 1) ≡ numbered_names n ++ numbered_name n ∷ []
numbered_names_more n = map-range_with_len_more numbered_name 0 n n (omega arith)
