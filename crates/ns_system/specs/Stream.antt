-- What an outlet takes.
use Rattle.std.specs.Prelude.{◌≡◌, ℕ, List, take, Option, Result, MatchResult}
use Rattle.ns_base.specs.Sink.{with_bytes}

-- A write took the bytes that it answers, from the first on, and none where it failed.
abbrev pub Takes : {E : Type 0} → List ℕ → Result ℕ E → (old new : Option (List ℕ)) → Type 0
Takes bytes result old new = MatchResult result (λ n. new ≡ with_bytes (take n bytes) old) (λ _. new ≡ old)
