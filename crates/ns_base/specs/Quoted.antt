-- Texts in quotes.
use Rattle.std.specs.Prelude.{ℕ, List, [], ◌∷◌, ◌++◌, ◌==◌, if◌then◌else◌}

-- the bytes with each quote doubled
abbrev pub doubled : List ℕ → List ℕ
doubled [] = []
doubled (byte ∷ bytes) = if byte == 39 then 39 ∷ 39 ∷ doubled bytes else byte ∷ doubled bytes

-- the bytes in quotes, with inner quotes doubled
abbrev pub quoted : List ℕ → List ℕ
quoted bytes = 39 ∷ (doubled bytes ++ 39 ∷ [])
