-- Tables of names: lists of texts without repeats, in the order of first use.
use Rattle.std.specs.Prelude.{ℕ, Bool, List, ◌++◌, ◌∷◌, [], if◌then◌else◌}
use Rattle.std.specs.List.{list_any, position_or_len, IsDistinct}
use Rattle.std.specs.Str.{bytes_eq}

-- no text stands in the list twice
abbrev pub NoRepeats : List (List ℕ) → Type 0
NoRepeats names = IsDistinct bytes_eq names

-- whether the text stands in the list
abbrev pub has : List (List ℕ) → List ℕ → Bool
has names text = list_any (bytes_eq text) names

-- the list with the text, which goes last where it is new
abbrev pub put_in : List (List ℕ) → List ℕ → List (List ℕ)
put_in names text = if has names text then names else names ++ text ∷ []

-- where the text stands in the list, or would stand once it is put in
abbrev pub place_of : List (List ℕ) → List ℕ → ℕ
place_of names text = position_or_len (bytes_eq text) names
