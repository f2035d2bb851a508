-- The names before the colons at the ends of selectors.
use Rattle.std.specs.Prelude.{ℕ, ◌-◌, List, ◌==◌, length, take, Option, None, slice_get, if◌then◌else◌}
use Rattle.std.specs.Option.{option_map_or}
use Rattle.std.specs.List.{slice_index_or, position}
use Rattle.std.specs.Str.{bytes_eq}

-- the number of the name before the colon at the end of a text
abbrev pub front_in : List (List ℕ) → List ℕ → Option ℕ
front_in names text =
    if slice_index_or text (length text - 1) 0 == 58 then position (bytes_eq (take (length text - 1) text)) names else None

-- what is kept under a number, if anything
abbrev pub kept_at : List (Option ℕ) → ℕ → Option ℕ
kept_at fronts number = option_map_or (λ front. front) (slice_get fronts number) None
