-- The names of a body's locals (this profile).
use Rattle.std.specs.Prelude.{ℕ, List, ◌∷◌, map, decimal}
use Rattle.std.specs.List.{range_with_len}
use Rattle.ns_code.specs.declared.local_names.Kept.{Kept}
use Rattle.ns_code.specs.declared.local_names.Kept.TheVariants as kept

-- `t0`, `t1` and so on
abbrev pub numbered_name : ℕ → List ℕ
numbered_name k = 116 ∷ decimal k

abbrev pub numbered_names : ℕ → List (List ℕ)
numbered_names count = map numbered_name (range_with_len 0 count)

-- those that are given, or so many with numbers
abbrev pub names_kept : Kept → List (List ℕ)
names_kept (kept.Given given) = given
names_kept (kept.Numbered count) = numbered_names count
