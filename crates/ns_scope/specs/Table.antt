-- Tables: what each text stands for. The first that is put in for a text decides.
use Rattle.std.specs.Prelude.{ℕ, Bool, List, [], ◌∷◌, ◌++◌, Option, if◌then◌else◌}
use Rattle.std.specs.Map.{lookup}
use Rattle.std.specs.Option.{is_some}
use Rattle.std.specs.Str.{bytes_eq}

abbrev pub TableOf : Type 0 → Type 0
TableOf V = List (List ℕ × V)

module _ {V : Type 0} where
  -- what the text stands for
  abbrev pub look_up : TableOf V → List ℕ → Option V
  look_up table text = lookup (bytes_eq text) table

  -- whether it stands for something
  abbrev pub has : TableOf V → List ℕ → Bool
  has table text = is_some (look_up table text)

  -- the table with the text, unless it is there
  abbrev pub put_first : TableOf V → List ℕ → V → TableOf V
  put_first table text value = if has table text then table else table ++ (text, value) ∷ []
