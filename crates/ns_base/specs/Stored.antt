-- Files in memory.
use Rattle.std.specs.Prelude.{ℕ, List, [], ◌∷◌, Some, None, if◌then◌else◌}
use Rattle.std.specs.Str.{bytes_eq}
use Rattle.std.specs.Global.{Vec}
use Rattle.ns_base.specs.Files.{Files}

-- the bytes of the first file of that name
abbrev pub file_at : List (List ℕ × Vec ℕ) → Files
file_at [] name = None
file_at (file ∷ files) name = if bytes_eq file.0 name then Some file.1.items else file_at files name
