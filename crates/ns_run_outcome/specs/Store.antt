-- What a command stores.
use Rattle.std.specs.Prelude.{ℕ, List, Option, Some, None, if◌then◌else◌}
use Rattle.std.specs.Str.{bytes_eq}
use Rattle.ns_base.specs.Files.{Files}

-- A file to be stored.
pub record FileStored : Type 0 where
  pub name : List ℕ
  pub bytes : List ℕ

-- the files with what is stored among them
abbrev pub files_with : Option FileStored → Files → Files
files_with None files name = files name
files_with (Some stored) files name = if bytes_eq name stored.name then Some stored.bytes else files name
