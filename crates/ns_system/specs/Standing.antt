-- What stands under a name, by what the system tells of it.
use Rattle.std.specs.Prelude.{◌≡◌, ◌≢◌, Result, Ok, Err}
use Rattle.std.specs.Fs.{IsFile, IsSymlink, file_type, metadata_mode, permissions_mode}
use Rattle.std.specs.IoError.{error_kind}
use Rattle.std.specs.declared.fs.Metadata.{Metadata}
use Rattle.std.specs.declared.io.Error.{Error}
use Rattle.std.specs.declared.io.ErrorKind.TheVariants.{NotFound}
use Rattle.ns_system.specs.declared.store.Standing as store
use Rattle.ns_system.specs.declared.store.Standing.TheVariants.{Nothing, File, Link, Other, Unknown}

-- This is what stands there: a file with its permissions, a link, or something else; nothing, where the name isn't found.
abbrev pub Finds : Result Metadata Error → store.Standing → Type 0
Finds (Ok found) Nothing = ⊥
Finds (Ok found) (File permissions) = IsFile (file_type found) × (permissions_mode permissions ≡ metadata_mode found)
Finds (Ok found) Link = IsSymlink (file_type found)
Finds (Ok found) Other = (IsFile (file_type found) → ⊥) × (IsSymlink (file_type found) → ⊥)
Finds (Ok found) Unknown = ⊥
Finds (Err e) Nothing = error_kind e ≡ NotFound
Finds (Err e) (File permissions) = ⊥
Finds (Err e) Link = ⊥
Finds (Err e) Other = ⊥
Finds (Err e) Unknown = error_kind e ≢ NotFound
