-- What a store leaves on a drive, where the drive tells what it has.
use Rattle.std.specs.Prelude.{◌≡◌, ℕ, List, ◌++◌, codes, Option, Some, Result, Ok, Err, IsNone, IsSomeAnd, MatchOption}
use Rattle.std.specs.Fmt.{decimal}
use Rattle.std.specs.Path.{path_with_file_name}
use Rattle.ns_base.specs.Files.{OthersStand}
use Rattle.ns_base.specs.declared.shelf.ShelfFault.{ShelfFault}
use Rattle.ns_system.specs.Drive.{Kept}

-- The drive holds the bytes under that name, and all else is as it was; or, where the store failed, all is as it was.
abbrev pub IsStored : List ℕ → List ℕ → Result (Unit {0}) ShelfFault → Kept → Kept → Type 0
IsStored name bytes (Ok _) old new = (new.files name ≡ Some bytes) × OthersStand old.files new.files name × (new.drafts ≡ old.drafts)
IsStored name bytes (Err fault) old new = (new.files ≡ old.files) × (new.drafts ≡ old.drafts)

-- This is so of what the drive has before and after; or the drive tells it neither before nor after.
abbrev pub OfDrive : (P : Kept → Kept → Type 0) → (old new : Option Kept) → Type 0
OfDrive P old new = MatchOption old (IsNone new) (λ before. IsSomeAnd new (λ after. P before after))

-- what a draft of that number is called in its folder
abbrev pub last_name : ℕ → List ℕ
last_name number = codes ".nspk-" ++ decimal number

-- the name of a draft of that number for the file of that name: in the same folder
unfoldable pub draft_name : List ℕ → ℕ → List ℕ
draft_name name number = path_with_file_name name (last_name number)
