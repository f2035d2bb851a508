-- What a drive has, and what it answers, where it tells that.
use Rattle.std.specs.Prelude.{◌≡◌, ◌⊎◌, ℕ, List, ◌∷◌, Option, Some, None, Result, Ok, Err, IsSome, IsSomeAnd, option_map}
use Rattle.std.specs.IoError.{error_kind}
use Rattle.std.specs.declared.io.Error.{Error}
use Rattle.std.specs.declared.io.ErrorKind.{ErrorKind}
use Rattle.std.specs.declared.io.ErrorKind.TheVariants.{InvalidFilename, NotADirectory, NotFound}
use Rattle.ns_base.specs.Files.{Files, OthersStand}

-- What a drive has: its files, and the names of the drafts, the last begun first. A draft counts as a file once it has its place.
pub record Kept : Type 0 where
  pub files : Files
  pub drafts : List (List ℕ)

-- the files of a drive, where it tells what it has
abbrev pub files_of : Option Kept → Option Files
files_of kept = option_map (λ told. told.files) kept

-- An error that says that a name leads to no file.
abbrev pub IsAbsence : ErrorKind → Type 0
IsAbsence kind = (kind ≡ NotFound) ⊎ ((kind ≡ NotADirectory) ⊎ (kind ≡ InvalidFilename))

-- what opening a file answers: a reader of its bytes, or why it isn't opened
abbrev pub AnswersOpen : {R : Type 0} → (R → Option (List ℕ)) → Files → List ℕ → Result R Error → Type 0
AnswersOpen remaining files name (Ok reader) = IsSomeAnd (files name) (λ bytes. remaining reader ≡ Some bytes)
AnswersOpen remaining files name (Err e) =
    (IsAbsence (error_kind e) → files name ≡ None) × ((IsAbsence (error_kind e) → ⊥) → IsSome (files name))

-- the drive once a draft of this name is begun
abbrev pub begun : List ℕ → Kept → Kept
begun name kept = record { files = kept.files; drafts = name ∷ kept.drafts }

-- The draft, which was the last one begun, is in the place of that name with these bytes, and the other files stand.
abbrev pub IsPlaced : List ℕ → Files → List (List ℕ) → List ℕ → Option Kept → Type 0
IsPlaced name files drafts bytes new =
    IsSomeAnd new (λ kept. (kept.files name ≡ Some bytes) × OthersStand files kept.files name × (kept.drafts ≡ drafts))
