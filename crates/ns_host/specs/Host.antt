-- What a host asks for, and what it is given.
use Rattle.std.specs.Prelude.{◌≡◌, ◌⊎◌, ◌&&◌, ◌==◌, ◌-◌, ◌%◌, ℕ, Bool, nat_le, List, [], ◌∷◌, take, drop, length, sum, Option, Some, None, if◌then◌else◌}
use Rattle.std.specs.List.{list_all}
use Rattle.std.specs.Str.{bytes_eq, is_utf8}
use Rattle.std.specs.Global.{Vec}
use Rattle.ns_base.specs.Files.{Files}
use Rattle.ns_base.specs.Status.{exit_code}
use Rattle.ns_base.specs.declared.status.Status.{Status}
use Rattle.ns_base.specs.declared.status.Status.TheVariants.{Memory}
use Rattle.ns_host.specs.declared.call.Lengths.{Lengths}
use Rattle.ns_reply.specs.Room.{given}
use Rattle.ns_run.specs.Meaning.{meaning}
use Rattle.ns_run_outcome.specs.Outcome.{IsEnding}
use Rattle.ns_run_outcome.specs.Store.{FileStored}
use Rattle.ns_run_outcome.specs.declared.report.Report.{Report}

-- the pieces of these lengths, which lie one behind the other in these bytes
abbrev pub pieces : (lengths bytes : List ℕ) → List (List ℕ)
pieces [] bytes = []
pieces (n ∷ lengths) bytes = take n bytes ∷ pieces lengths (drop n bytes)

-- a name and a text by twos; one that is left over counts for nothing
abbrev pub pairs : List (List ℕ) → List (List ℕ × List ℕ)
pairs [] = []
pairs (name ∷ []) = []
pairs (name ∷ text ∷ more) = (name, text) ∷ pairs more

-- pieces, behind a name that waits for its text
abbrev pub with_name : Option (List ℕ) → List (List ℕ) → List (List ℕ)
with_name None more = more
with_name (Some name) more = name ∷ more

-- the words of a call: the first so many pieces
abbrev pub words_in : (words : ℕ) (lengths bytes : List ℕ) → List (List ℕ)
words_in words lengths bytes = pieces (take words lengths) bytes

-- the files of a call, by name and text: the other pieces by twos
abbrev pub files_in : (words : ℕ) (lengths bytes : List ℕ) → List (List ℕ × List ℕ)
files_in words lengths bytes = pairs (pieces (drop words lengths) (drop (sum (take words lengths)) bytes))

-- a file as it is kept: its name and its text
abbrev pub pair_of : (List ℕ × Vec ℕ) → (List ℕ × List ℕ)
pair_of file = (file.0, file.1.items)

-- the files of these names and texts; of two of one name the first counts
abbrev pub named : List (List ℕ × List ℕ) → Files
named [] name = None
named (file ∷ files) name = if bytes_eq file.0 name then Some file.1 else named files name

-- the files of a call
abbrev pub files_named : (words : ℕ) (lengths bytes : List ℕ) → Files
files_named words lengths bytes = named (files_in words lengths bytes)

-- whether a call is well formed: the lengths come to all of the bytes, so many pieces are words, each of them UTF-8, and the others
-- are as many names as texts
abbrev pub is_call : (words : ℕ) (lengths bytes : List ℕ) → Bool
is_call words lengths bytes =
    nat_le words (length lengths) && ((length lengths - words) % 2 == 0) && (sum lengths == length bytes)
    && list_all is_utf8 (words_in words lengths bytes)

-- what is meant by a call: what its words mean over its files
abbrev pub called : (words : ℕ) (lengths bytes : List ℕ) → Report
called words lengths bytes = meaning (words_in words lengths bytes) (files_named words lengths bytes)

-- What stands in the rooms of a host.
pub record Rooms : Type 0 where
  pub out : List ℕ
  pub err : List ℕ
  pub stored : List ℕ

-- the bytes that are stored; none where nothing is
abbrev pub bytes_stored : Option FileStored → List ℕ
bytes_stored None = []
bytes_stored (Some stored) = stored.bytes

-- Each room was given what the report has for it, and the length of all of that is told.
pub record HasAll (report : Report) (old new : Rooms) (told : Lengths) : Type 0 where
  pub out : new.out ≡ given report.out old.out
  pub err : new.err ≡ given report.err old.err
  pub stored : new.stored ≡ given (bytes_stored report.stored) old.stored
  pub out_length : told.out ≡ length report.out
  pub err_length : told.err ≡ length report.err
  pub stored_length : told.stored ≡ length (bytes_stored report.stored)

-- The rooms are as they were, and no length is told.
pub record IsUntouched (old new : Rooms) (told : Lengths) : Type 0 where
  pub rooms : new ≡ old
  pub lengths : told ≡ record { out = 0; err = 0; stored = 0 }

-- The call ended as the report says, and gave all that it says.
pub record GivesAll (report : Report) (status : Status) (old new : Rooms) (told : Lengths) : Type 0 where
  pub as_reported : status ≡ report.status
  pub ending : IsEnding report.status
  pub all : HasAll report old new told

-- how a well-formed call ends, whose command has that report: with all of that; or without memory, and nothing was given
abbrev pub Gives : Report → Status → (old new : Rooms) → Lengths → Type 0
Gives report status old new told = GivesAll report status old new told ⊎ ((status ≡ Memory) × IsUntouched old new told)

-- a well-formed call ends with the number of a status
abbrev pub Ends : Report → (result : ℕ) → (old new : Rooms) → Lengths → Type 0
Ends report result old new told = (status : Status) × (result ≡ exit_code status) × Gives report status old new told
