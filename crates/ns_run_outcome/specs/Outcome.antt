-- What the files and the streams are after a command.
use Rattle.std.specs.Prelude.{◌≡◌, ◌⊎◌, ℕ, List, Option, Some, None, ◌++◌, codes, IsNone, IsSomeAnd, MatchOption}
use Rattle.ns_base.specs.Files.{AllStand, Files, OthersStand}
use Rattle.ns_base.specs.Sink.{WrotePrefix, with_bytes}
use Rattle.ns_base.specs.declared.status.Status.{Status}
use Rattle.ns_base.specs.declared.status.Status.TheVariants.{Done, ProgramError, Refused, Limit, ReadFault, WriteFault, Memory}
use Rattle.ns_run_outcome.specs.Report.{refused_file}
use Rattle.ns_run_outcome.specs.Store.{FileStored, files_with}
use Rattle.ns_run_outcome.specs.declared.report.Report.{Report}

-- The status is the report's, and both streams have all of its bytes.
pub record IsReported (report : Report) (status : Status) (out out' err err' : Option (List ℕ)) : Type 0 where
  pub as_reported : status ≡ report.status
  pub all_out : out' ≡ with_bytes report.out out
  pub all_err : err' ≡ with_bytes report.err err

-- Nothing was written.
abbrev pub IsUnwritten : (out out' err err' : Option (List ℕ)) → Type 0
IsUnwritten out out' err err' = (out' ≡ out) × (err' ≡ err)

-- Each stream has a prefix of its bytes, and `err` has some only where `out` has all.
abbrev pub IsCut : Report → (out out' err err' : Option (List ℕ)) → Type 0
IsCut report out out' err err' =
    (WrotePrefix report.out out out' × (err' ≡ err))
    ⊎ ((out' ≡ with_bytes report.out out) × WrotePrefix report.err err err')

-- what the streams have, before and after a command of that report that ended with that status
abbrev pub LeavesStreams : Report → Status → (out out' err err' : Option (List ℕ)) → Type 0
LeavesStreams report Done out out' err err' = IsReported report Done out out' err err'
LeavesStreams report ProgramError out out' err err' = IsReported report ProgramError out out' err err'
LeavesStreams report Refused out out' err err' = IsReported report Refused out out' err err'
LeavesStreams report Limit out out' err err' = IsReported report Limit out out' err err'
LeavesStreams report ReadFault out out' err err' = IsUnwritten out out' err err'
LeavesStreams report WriteFault out out' err err' = IsCut report out out' err err'
LeavesStreams report Memory out out' err err' = IsUnwritten out out' err err'

-- Each file is as it was, but for the one that is stored.
abbrev pub AreStored : Option FileStored → Files → Files → Type 0
AreStored stored old new = (name : List ℕ) → new name ≡ files_with stored old name

-- Each file is as it was, but for the one that was to be stored, which may hold anything.
abbrev pub OthersAreKept : Option FileStored → Files → Files → Type 0
OthersAreKept None old new = AllStand old new
OthersAreKept (Some stored) old new = OthersStand old new stored.name

-- what the files are, before and after a command of that report that ended with that status
abbrev pub LeavesFiles : Report → Status → (old new : Files) → Type 0
LeavesFiles report Done old new = AreStored report.stored old new
LeavesFiles report ProgramError old new = AreStored report.stored old new
LeavesFiles report Refused old new = AreStored report.stored old new
LeavesFiles report Limit old new = AreStored report.stored old new
LeavesFiles report ReadFault old new = AllStand old new
LeavesFiles report WriteFault old new = OthersAreKept report.stored old new
LeavesFiles report Memory old new = AllStand old new

-- This is so of the files before and after; or they aren't told, neither before nor after.
abbrev pub OfFiles : (P : Files → Files → Type 0) → (shelf shelf' : Option Files) → Type 0
OfFiles P shelf shelf' = MatchOption shelf (IsNone shelf') (λ old. IsSomeAnd shelf' (λ new. P old new))

-- what the files are and what the streams have, before and after a command of that report that ended with that status
pub record Leaves (report : Report) (status : Status) (shelf shelf' : Option Files) (out out' err err' : Option (List ℕ)) : Type 0 where
  pub files : OfFiles (LeavesFiles report status) shelf shelf'
  pub streams : LeavesStreams report status out out' err err'

-- A status that a report can have: the work was done, and nothing failed.
abbrev pub IsEnding : Status → Type 0
IsEnding Done = Unit {0}
IsEnding ProgramError = Unit {0}
IsEnding Refused = Unit {0}
IsEnding Limit = Unit {0}
IsEnding ReadFault = ⊥
IsEnding WriteFault = ⊥
IsEnding Memory = ⊥

-- All that a report of that status says was written; or a stream failed.
abbrev pub IsWritten : (reported status : Status) → Type 0
IsWritten reported status = (status ≡ reported) ⊎ (status ≡ WriteFault)

-- These bytes were written, to a stream that tells its bytes.
abbrev pub Wrote : List ℕ → (old new : Option (List ℕ)) → Type 0
Wrote bytes old new = (before : List ℕ) × (old ≡ Some before) × (new ≡ Some (before ++ bytes))

-- the line that says that the file isn't there
abbrev pub missing_line : List ℕ → List ℕ
missing_line file = (refused_file file (codes "Missing")).err

-- The report refuses the file as one that isn't there.
abbrev pub IsMissing : List ℕ → Report → Type 0
IsMissing file report = (report.status ≡ Refused) × (report.err ≡ missing_line file)
