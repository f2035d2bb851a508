-- The files before and after a command.
use Rattle.std.proofs.Common.{◌≡◌, ◌≢◌, ℕ, List, cond, true, false, Option, Some, None, refl, sym, subst, ◌∙◌, arith, inl, inr}
use Rattle.std.specs.Str.{bytes_eq}
use Rattle.std.proofs.lemmas.Slice.Eq.{bytes_eq-Decides}
use Rattle.ns_base.specs.Files.{Files}
use Rattle.ns_base.specs.Shelf.{OnlyRead}
use Rattle.ns_base.specs.declared.status.Status.{Status}
use Rattle.ns_base.specs.declared.status.Status.TheVariants as status
use Rattle.ns_run_outcome.specs.Outcome.{AreStored, IsEnding, IsWritten, Leaves, LeavesFiles, LeavesStreams, OfFiles, OthersAreKept}
use Rattle.ns_run_outcome.specs.Store.{FileStored, files_with}
use Rattle.ns_run_outcome.specs.declared.report.Report.{Report}
use Rattle.ns_run_outcome.specs.laws.Told.{of_files_so, same_files}

-- What is stored leaves the others as they were.
pub others_kept : (stored : Option FileStored) (old new : Files) → AreStored stored old new → OthersAreKept stored old new
others_kept None old new h = h
others_kept (Some stored) old new h = λ other apart. h other ∙ other_file other apart
  where
    other_file : (other : List ℕ) → other ≢ stored.name → files_with (Some stored) old other ≡ old other
    other_file other apart =
        elim (bytes_eq other stored.name) as (λ q. bytes_eq other stored.name ≡ q → cond q (Some stored.bytes) (old other) ≡ old other) [
          | true ↦ λ e. absurd (apart ((bytes_eq-Decides other stored.name).0 e))
          | false ↦ λ e. refl
        ] refl

-- A report of such a status leaves what it stores.
pub ending_files : (report : Report) (s : Status) (old new : Files) → IsEnding s → AreStored report.stored old new →
    LeavesFiles report s old new
ending_files report status.Done old new i h = h
ending_files report status.ProgramError old new i h = h
ending_files report status.Refused old new i h = h
ending_files report status.Limit old new i h = h
ending_files report status.ReadFault old new i h = absurd i
ending_files report status.WriteFault old new i h = absurd i
ending_files report status.Memory old new i h = absurd i

-- What was stored is there, whatever was written then.
pub files_written : (report : Report) (result : Status) (a b : Option Files) → IsEnding report.status → IsWritten report.status result →
    OfFiles (AreStored report.stored) a b → OfFiles (LeavesFiles report result) a b
files_written report result a b i (inl e) h =
    subst (λ s. OfFiles (LeavesFiles report s) a b) (sym e) (of_files_so (AreStored report.stored) (LeavesFiles report report.status) (λ old new k. ending_files report report.status old new i k) a b h)
files_written report result a b i (inr e) h =
    subst (λ s. OfFiles (LeavesFiles report s) a b) (sym e) (of_files_so (AreStored report.stored) (OthersAreKept report.stored) (λ old new k. others_kept report.stored old new k) a b h)

-- How a command ends that has a report, which is its meaning.
pub finished : (report meaning : Report) (s : Status) (old mid new : Option Files) (o o' e e' : Option (List ℕ)) → report ≡ meaning →
    mid ≡ old → OfFiles (LeavesFiles report s) mid new
    → LeavesStreams report s o o' e e' → Leaves meaning s old new o o' e e'
finished report meaning s old mid new o o' e e' is same files streams =
    subst (λ r. Leaves r s old new o o' e e') is
    (record { files = subst (λ shelf. OfFiles (LeavesFiles report s) shelf new) same files; streams = streams })

-- How a command ends that has no report, for a file that couldn't be read or for want of memory.
pub not_read : (meaning : Report) (old new : Option Files) (o e : Option (List ℕ)) → new ≡ old →
    Leaves meaning status.ReadFault old new o o e e
not_read meaning old new o e same = record { files = same_files old new same; streams = (refl, refl) }

pub no_memory : (meaning : Report) (old new : Option Files) (o e : Option (List ℕ)) → new ≡ old →
    Leaves meaning status.Memory old new o o e e
no_memory meaning old new o e same = record { files = same_files old new same; streams = (refl, refl) }

-- A shelf that was only read twice was only read.
pub only_read_twice : {S : Type 0} (holds : S → Option Files) (misses faults store_faults : S → ℕ) (old mid new : S) →
    OnlyRead holds misses faults store_faults old mid → OnlyRead holds misses faults store_faults mid new
    → OnlyRead holds misses faults store_faults old new
only_read_twice holds misses faults store_faults old mid new one two =
    (two.0 ∙ one.0, two.1 ∙ one.1, omega (arith, one.2, two.2), omega (arith, one.3, two.3))
