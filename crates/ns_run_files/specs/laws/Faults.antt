-- What a fault of the files says, and its report.
use Rattle.std.proofs.Common.{◌≡◌, ℕ, List, [], Bool, Result, Ok, Err, IsSome, refl, sym, ap, ◌∙◌, codes, IfOk}
use Rattle.ns_base.specs.Files.{Files}
use Rattle.ns_load.specs.Answer.{TellsFault}
use Rattle.ns_load.specs.Loaded.{loaded, stopped}
use Rattle.ns_load.specs.declared.fault.LoadCause.{LoadCause}
use Rattle.ns_load.specs.declared.fault.LoadCause.TheVariants.{Missing, TooLong, ReadFault, Spelling}
use Rattle.ns_load.specs.declared.fault.LoadFault.{LoadFault}
use Rattle.ns_load.specs.declared.fault.LoadFault.TheVariants.{At, Memory}
use Rattle.ns_run_outcome.specs.Outcome.{IsEnding, IsMissing}
use Rattle.ns_run_outcome.specs.Report.{spelling_name}
use Rattle.ns_run_outcome.specs.declared.report.Report.{Report}
use Rattle.ns_run_outcome.specs.declared.stop.Stop.{Stop}
use Rattle.ns_run_outcome.specs.laws.Plain.{file_plain, spelling_ends, text_plain, told_plain}
use Rattle.ns_run_files.specs.Programs.{name_of, of_cause, of_fault, of_files, of_loading}
use Rattle.ns_run_files.specs.Refusal.{IsReadFault, IsRefusal}
use Rattle.ns_run_files.specs.Task.{Task}
use Rattle.ns_run_words.specs.Named.{OfSomeName}

-- A refusal that is told is what the files are loaded as.
pub refusal_is : (names : List (List ℕ)) (lib : Bool) (files : Files) (fault : LoadFault) → IsRefusal fault →
    TellsFault names lib files fault → loaded names lib files ≡ stopped fault
refusal_is names lib files (At Missing k) i t = t
refusal_is names lib files (At TooLong k) i t = t
refusal_is names lib files (At ReadFault k) i t = absurd i
refusal_is names lib files (At (Spelling wrong place) k) i t = t
refusal_is names lib files Memory i t = absurd i

-- The report of a refusal is what the files mean.
pub refusal_means : (t : Task) (names : List (List ℕ)) (lib : Bool) (files : Files) (fault : LoadFault) (result : Result Report Stop) →
    TellsFault names lib files fault → IfOk result (λ r. IsRefusal fault) → IfOk result (λ r. r ≡ of_fault names fault) →
    IfOk result (λ r. r ≡ of_files t names lib files)
refusal_means t names lib files fault (Ok r) tells i h = h ∙ ap (of_loading t names lib) (sym (refusal_is names lib files fault i tells))
refusal_means t names lib files fault (Err e) tells i h = tt

pub cause_ends : (file : List ℕ) (cause : LoadCause) → IsEnding (of_cause file cause).status
cause_ends file Missing = tt
cause_ends file TooLong = tt
cause_ends file ReadFault = tt
cause_ends file (Spelling wrong place) = tt

pub fault_ends : (names : List (List ℕ)) (fault : LoadFault) → IsEnding (of_fault names fault).status
fault_ends names (At cause k) = cause_ends (name_of names k) cause
fault_ends names Memory = tt

-- Only the refusal of a file that isn't there says so.
pub cause_says : {P : Type 0} (file : List ℕ) (cause : LoadCause) → (cause ≡ Missing → P) → (name : List ℕ) →
    IsMissing name (of_cause file cause) → P
cause_says file Missing f name m = f refl
cause_says file TooLong f name m = absurd ((file_plain file (codes "TooLong") (λ front. refl)).says name m)
cause_says file ReadFault f name m = absurd ((told_plain []).says name m)
cause_says file (Spelling wrong place) f name m = absurd ((text_plain file place (spelling_name wrong) (spelling_ends wrong)).says name m)

pub fault_says : {P : Type 0} (names : List (List ℕ)) (fault : LoadFault) → ((k : ℕ) → fault ≡ At Missing k → P) → (name : List ℕ) →
    IsMissing name (of_fault names fault) → P
fault_says names (At cause k) f name m = cause_says (name_of names k) cause (λ e. f k (ap (λ why. At why k) e)) name m
fault_says names Memory f name m = absurd ((told_plain []).says name m)

-- What follows where a file couldn't be read.
pub read_fault_at : {P : Type 0} (fault : LoadFault) → IsReadFault fault → ((k : ℕ) → fault ≡ At ReadFault k → P) → P
read_fault_at (At cause k) i f = f k (ap (λ why. At why k) i)
read_fault_at Memory i f = absurd i

-- A file that couldn't be read is there.
pub read_fault_there : (names : List (List ℕ)) (lib : Bool) (files : Files) (fault : LoadFault) → IsReadFault fault →
    TellsFault names lib files fault → OfSomeName names (λ file. IsSome (files file))
read_fault_there names lib files (At Missing k) i t = absurd (cc (i))
read_fault_there names lib files (At TooLong k) i t = absurd (cc (i))
read_fault_there names lib files (At ReadFault k) i t = (k, t.0)
read_fault_there names lib files (At (Spelling wrong place) k) i t = absurd (cc (i))
read_fault_there names lib files Memory i t = absurd i
