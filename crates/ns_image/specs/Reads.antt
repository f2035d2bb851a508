-- What a function that reads answers: what its reader gives, unless memory ran out.
use Rattle.std.specs.Prelude.{◌≡◌, ℕ, List, Result, Ok, Err}
use Rattle.ns_code.specs.declared.program.CodeProgram.{CodeProgram}
use Rattle.ns_image.specs.declared.fault.ImageFault.{ImageFault}
use Rattle.ns_image.specs.declared.fault.ImageFault.TheVariants as f
use Rattle.ns_image.specs.declared.fault.Fault.{Fault}
use Rattle.ns_image.specs.declared.fault.Fault.TheVariants.{Truncated, Bad, Memory}
use Rattle.ns_image.specs.Read.{Outcome, got, truncated, bad}

-- The outcome is that fault. Want of memory says nothing of it.
abbrev pub FailsReading : {A : Type 0} → Outcome A → Fault → Type 0
FailsReading outcome Truncated = outcome ≡ truncated
FailsReading outcome (Bad left) = outcome ≡ bad left
FailsReading outcome Memory = Unit {0}

-- The outcome is the value, as it is shown, and the bytes that are left; or the fault.
abbrev pub ReadsAs : {X A : Type 0} → (X → A) → Outcome A → Result X Fault → List ℕ → Type 0
ReadsAs shown outcome (Ok x) rest = outcome ≡ got (shown x) rest
ReadsAs shown outcome (Err fault) rest = FailsReading outcome fault

abbrev pub ReadsBytes : {A : Type 0} → Outcome A → Result A Fault → List ℕ → Type 0
ReadsBytes outcome result rest = ReadsAs (λ a. a) outcome result rest

-- What reading answers: the code, or that fault. Want of memory says nothing of it.
abbrev pub ReadingAnswers : Result CodeProgram ImageFault → Result CodeProgram ImageFault → Type 0
ReadingAnswers read (Ok code) = read ≡ Ok code
ReadingAnswers read (Err f.Memory) = Unit {0}
ReadingAnswers read (Err f.NotAnImage) = read ≡ Err f.NotAnImage
ReadingAnswers read (Err f.BadVersion) = read ≡ Err f.BadVersion
ReadingAnswers read (Err f.Truncated) = read ≡ Err f.Truncated
ReadingAnswers read (Err (f.BadField at)) = read ≡ Err (f.BadField at)
ReadingAnswers read (Err f.Trailing) = read ≡ Err f.Trailing
