-- How a process ends.
use Rattle.std.specs.Prelude.{◌≡◌, ℕ, List, Option}
use Rattle.std.specs.Process.{exit_status}
use Rattle.std.specs.declared.process.ExitCode.{ExitCode}
use Rattle.ns_base.specs.Status.{exit_code}
use Rattle.ns_base.specs.declared.status.Status.{Status}
use Rattle.ns_system.specs.Telling.{WasTold}

-- It ends with a status of which this is so and of what stood on standard error; and then standard error, which shows its bytes
-- and its count of faults so, was told the line of that status, if it has one.
abbrev pub Ends : {E : Type 0} → (written : E → Option (List ℕ)) → (faults : E → ℕ) → (line : Status → Option (List ℕ))
    → (P : Status → Option (List ℕ) → Type 0) → E → ExitCode → Type 0
Ends {E} written faults line P err code =
    (status : Status) × (exit_status code ≡ exit_code status) × ((stood : E) × P status (written stood) × WasTold written faults (line status) stood err)
