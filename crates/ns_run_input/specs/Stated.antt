-- What the reading of an input says.
use Rattle.std.specs.Prelude.{◌≡◌, ℕ, List, Option, Some, Result, IfOk, IsErrOf, IsSome}
use Rattle.ns_base.specs.Count.{Rose}
use Rattle.ns_base.specs.Files.{Files}
use Rattle.ns_base.specs.Shelf.{OnlyRead}
use Rattle.ns_run_input.specs.Input.{InputRead, input_of, reads, refuses, seen}
use Rattle.ns_run_input.specs.declared.task.Input as inputs
use Rattle.ns_run_outcome.specs.Outcome.{IsEnding, IsMissing}
use Rattle.ns_run_outcome.specs.declared.stop.Stop.{Stop}
use Rattle.ns_run_outcome.specs.declared.stop.Stop.TheVariants.{ReadFault}

-- A refusal has a status of work that was done, and where it says that a file isn't there, this is so.
abbrev pub MayRefuse : Type 0 → InputRead → Type 0
MayRefuse P (reads text) = Unit {0}
MayRefuse P (refuses report) = IsEnding report.status × ((name : List ℕ) → IsMissing name report → P)

-- The answer of what reads the file of that name: what is read of it, or why it can't be. The shelf, before and after, shows its files
-- and its counts of misses, failed loads and failed stores so.
pub record ReadsInput {S : Type 0} (holds : S → Option Files) (misses faults store_faults : S → ℕ) (old new : S)
    (name : List ℕ) (result : Result inputs.Input Stop) : Type 0 where
  -- Over files that are told, the text is that of the file.
  pub told : (files : Files) → holds old ≡ Some files → IfOk result (λ input. seen input ≡ input_of name (files name))
  -- There is such a text, or none.
  pub texts : (text : Option (List ℕ)) × IfOk result (λ input. seen input ≡ input_of name text)
  -- Where a file is refused as one that isn't there, the count of such files rose.
  pub refusal : IfOk result (λ input. MayRefuse (Rose (misses old) (misses new)) (seen input))
  -- No file was stored, and no count fell.
  pub only_read : OnlyRead holds misses faults store_faults old new
  -- Where the file couldn't be read, the count of failed loads rose, and if files are told, it is there.
  pub read_fault : IsErrOf result ReadFault → Rose (faults old) (faults new)
  pub read_fault_there : (files : Files) → holds old ≡ Some files → IsErrOf result ReadFault → IsSome (files name)
