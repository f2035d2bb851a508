-- What each part of a command says of the report that it gives.
use Rattle.std.specs.Prelude.{◌≡◌, ℕ, List, map, Option, Some, Result, IfOk, IsErrOf, IsSome}
use Rattle.ns_base.specs.Count.{Rose}
use Rattle.ns_base.specs.Files.{Files}
use Rattle.ns_base.specs.Shelf.{OnlyRead}
use Rattle.ns_run_words.specs.Named.{OfSomeTexts, OfSomeName}
use Rattle.ns_run_outcome.specs.Outcome.{IsEnding, IsMissing}
use Rattle.ns_run_outcome.specs.declared.report.Report.{Report}
use Rattle.ns_run_outcome.specs.declared.stop.Stop.TheVariants.{ReadFault}
use Rattle.ns_run_outcome.specs.declared.stop.Stop.{Stop}

-- The answer of a part of a command that reads the files of these names: a report of what is meant by their texts, or why there
-- is none. The shelf, before and after, shows its files and its counts of misses, failed loads and failed stores so.
pub record Reports {S : Type 0} (holds : S → Option Files) (misses faults store_faults : S → ℕ) (old new : S)
    (names : List (List ℕ)) (meant : List (Option (List ℕ)) → Report) (result : Result Report Stop) : Type 0 where
  -- Over files that are told, the report is what they mean.
  pub told : (files : Files) → holds old ≡ Some files → IfOk result (λ r. r ≡ meant (map files names))
  -- There is a text, or none, for each of these names, and the report is what these mean.
  pub texts : OfSomeTexts names (λ texts. IfOk result (λ r. r ≡ meant texts))
  -- The report has a status of work that was done.
  pub ending : IfOk result (λ r. IsEnding r.status)
  -- No file was stored, and no count fell.
  pub only_read : OnlyRead holds misses faults store_faults old new
  -- Where a file couldn't be read, the count of failed loads rose.
  pub read_fault : IsErrOf result ReadFault → Rose (faults old) (faults new)
  -- Where a file couldn't be read and files are told, one of these names is that of a file that is there.
  pub read_fault_there : (files : Files) → holds old ≡ Some files → IsErrOf result ReadFault → OfSomeName names (λ file. IsSome (files file))
  -- Where the report refuses one of these as a file that isn't there, the count of such files rose.
  pub missing : IfOk result (λ r. OfSomeName names (λ file. IsMissing file r) → Rose (misses old) (misses new))
