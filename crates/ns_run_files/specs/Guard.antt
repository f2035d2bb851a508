-- An image that is stored only where no other file stands.
use Rattle.std.specs.Prelude.{◌≡◌, ℕ, Bool, List, [], ◌∷◌, Option, Some, None, Result, IfOk, IsErrOf, IsSome, codes, take, if◌then◌else◌}
use Rattle.std.specs.Str.{bytes_eq}
use Rattle.ns_base.specs.Count.{Rose}
use Rattle.ns_base.specs.Files.{Files}
use Rattle.ns_base.specs.Shelf.{OnlyRead}
use Rattle.ns_run_files.specs.Programs.{of_texts}
use Rattle.ns_run_files.specs.Task.{Builds}
use Rattle.ns_run_outcome.specs.Outcome.{IsEnding, IsMissing}
use Rattle.ns_run_outcome.specs.Report.{bad_word, refused_file}
use Rattle.ns_run_outcome.specs.Store.{FileStored}
use Rattle.ns_run_outcome.specs.declared.report.Report.{Report}
use Rattle.ns_run_outcome.specs.declared.stop.Stop.{Stop}
use Rattle.ns_run_outcome.specs.declared.stop.Stop.TheVariants.{ReadFault}

-- a report that stores over a file that begins with these bytes, where an image does; or the refusal to do so
abbrev pub of_front : List ℕ → List ℕ → Report → Report
of_front name front report = if bytes_eq front (codes "NSPK") then report else refused_file name (codes "Exists")

-- a report that stores over the file of that name and text, if there is one
abbrev pub of_text_over : List ℕ → Option (List ℕ) → Report → Report
of_text_over name None report = report
of_text_over name (Some bytes) report = of_front name (take 4 bytes) report

-- a report that stores this, or nothing
abbrev pub of_storing : List ℕ → Option (List ℕ) → Report → Option FileStored → Report
of_storing name text report None = report
of_storing name text report (Some stored) = of_text_over name text report

-- That report; but where it stores, and the file of that name and text is there and is no image, the refusal to store over it.
abbrev pub guarded : List ℕ → Option (List ℕ) → Report → Report
guarded name text report = of_storing name text report report.stored

-- The image of the program of files of these names is stored under that name, where no other file stands. The first text is that of the
-- file under the image's name, and those of the program stand behind it.
abbrev pub of_built_to : Bool → List ℕ → List (List ℕ) → List (Option (List ℕ)) → Report
of_built_to lib image names [] = bad_word 1
of_built_to lib image names (text ∷ texts) = guarded image text (of_texts (Builds image) names lib texts)

-- The answer of what guards the file of that name: the report as it is guarded by a text of that file, or why there is none. The shelf,
-- before and after, shows its files and its counts of misses, failed loads and failed stores so.
pub record Guards {S : Type 0} (holds : S → Option Files) (misses faults store_faults : S → ℕ) (old new : S)
    (name : List ℕ) (report : Report) (result : Result Report Stop) : Type 0 where
  -- Over files that are told, the text is that of the file.
  pub told : (files : Files) → holds old ≡ Some files → IfOk result (λ r. r ≡ guarded name (files name) report)
  -- There is such a text, or none.
  pub texts : (text : Option (List ℕ)) × IfOk result (λ r. r ≡ guarded name text report)
  -- A status of work that was done leads to such a status.
  pub ending : IsEnding report.status → IfOk result (λ r. IsEnding r.status)
  -- No file was stored, and no count fell.
  pub only_read : OnlyRead holds misses faults store_faults old new
  -- Where the file couldn't be read, the count of failed loads rose, and if files are told, it is there.
  pub read_fault : IsErrOf result ReadFault → Rose (faults old) (faults new)
  pub read_fault_there : (files : Files) → holds old ≡ Some files → IsErrOf result ReadFault → IsSome (files name)
  -- No other file is refused as one that isn't there.
  pub missing : IfOk result (λ r. (file : List ℕ) → IsMissing file r → IsMissing file report)
