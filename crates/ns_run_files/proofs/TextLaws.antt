-- The texts of which a report tells, and names of files.
use Rattle.std.proofs.Common.{◌≡◌, ℕ, List, [], ◌∷◌, Bool, true, Option, Result, Ok, Err, IfOk, IsUtf8, ap, sym, ◌∙◌, arith, MatchResult}
use Rattle.std.specs.Prelude.{All}
use Rattle.std.proofs.lemmas.Bool.Decides.{nat_tests}
use Rattle.std.proofs.lemmas.List.Elements.{All-cons, All-head, All-nil, All-tail}
use Rattle.ns_base.specs.declared.no_memory.NoMemory.{NoMemory}
use Rattle.ns_base.specs.declared.place.Place.{Place}
use Rattle.ns_load.specs.Answer.{IsFaultOfTexts}
use Rattle.ns_load.specs.Loaded.{file_names, loaded_texts, stopped, units}
use Rattle.ns_load.specs.declared.fault.LoadCause.TheVariants.{Missing, TooLong, ReadFault, Spelling}
use Rattle.ns_load.specs.declared.fault.LoadFault.{LoadFault}
use Rattle.ns_load.specs.declared.fault.LoadFault.TheVariants.{At, Memory}
use Rattle.ns_run_files.specs.Programs.{of_fault, of_loading, of_texts, of_units}
use Rattle.ns_run_files.specs.Refusal.{IsRefusal}
use Rattle.ns_run_files.specs.Task.{Task}
use Rattle.ns_run_outcome.specs.declared.report.Report.{Report}
use Rattle.ns_run_outcome.specs.declared.stop.Stop.{Stop}
use Rattle.ns_run_outcome.specs.declared.stop.Stop.TheVariants as stop
use Rattle.ns_run_outcome.specs.laws.Plain.{stop_keeps}
use Rattle.ns_run_words.specs.FileName.{is_file_name}
use Rattle.ns_run_words.specs.Forms.{AreItems}
use Rattle.ns_run_words.specs.declared.form.Item.TheVariants.{File}
use Rattle.ns_scope.specs.Whole.{NamesFile}
use Rattle.ns_tree.specs.Plain as p

-- A word that can name a file does so.
pub name_is_file : (name : List ℕ) → IsUtf8 name → is_file_name name ≡ true → NamesFile name
name_is_file [] u e = absurd (cc (e))
name_is_file (b ∷ bs) u e = (u, (λ h. cc (h)), grind (arith, nat_tests, e))

pub names_are_files : (names : List (List ℕ)) → All IsUtf8 names → AreItems File names → All NamesFile names
names_are_files [] u a = All-nil NamesFile
names_are_files (name ∷ names) u a =
    All-cons NamesFile name names (name_is_file name (All-head IsUtf8 name names u) a.0) (names_are_files names (All-tail IsUtf8 name names u) a.1)

-- A refusal of texts is what they are loaded as.
pub texts_refused : (texts : List (Option (List ℕ))) (lib : Bool) (fault : LoadFault) → IsRefusal fault → IsFaultOfTexts texts lib fault →
    loaded_texts texts lib ≡ stopped fault
texts_refused texts lib (At Missing k) i t = t
texts_refused texts lib (At TooLong k) i t = t
texts_refused texts lib (At ReadFault k) i t = absurd i
texts_refused texts lib (At (Spelling wrong place) k) i t = t
texts_refused texts lib Memory i t = absurd i

-- The report of a refusal is what the texts mean.
pub refusal_of_texts :
    (t : Task) (names : List (List ℕ)) (lib : Bool) (texts : List (Option (List ℕ))) (fault : LoadFault) (result : Result Report Stop) →
    IsFaultOfTexts texts lib fault
    → IfOk result (λ r. IsRefusal fault) → IfOk result (λ r. r ≡ of_fault names fault) → IfOk result (λ r. r ≡ of_texts t names lib texts)
refusal_of_texts t names lib texts fault (Ok r) tells i h = h ∙ ap (of_loading t names lib) (sym (texts_refused texts lib fault i tells))
refusal_of_texts t names lib texts fault (Err e) tells i h = tt

-- The report of units is what the texts mean of which they are.
pub units_of_texts : (t : Task) (own names : List (List ℕ)) (lib : Bool) (texts : List (Option (List ℕ))) (files : List (List ℕ)) (trees : List p.SourceUnit) (places : List (List Place)) (made : Result Report NoMemory) (result : Result Report Stop)
    → MatchResult made (λ r. result ≡ Ok r) (λ _. result ≡ Err stop.Memory) → names ≡ own → files ≡ file_names names lib → loaded_texts texts lib ≡ units trees places
    → IfOk made (λ r. r ≡ of_units t own files trees places) → IfOk result (λ r. r ≡ of_texts t names lib texts)
units_of_texts t own names lib texts files trees places made result kept same named loaded h =
    stop_keeps made result (λ r. r ≡ of_texts t names lib texts) kept (each made h)
  where
    is : of_units t own files trees places ≡ of_texts t names lib texts
    is = ap (λ n. of_units t n files trees places) (sym same) ∙ ap (λ f. of_units t names f trees places) named ∙ ap (of_loading t names lib) (sym loaded)

    each : (made : Result Report NoMemory) → IfOk made (λ r. r ≡ of_units t own files trees places) → IfOk made (λ r. r ≡ of_texts t names lib texts)
    each (Ok r) k = k ∙ is
    each (Err e) k = tt
