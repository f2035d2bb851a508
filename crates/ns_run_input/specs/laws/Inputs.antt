-- What is done with inputs.
use Rattle.std.proofs.Common.{◌≡◌, ℕ, List, [], ◌∷◌, ◌++◌, Option, Result, Ok, Err, refl, ◌∙◌}
use Rattle.ns_base.specs.Files.{Files}
use Rattle.ns_run_input.specs.Input.{InputRead, input_of, read_then, reads, refuses, with_inputs}
use Rattle.ns_run_outcome.specs.Stated.{Reports}
use Rattle.ns_run_outcome.specs.declared.report.Report.{Report}
use Rattle.ns_run_outcome.specs.declared.stop.Stop.{Stop}
use Rattle.std.specs.Prelude.{map}

-- What does the same with all arguments does the same with inputs behind them.
pub inputs_same : (run other : List (List ℕ) → Report) (arguments names : List (List ℕ)) (texts : List (Option (List ℕ))) →
    ((each : List (List ℕ)) → run each ≡ other each) → with_inputs run arguments names texts ≡ with_inputs other arguments names texts
inputs_same run other arguments [] texts same = same arguments
inputs_same run other arguments (name ∷ names) [] same = refl
inputs_same run other arguments (name ∷ names) (text ∷ texts) same =
    elim (input_of name text) as (λ (input : InputRead). read_then (λ read. with_inputs run (arguments ++ read ∷ []) names texts) input
    ≡ read_then (λ read. with_inputs other (arguments ++ read ∷ []) names texts) input) [
      | reads read ↦ inputs_same run other (arguments ++ read ∷ []) names texts same
      | refuses report ↦ refl
    ]

-- What is reported of a meaning is reported of one that is the same over all texts.
pub same_meaning :
    {S : Type 0} (holds : S → Option Files) (misses faults store_faults : S → ℕ) (old new : S) (names : List (List ℕ)) (meant other : List (Option (List ℕ)) → Report) (result : Result Report Stop) →
    ((texts : List (Option (List ℕ))) → meant texts ≡ other texts) → Reports holds misses faults store_faults old new names meant result
    → Reports holds misses faults store_faults old new names other result
same_meaning holds misses faults store_faults old new names meant other (Ok r) same h = record {
  told = λ files e. h.told files e ∙ same (map files names);
  texts = (h.texts.0, h.texts.1, h.texts.2 ∙ same h.texts.0);
  ending = h.ending;
  only_read = h.only_read;
  read_fault = h.read_fault;
  read_fault_there = h.read_fault_there;
  missing = h.missing;
}
same_meaning holds misses faults store_faults old new names meant other (Err why) same h = record {
  told = λ files e. tt;
  texts = (h.texts.0, h.texts.1, tt);
  ending = tt;
  only_read = h.only_read;
  read_fault = h.read_fault;
  read_fault_there = h.read_fault_there;
  missing = tt;
}
