-- What is said of reports is said of them in the style that is asked for.
use Rattle.std.proofs.Common.{◌≡◌, ℕ, Bool, true, false, List, [], ◌∷◌, Option, Some, None, Result, Ok, Err, IfOk, sym, subst}
use Rattle.std.specs.Prelude.{IsSomeAnd, slice_get}
use Rattle.ns_base.specs.Files.{Files}
use Rattle.ns_base.specs.Count.{Rose}
use Rattle.ns_json.specs.declared.saying.Saying.{Saying}
use Rattle.ns_run_outcome.specs.Outcome.{IsEnding, IsMissing}
use Rattle.ns_run_outcome.specs.Stated.{Reports}
use Rattle.ns_run_outcome.specs.Styled.{IsStyled, in_json, styled}
use Rattle.ns_run_outcome.specs.declared.report.Report.{Report}
use Rattle.ns_run_outcome.specs.declared.stop.Stop.{Stop}
use Rattle.ns_run_outcome.specs.laws.Parts.{whatever_texts}
use Rattle.ns_run_words.specs.Named.{OfSomeName, OfSomeTexts}

-- ---- one report

json_ends : (report : Report) (said : Option Saying) → IsEnding report.status → IsEnding (in_json report said).status
json_ends report None ends = ends
json_ends report (Some saying) ends = ends

-- Its status is the same.
pub styled_ends : (json : Bool) (report : Report) → IsEnding report.status → IsEnding (styled json report).status
styled_ends false report ends = ends
styled_ends true report ends = json_ends report report.said ends

json_missing : (report : Report) (said : Option Saying) (file : List ℕ) → IsMissing file (in_json report said) → IsMissing file report
json_missing report None file is = is
json_missing report (Some saying) [] is = absurd (cc (is.1))
json_missing report (Some saying) (x ∷ file) is = absurd (cc (is.1))

-- In JSON no line says that a file isn't there.
pub styled_missing : (json : Bool) (report : Report) (file : List ℕ) → IsMissing file (styled json report) → IsMissing file report
styled_missing false report file is = is
styled_missing true report file is = json_missing report report.said file is

-- ---- the answer of a part

same_ok : (result : Result Report Stop) (report : Report) (P : Report → Type 0) → IfOk result (λ r. r ≡ report) → P report → IfOk result P
same_ok (Ok r) report P is h = subst P (sym is) h
same_ok (Err why) report P is h = tt

of_some : (o : Option (List ℕ)) (P Q : List ℕ → Type 0) → ((name : List ℕ) → P name → Q name) → IsSomeAnd o P → IsSomeAnd o Q
of_some (Some name) P Q f h = f name h
of_some None P Q f h = h

some_name : (names : List (List ℕ)) (P Q : List ℕ → Type 0) → ((name : List ℕ) → P name → Q name) → OfSomeName names P → OfSomeName names Q
some_name names P Q f (k, s) = (k, of_some (slice_get names k) P Q f s)

-- What a part says of its report is said of it in the style that is asked for.
pub styled_reports :
    {S : Type 0} (holds : S → Option Files) (misses faults store_faults : S → ℕ) (old new : S) (names : List (List ℕ)) (meant : List (Option (List ℕ)) → Report) (json : Bool) (made result : Result Report Stop)
    → Reports holds misses faults store_faults old new names meant made → IsStyled json made result
    → Reports holds misses faults store_faults old new names (λ texts. styled json (meant texts)) result
styled_reports holds misses faults store_faults old new names meant json (Ok report) result h (is, read) =
    let t : OfSomeTexts names (λ texts. report ≡ meant texts) = h.texts in
    record {
      told = λ files e. subst (λ (q : Report). IfOk result (λ r. r ≡ styled json q)) (h.told files e) is;
      texts = (t.0, t.1, subst (λ (q : Report). IfOk result (λ r. r ≡ styled json q)) t.2 is);
      ending = same_ok result (styled json report) (λ r. IsEnding r.status) is (styled_ends json report h.ending);
      only_read = h.only_read;
      read_fault = λ e. absurd (read e);
      read_fault_there = λ files e f. absurd (read f);
      missing = same_ok result (styled json report) (λ r. OfSomeName names (λ file. IsMissing file r) → Rose (misses old) (misses new)) is
          (λ some. h.missing (some_name names (λ file. IsMissing file (styled json report)) (λ file. IsMissing file report) (styled_missing json report) some));
    }
styled_reports holds misses faults store_faults old new names meant json (Err why) result h e =
    subst (λ q. Reports holds misses faults store_faults old new names (λ texts. styled json (meant texts)) q) (sym e)
    (record {
      told = λ files f. tt;
      texts = whatever_texts names (Unit {0}) tt;
      ending = tt;
      only_read = h.only_read;
      read_fault = h.read_fault;
      read_fault_there = h.read_fault_there;
      missing = tt;
    })
