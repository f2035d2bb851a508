-- What is told of the layout of a file.
use Rattle.std.proofs.Common.{◌≡◌, ◌≢◌, ◌∙◌, ◌≤◌, ℕ, cond, length, List, [], Option, Some, None, option_map, take, codes, Result, Ok, Err, IfOk, ap, sym, subst}
use Rattle.std.proofs.lemmas.Bool.{le-ltb}
use Rattle.ns_load.specs.Answer.{IsSpelling}
use Rattle.ns_load.specs.Source.{FileReading, refused, read}
use Rattle.ns_load.specs.declared.fault.LoadCause.TheVariants.{Missing, TooLong, ReadFault, Spelling}
use Rattle.ns_load.specs.declared.fault.LoadFault.{LoadFault}
use Rattle.ns_load.specs.declared.fault.LoadFault.TheVariants.{At, Memory}
use Rattle.ns_run_files.specs.Programs.{of_format_file, of_layout, of_own_fault, of_source}
use Rattle.ns_run_files.specs.Refusal.{IsReadFault}
use Rattle.ns_run_outcome.specs.Outcome.{IsEnding, IsMissing}
use Rattle.ns_run_outcome.specs.Report.{refused_file, spelling_name}
use Rattle.ns_run_outcome.specs.declared.report.Report.{Report}
use Rattle.ns_run_outcome.specs.declared.stop.Stop.{Stop}
use Rattle.ns_run_outcome.specs.laws.Cut.{cut_same}
use Rattle.ns_run_outcome.specs.laws.Plain.{IsPlain, spelling_ends, text_plain, told_plain}

-- The refusal of a text is what is told of it.
pub fault_told : (name source : List ℕ) (reading : FileReading) (fault : LoadFault) (result : Result Report Stop) →
    (fault ≢ Memory → reading ≡ refused fault) → IfOk result (λ r. fault ≢ Memory) → IfOk result (λ r. r ≡ of_own_fault name fault) →
    IfOk result (λ r. r ≡ of_layout name source reading)
fault_told name source reading fault (Ok r) is found told = told ∙ ap (of_layout name source) (sym (is found))
fault_told name source reading fault (Err why) is found told = tt

-- What is told of a source that isn't too long.
pub short_told : (name source : List ℕ) (result : Result Report Stop) → length source ≤ 1048576 →
    IfOk result (λ r. r ≡ of_layout name source (read 0 source)) → IfOk result (λ r. r ≡ of_source name source)
short_told name source result short told =
    subst (λ long. IfOk result (λ r. r ≡ cond long (refused_file name (codes "TooLong")) (of_layout name source (read 0 source))))
    (sym (le-ltb 1048576 (length source) short)) told

-- Such a refusal ends as one may, and doesn't say that a file isn't there.
pub fault_plain : (name : List ℕ) (fault : LoadFault) → IsSpelling fault → IsPlain (of_own_fault name fault)
fault_plain name (At Missing file) i = absurd i
fault_plain name (At TooLong file) i = absurd i
fault_plain name (At ReadFault file) i = absurd i
fault_plain name (At (Spelling wrong place) file) i = text_plain name place (spelling_name wrong) (spelling_ends wrong)
fault_plain name Memory i = told_plain []

pub fault_read : (fault : LoadFault) → IsSpelling fault → IsReadFault fault → ⊥
fault_read (At Missing file) i f = i
fault_read (At TooLong file) i f = i
fault_read (At ReadFault file) i f = i
fault_read (At (Spelling wrong place) file) i f = cc (f)
fault_read Memory i f = f

-- What is plain, where it is what was made.
pub plain_ends : (made : Result Report Stop) (report : Report) → IfOk made (λ r. r ≡ report) → IsPlain report → IfOk made (λ r. IsEnding r.status)
plain_ends (Ok r) report is plain = subst (λ (q : Report). IsEnding q.status) (sym is) plain.ends
plain_ends (Err why) report is plain = tt

pub plain_says : (made : Result Report Stop) (report : Report) → IfOk made (λ r. r ≡ report) → IsPlain report →
    IfOk made (λ r. (file : List ℕ) → IsMissing file r → ⊥)
plain_says (Ok r) report is plain = λ file m. plain.says file (subst (IsMissing file) is m)
plain_says (Err why) report is plain = tt

-- What is told of the bytes that were loaded is told of the file.
pub source_cut : (name : List ℕ) (text : Option (List ℕ)) (bytes : List ℕ) → option_map (take 1048577) text ≡ Some bytes →
    of_source name bytes ≡ of_format_file name text
source_cut name None bytes h = cc
source_cut name (Some whole) bytes h =
    let e : take 1048577 whole ≡ bytes = cc in
    ap (of_source name) (sym e) ∙ cut_same 1048576 whole (refused_file name (codes "TooLong")) (λ source. of_layout name source (read 0 source))
