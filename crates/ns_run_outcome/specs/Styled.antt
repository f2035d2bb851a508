-- A report in the style that is asked for: lines, or one line of JSON.
use Rattle.std.specs.Prelude.{◌≡◌, Bool, [], Option, Some, None, Result, Ok, Err, IfOk, IsErrOf, if◌then◌else◌}
use Rattle.ns_json.specs.Report.{json_of}
use Rattle.ns_json.specs.declared.saying.Saying.{Saying}
use Rattle.ns_run_outcome.specs.declared.report.Report.{Report}
use Rattle.ns_run_outcome.specs.declared.stop.Stop.{Stop}
use Rattle.ns_run_outcome.specs.declared.stop.Stop.TheVariants.{ReadFault}

-- the report that writes this in JSON, and else does as the other
abbrev pub writes_in_json : Report → Saying → Report
writes_in_json report saying = record report { out = json_of saying; err = [] }

-- a report in JSON: one that isn't told in parts, as that of a bad word, stays as it is
abbrev pub in_json : Report → Option Saying → Report
in_json report None = report
in_json report (Some saying) = writes_in_json report saying

-- a report in JSON where that is asked for
abbrev pub styled : Bool → Report → Report
styled json report = if json then in_json report report.said else report

-- The answer is that report in the style that is asked for, for which memory may be missing; or as it was.
abbrev pub IsStyled : Bool → Result Report Stop → Result Report Stop → Type 0
IsStyled json (Ok report) result = IfOk result (λ r. r ≡ styled json report) × (IsErrOf result ReadFault → ⊥)
IsStyled json (Err stop) result = result ≡ Err stop
