-- The run of a program without static faults.
use Rattle.std.specs.Prelude.{ℕ, List, true, false}
use Rattle.ns_base.specs.declared.limits.Limits.{Limits}
use Rattle.ns_facets.specs.declared.row.Grants.{Grants}
use Rattle.ns_resolved.specs.Program.{Meant}
use Rattle.ns_model.specs.Whole.{RunReport, meaning_of_run}
use Rattle.ns_run_code.specs.declared.run.Ran.{Ran}

-- what a command grants: console, kernel and mirrors
abbrev pub granted : Grants
granted = record { console = true; kernel = true; mirrors = true; board = false }

abbrev pub ran_of : RunReport → Ran
ran_of report = record { output = report.output; line = report.line; status = report.status; counters = report.counters }

-- what a program's source means, run within these limits with these arguments
abbrev pub meant_run : Meant → Limits → List (List ℕ) → Ran
meant_run meant limits arguments = ran_of (meaning_of_run meant arguments granted limits)
