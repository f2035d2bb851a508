-- What the actors of a program write.
use Rattle.std.specs.Prelude.{[], None, Some}
use Rattle.ns_actors_rounds.specs.Source as source
use Rattle.ns_actors_rounds.specs.Source.{has_acted, has_no_code}
use Rattle.ns_json.specs.declared.saying.Saying.TheVariants.{Acted}
use Rattle.ns_run_outcome.specs.Report.{too_large}
use Rattle.ns_run_outcome.specs.declared.report.Report.{Report}

-- Actors tell of themselves in the output, and end with their status.
abbrev pub acts_report : source.Acting → Report
acts_report (has_no_code kind) = too_large kind
acts_report (has_acted actors) =
    record { out = actors.told.out; err = []; status = actors.told.status; stored = None; said = Some (Acted actors.parts) }
