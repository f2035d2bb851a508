-- What the texts of a command's files mean.
use Rattle.std.proofs.Common.{ℕ, List}
use Rattle.ns_run.specs.Outcome.{OverTexts}
use Rattle.ns_run_outcome.specs.declared.report.Report.{Report}

-- What follows of the meaning over any texts.
pub over_other : (words : List (List ℕ)) (P Q : Report → Type 0) → ((report : Report) → P report → Q report) → OverTexts words P →
    OverTexts words Q
over_other words P Q f (texts, count, h) = (texts, count, f _ h)
