use Rattle.std.proofs.Common.{Option, [], ℕ, map, string_bytes}
use Rattle.ns_run.proofs.line.on_number.Goals as goal
use Rattle.ns_run_files.specs.Programs.{of_sample}
use Rattle.ns_run_outcome.specs.Report.{bad_word}
use Rattle.ns_run_outcome.specs.laws.Parts.{made_reports, same_reports}
use Rattle.ns_run_words.specs.Words.{sample_number}

pub returns-in-Some : goal.returns-in-Some
returns-in-Some g c =
    same_reports _ _ _ _ _ _ (λ (number : Option ℕ). []) of_sample _ (sample_number (map string_bytes c.args.names.now)) c.on_sample.result c.in-Some.ensures.is c.on_sample.ensures

pub returns-in-None : goal.returns-in-None
returns-in-None g c =
    same_reports _ _ _ _ _ _ (λ (number : Option ℕ). []) of_sample _ (sample_number (map string_bytes c.args.names.now)) c.or_stop.result c.in-None.ensures.is
    (made_reports _ _ _ _ c.args.shelf.now (bad_word 1) c.bad_word.result c.or_stop.result c.or_stop.ensures c.bad_word.ensures tt)
