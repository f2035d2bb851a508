use Rattle.std.proofs.Common.{map, string_bytes}
use Rattle.ns_run.proofs.PartLaws.{reading_reports}
use Rattle.ns_run.proofs.top.work.Goals as goal
use Rattle.ns_run_outcome.specs.Report.{bad_word}
use Rattle.ns_run_outcome.specs.laws.Parts.{made_reports}
use Rattle.ns_run_outcome.specs.laws.Styling.{styled_reports}
use Rattle.ns_run_words.specs.Words.{bad}

pub returns-in-Ok : goal.returns-in-Ok
returns-in-Ok g c =
    reading_reports _ _ _ _ _ _ _ (map string_bytes c.args.line.now) c.styled.result c.in-Ok.ensures.reading
    (styled_reports _ _ _ _ _ _ _ _ _ c.on_line.result c.styled.result c.on_line.ensures c.styled.ensures)

pub returns-in-Err : goal.returns-in-Err
returns-in-Err g c =
    reading_reports _ _ _ _ _ _ (bad c.in-Err.field-0.0) (map string_bytes c.args.line.now) c.or_stop.result c.in-Err.ensures.reading
    (made_reports _ _ _ _ c.args.shelf.now (bad_word c.in-Err.field-0.0) c.bad_word.result c.or_stop.result c.or_stop.ensures c.bad_word.ensures tt)
