use Rattle.std.proofs.Common.{◌≡◌, IfOk, String, Global, List, map, string_bytes, ap, subst, ◌∙◌}
use Rattle.ns_host.proofs.Pieces.{same_meaning}
use Rattle.ns_host.proofs.call.reported.Goals as goal
use Rattle.ns_host.specs.Host.{files_in, words_in}
use Rattle.ns_run_outcome.specs.declared.report.Report.{Report}

pub returns-clause-meant : goal.returns-clause-meant
returns-clause-meant c =
    let same = same_meaning (map string_bytes c.as_slice.result.now) (words_in c.args.words c.args.lengths.now c.args.bytes.now) c.in_ok-words.field-0.files.items
    (files_in c.args.words c.args.lengths.now c.args.bytes.now)
    (ap (λ (items : List (String Global)). map string_bytes items) c.as_slice.ensures.value ∙ c.in_ok-words.ensures.words) c.in_ok-words.ensures.files in
    subst (λ (meant : Report). IfOk c.worked.result (λ report. report ≡ meant)) same c.worked.ensures.meant
