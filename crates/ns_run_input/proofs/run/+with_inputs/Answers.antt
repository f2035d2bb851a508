use Rattle.std.proofs.Common.{◌++◌, ◌∷◌, ◌-◌, [], List, None, Some, ap, drop, length, map, string_bytes, take, ℕ}
use Rattle.ns_run_input.proofs.InputLaws.{code_plain, no_options, read_reports, refusal_reports, stop_reports, texts_of}
use Rattle.ns_run_input.proofs.run.+with_inputs.Goals as goal
use Rattle.ns_run_input.specs.Input.{code_report, seen, with_inputs}
use Rattle.ns_run_input.specs.laws.Behind.{plain_missing}
use Rattle.ns_run_outcome.specs.laws.Parts.{made_reports, no_memory_reports, same_reports}
use Rattle.ns_run_words.specs.Options.{texts_among}

pub returns-in-empty-clause-reports : goal.returns-in-empty-clause-reports
returns-in-empty-clause-reports g t c =
    let run = code_report c.args.task.telling c.args.task.limits c.args.code in
    let arguments = c.args.arguments.items in
    same_reports _ _ _ _ _ _ (λ (names : List (List ℕ)). names) (λ names. with_inputs run arguments names) [] (texts_among (map string_bytes c.args.options.now)) c.or_stop.result
    (no_options string_bytes c.args.options.now c.in-empty.len_below)
    (same_reports _ _ _ _ _ _ (λ (each : List (List ℕ)). []) (λ each. with_inputs run each []) c.as_slice.result.now arguments c.or_stop.result c.as_slice.ensures.value
    (made_reports _ _ _ _ c.args.shelf.now (run c.as_slice.result.now) c.code_report.result c.or_stop.result c.or_stop.ensures c.code_report.ensures
    (code_plain c.args.task.telling c.args.task.limits c.args.code c.as_slice.result.now).ends))

pub returns-in-empty-clause-missing : goal.returns-in-empty-clause-missing
returns-in-empty-clause-missing g t c =
    plain_missing _ (code_report c.args.task.telling c.args.task.limits c.args.code c.as_slice.result.now) c.code_report.result c.or_stop.result c.or_stop.ensures c.code_report.ensures
    (code_plain c.args.task.telling c.args.task.limits c.args.code c.as_slice.result.now)

pub returns-in-None-clause-reports : goal.returns-in-None-clause-reports
returns-in-None-clause-reports g t c =
    let run = code_report c.args.task.telling c.args.task.limits c.args.code in
    let rest = texts_among (map string_bytes (take (length c.args.options.now - 1) (drop 1 c.args.options.now))) in
    same_reports _ _ _ _ _ _ (λ (names : List (List ℕ)). names) (λ names. with_inputs run c.args.arguments.items names) rest (texts_among (map string_bytes c.args.options.now)) c.with_inputs.result
    (texts_of string_bytes c.args.options.now c.option-item.result c.as_str.result.now None c.in-len1-up.len_at_least c.option-item.is c.as_str.ensures.value c.in-None.ensures)
    c.with_inputs.ensures.reports

pub returns-in-Ok-clause-reports : goal.returns-in-Ok-clause-reports
returns-in-Ok-clause-reports g t c =
    let run = code_report c.args.task.telling c.args.task.limits c.args.code in
    let rest = texts_among (map string_bytes (take (length c.args.options.now - 1) (drop 1 c.args.options.now))) in
    let arguments = c.args.arguments.items in
    let name = c.in-Some.name.now in
    let text = c.in-Ok-Read.text in
    same_reports _ _ _ _ _ _ (λ (names : List (List ℕ)). names) (λ names. with_inputs run arguments names) (name ∷ rest) (texts_among (map string_bytes c.args.options.now)) c.with_inputs-in-Ok.result
    (texts_of string_bytes c.args.options.now c.option-item.result c.as_str.result.now (Some name) c.in-len1-up.len_at_least c.option-item.is c.as_str.ensures.value c.in-Some.ensures)
    (read_reports _ _ _ _ c.args.shelf.now c.input.new.shelf c.with_inputs-in-Ok.new.shelf run arguments rest name text c.in-Ok-Read.field-0 c.with_inputs-in-Ok.result (ap seen c.in-Ok-Read.field-0-is) c.in-Ok-Read.ensures
    (same_reports _ _ _ _ _ _ (λ (each : List (List ℕ)). rest) (λ each. with_inputs run each rest) c.in-Ok.more.items (arguments ++ text ∷ []) c.with_inputs-in-Ok.result c.in-Ok.ensures c.with_inputs-in-Ok.ensures.reports)
    c.with_inputs-in-Ok.ensures.missing)

pub returns-in-Err-with_argument-clause-reports : goal.returns-in-Err-with_argument-clause-reports
returns-in-Err-with_argument-clause-reports g t c = no_memory_reports _ _ _ _ _ _ _ _ c.in-Ok-Read.ensures.only_read

pub returns-in-Ok-Refused-clause-reports : goal.returns-in-Ok-Refused-clause-reports
returns-in-Ok-Refused-clause-reports g t c =
    let run = code_report c.args.task.telling c.args.task.limits c.args.code in
    let rest = texts_among (map string_bytes (take (length c.args.options.now - 1) (drop 1 c.args.options.now))) in
    let arguments = c.args.arguments.items in
    let name = c.in-Some.name.now in
    same_reports _ _ _ _ _ _ (λ (names : List (List ℕ)). names) (λ names. with_inputs run arguments names) (name ∷ rest) (texts_among (map string_bytes c.args.options.now)) _
    (texts_of string_bytes c.args.options.now c.option-item.result c.as_str.result.now (Some name) c.in-len1-up.len_at_least c.option-item.is c.as_str.ensures.value c.in-Some.ensures)
    (refusal_reports _ _ _ _ c.args.shelf.now c.input.new.shelf run arguments rest name c.in-Ok-Refused.field-0 c.in-Ok-Refused.report (ap seen c.in-Ok-Refused.field-0-is) c.in-Ok-Refused.ensures)

pub returns-in-Err-clause-reports : goal.returns-in-Err-clause-reports
returns-in-Err-clause-reports g t c =
    let run = code_report c.args.task.telling c.args.task.limits c.args.code in
    let rest = texts_among (map string_bytes (take (length c.args.options.now - 1) (drop 1 c.args.options.now))) in
    let arguments = c.args.arguments.items in
    let name = c.in-Some.name.now in
    same_reports _ _ _ _ _ _ (λ (names : List (List ℕ)). names) (λ names. with_inputs run arguments names) (name ∷ rest) (texts_among (map string_bytes c.args.options.now)) _
    (texts_of string_bytes c.args.options.now c.option-item.result c.as_str.result.now (Some name) c.in-len1-up.len_at_least c.option-item.is c.as_str.ensures.value c.in-Some.ensures)
    (stop_reports _ _ _ _ c.args.shelf.now c.input.new.shelf run arguments rest name c.in-Err.stop c.in-Err.ensures)
