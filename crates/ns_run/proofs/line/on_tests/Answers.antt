use Rattle.std.proofs.Common.{Bor, List, map, option_map, string_bytes, ℕ}
use Rattle.ns_run.proofs.line.on_tests.Goals as goal
use Rattle.ns_run_files.specs.Programs.{of_texts}
use Rattle.ns_run_files.specs.Task.{Tests}
use Rattle.ns_run_outcome.specs.laws.Parts.{same_reports}
use Rattle.ns_run_words.specs.Options.{only_among}
use Rattle.ns_run_words.specs.Words.{limits_of}

pub returns : goal.returns
returns g c =
    let names = map string_bytes c.args.names.now in
    let options = map string_bytes c.args.options.now in
    let given = c.args.given in
    let only = option_map (λ (name : Bor (List ℕ)). name.now) c.only_among.result in
    same_reports _ _ _ _ _ _ (λ each. names) (λ each. of_texts (Tests (limits_of given) given.reverse each) names given.lib) only (only_among options) c.on_files.result c.only_among.ensures
    (same_reports _ _ _ _ _ _ (λ limits. names) (λ limits. of_texts (Tests limits given.reverse only) names given.lib) c.limits.result (limits_of given) c.on_files.result c.limits.ensures
    c.on_files.ensures)
