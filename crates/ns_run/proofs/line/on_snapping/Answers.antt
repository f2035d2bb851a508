use Rattle.std.proofs.Common.{ℕ, ◌-◌, List, drop, length, map, string_bytes, take}
use Rattle.ns_run.proofs.PartLaws.{behind_reports}
use Rattle.ns_run.proofs.line.on_snapping.Goals as goal
use Rattle.ns_run_files.specs.Programs.{of_texts}
use Rattle.ns_run_files.specs.Task.{Snaps}
use Rattle.ns_run_outcome.specs.laws.Parts.{same_reports}
use Rattle.ns_run_words.specs.Words.{at_of, limits_of}

pub returns : goal.returns
returns g c =
    let given = c.args.given in
    let name = c.as_str-name.result.now in
    let rest : List (List ℕ) = map string_bytes (take (length c.args.names.now - 1) (drop 1 c.args.names.now)) in
    behind_reports _ _ _ _ _ _ (λ (each : List ℕ). Snaps each (limits_of given) (at_of given)) string_bytes given.lib c.args.names.now c.index-names-0.result name c.on_files.result c.requires.behind
    c.index-names-0.is c.as_str-name.ensures.value
    (same_reports _ _ _ _ _ _ (λ limits. rest) (λ limits. of_texts (Snaps name limits (at_of given)) rest given.lib) c.limits-limits.result (limits_of given) c.on_files.result c.limits-limits.ensures
    (same_reports _ _ _ _ _ _ (λ at. rest) (λ at. of_texts (Snaps name c.limits-limits.result at) rest given.lib) c.at-at.result (at_of given) c.on_files.result c.at-at.ensures c.on_files.ensures))
