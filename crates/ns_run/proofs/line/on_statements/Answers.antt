use Rattle.std.proofs.Common.{List, ap, string_bytes, map, ◌∙◌, ◌∷◌, [], ℕ}
use Rattle.ns_run.proofs.line.on_statements.Goals as goal
use Rattle.ns_run.specs.Meaning.{of_statements}
use Rattle.ns_run_input.specs.Input.{run_of}
use Rattle.ns_run_outcome.specs.laws.Parts.{one_of, same_reports}

pub returns : goal.returns
returns g c =
    let run = run_of c.args.task in
    same_reports _ _ _ _ _ _ (λ (names : List (List ℕ)). run.inputs) (of_statements run c.args.lib) (c.as_str.result.now ∷ []) (map string_bytes c.args.names.now) c.on_eval.result
    (ap (λ name. name ∷ []) c.as_str.ensures.value ∙ one_of string_bytes c.args.names.now c.index-names-0.result c.requires.one c.index-names-0.is) c.on_eval.ensures
