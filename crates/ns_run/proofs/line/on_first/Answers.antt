use Rattle.std.proofs.Common.{ap, string_bytes, map, ◌∙◌, ◌∷◌, []}
use Rattle.ns_run.proofs.line.on_first.Goals as goal
use Rattle.ns_run_image.specs.Image.{of_image, work_of}
use Rattle.ns_run_outcome.specs.laws.Parts.{one_of, same_reports}

pub returns : goal.returns
returns g c =
    same_reports _ _ _ _ _ _ (λ names. names) (of_image (work_of c.args.task)) (c.as_str.result.now ∷ []) (map string_bytes c.args.names.now) c.on_image.result
    (ap (λ name. name ∷ []) c.as_str.ensures.value ∙ one_of string_bytes c.args.names.now c.index-names-0.result c.requires c.index-names-0.is) c.on_image.ensures
