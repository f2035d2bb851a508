use Rattle.std.proofs.Common.{map, string_bytes, subst, sym}
use Rattle.ns_run.proofs.line.on_build_line.Goals as goal
use Rattle.ns_run.specs.Meaning.{files_built, of_build_line, sources_of}
use Rattle.ns_run_outcome.specs.laws.Parts.{same_reports}
use Rattle.ns_run_words.specs.Forms.{AreFiles}

pub on_build_to-requires : goal.on_build_to-requires
on_build_to-requires g c = subst (λ image. AreFiles (sources_of image (map string_bytes c.args.names.now))) (sym c.in-Some.ensures) c.requires

pub on_building-requires : goal.on_building-requires
on_building-requires g c = subst (λ image. AreFiles (sources_of image (map string_bytes c.args.names.now))) (sym c.in-None.ensures) c.requires

pub returns-in-Some : goal.returns-in-Some
returns-in-Some g c =
    let names = map string_bytes c.args.names.now in
    same_reports _ _ _ _ _ _ (λ image. files_built image names) (λ image. of_build_line c.args.lib image names) _ _ c.on_build_to.result c.in-Some.ensures c.on_build_to.ensures

pub returns-in-None : goal.returns-in-None
returns-in-None g c =
    let names = map string_bytes c.args.names.now in
    same_reports _ _ _ _ _ _ (λ image. files_built image names) (λ image. of_build_line c.args.lib image names) _ _ c.on_building.result c.in-None.ensures c.on_building.ensures
