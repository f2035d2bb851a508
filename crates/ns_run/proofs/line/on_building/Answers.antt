use Rattle.std.proofs.Common.{string_bytes}
use Rattle.ns_run.proofs.PartLaws.{behind_reports}
use Rattle.ns_run.proofs.line.on_building.Goals as goal
use Rattle.ns_run_files.specs.Task.{Builds}

pub returns : goal.returns
returns g c =
    behind_reports _ _ _ _ _ _ Builds string_bytes c.args.lib c.args.names.now c.index-names-0.result c.as_str-image.result.now c.on_files.result c.requires
    c.index-names-0.is c.as_str-image.ensures.value c.on_files.ensures
