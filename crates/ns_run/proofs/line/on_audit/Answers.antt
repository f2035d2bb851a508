use Rattle.std.proofs.Common.{map, string_bytes, take}
use Rattle.ns_run.proofs.ImageLaws.{audit_reports}
use Rattle.ns_run.proofs.line.on_audit.Goals as goal
use Rattle.ns_run_words.specs.Options.{denied_by}

pub returns : goal.returns
returns g c =
    audit_reports _ _ _ _ _ _ string_bytes c.args.names.now c.index-names-1.result c.as_str-class.result.now (denied_by (map string_bytes c.args.options.now)) c.on_first.result c.requires.two c.index-names-1.is
    c.as_str-class.ensures.value c.on_first.ensures
