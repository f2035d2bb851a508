use Rattle.std.proofs.Common.{string_bytes}
use Rattle.ns_run.proofs.PartLaws.{replay_reports}
use Rattle.ns_run.proofs.line.on_replaying.Goals as goal

pub returns : goal.returns
returns g c =
    replay_reports _ _ _ _ _ _ string_bytes c.args.given c.limits-limits.result c.args.names.now c.split_at.result.0.now c.split_at.result.1.now c.on_files.result
    c.requires.file c.limits-limits.ensures c.split_at.ensures.front c.split_at.ensures.back c.on_files.ensures
