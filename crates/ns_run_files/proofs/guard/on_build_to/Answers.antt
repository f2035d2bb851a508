use Rattle.std.proofs.Common.{map, string_bytes}
use Rattle.ns_run_files.proofs.GuardLaws.{guarded_reports, stopped_reports}
use Rattle.ns_run_files.proofs.guard.on_build_to.Goals as goal

pub returns-in-Ok : goal.returns-in-Ok
returns-in-Ok g c =
    guarded_reports _ _ _ _ c.args.lib c.args.image.now (map string_bytes c.args.names.now) c.args.shelf.now c.on_named.new.shelf c.guarded.new.shelf c.in-Ok.report c.guarded.result c.in-Ok.ensures.reports
    c.in-Ok.ensures.missing c.guarded.ensures

pub returns-in-Err : goal.returns-in-Err
returns-in-Err g c =
    stopped_reports _ _ _ _ c.args.lib c.args.image.now (map string_bytes c.args.names.now) c.args.shelf.now c.on_named.new.shelf c.in-Err.stop c.in-Err.ensures.reports
