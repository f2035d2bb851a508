use Rattle.ns_run.proofs.KeepLaws.{files_written}
use Rattle.ns_run.proofs.top.finish.Goals as goal

pub returns-in-Ok-clause-files : goal.returns-in-Ok-clause-files
returns-in-Ok-clause-files g c =
    files_written c.args.report.now c.write.result (g.S.Shelf.holds c.args.shelf.now) (g.S.Shelf.holds c.keep.new.shelf) c.requires c.write.ensures.status c.in-Ok.ensures.files
