use Rattle.ns_system.proofs.Taken.{loaded}
use Rattle.ns_system.proofs.files.load.Goals as goal

pub returns-clause-told : goal.returns-clause-told
returns-clause-told g c =
    loaded g.D.Reader.Read.remaining (g.D.Drive.kept c.args.drive.now) c.args.name.now c.args.most c.open.result c.read_opened.result c.open.ensures.told c.read_opened.ensures.told
