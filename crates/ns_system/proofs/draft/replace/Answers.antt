use Rattle.std.proofs.Common.{subst}
use Rattle.ns_system.specs.Store.{IsStored, OfDrive}
use Rattle.ns_system.proofs.Finished.{finished}
use Rattle.ns_system.proofs.draft.replace.Goals as goal

pub returns-in-Ok-begin-clause-told : goal.returns-in-Ok-begin-clause-told
returns-in-Ok-begin-clause-told g c =
    let P = IsStored c.args.name.now c.args.bytes.now c.finish.result in
    subst (λ old. OfDrive P old (g.D.Drive.kept c.finish.new.drive)) c.names.invariant
    (finished P (g.D.Drive.kept c.names.drive) (g.D.Drive.kept c.begin.new.self) (g.D.Drive.kept c.finish.new.drive) c.as_str-beside.result.now
    (g.D.Draft.Outlet.written c.in-Ok-begin.draft) c.in-Ok-begin.ensures.begun c.in-Ok-begin.ensures.fresh c.finish.ensures.untold c.finish.ensures.told)
