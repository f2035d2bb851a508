use Rattle.std.proofs.Common.{◌≡◌, false}
use Rattle.std.specs.Option.{is_some}
use Rattle.ns_run_files.proofs.GuardLaws.{same_guards}
use Rattle.ns_run_files.proofs.guard.guarded.Goals as goal

pub returns-else-is_some : goal.returns-else-is_some
returns-else-is_some g c =
    let none : is_some c.args.report.stored ≡ false = cc (c.is_some.ensures, c.if-is_some.false) in
    same_guards _ _ _ _ c.args.shelf.now c.args.name.now c.args.report none
