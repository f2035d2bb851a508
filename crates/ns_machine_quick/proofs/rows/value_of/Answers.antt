use Rattle.ns_machine_quick.proofs.Valued.{data_gives}
use Rattle.ns_machine_quick.proofs.rows.value_of.Goals as goal

pub returns-in-Some : goal.returns-in-Some
returns-in-Some c =
    rw c.in-Data.is
    (data_gives c.args.code.now c.args.world.now.world.cells c.in-Data.row c.args.receiver c.args.first c.in-Some.value c.in-Some.ensures)
