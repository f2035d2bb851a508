use Rattle.std.proofs.Common.{subst, sym}
use Rattle.ns_world.specs.Lawful.{IsLiveValue}
use Rattle.ns_mirror.proofs.Reflecting.{mirrored_live}
use Rattle.ns_mirror.proofs.mirror.mirror.Goals as goal

pub row_outcome-requires-clause-value : goal.row_outcome-requires-clause-value
row_outcome-requires-clause-value c =
    subst (IsLiveValue c.args.world.now.world.cells c.args.code.now) (sym c.mirrored-value.ensures) (mirrored_live c.args.world.now.world c.args.code.now c.args.receiver c.requires.lawful)
