use Rattle.std.proofs.Common.{sym}
use Rattle.ns_kernel_rows.proofs.Mixing.{mixin_enclosed}
use Rattle.ns_kernel_rows.proofs.classes.mixed.Goals as goal

pub apply-requires-clause-enclosed : goal.apply-requires-clause-enclosed
apply-requires-clause-enclosed c =
    let at = c.in-Class in
    mixin_enclosed c.args.world.now.world c.args.code.now c.args.mixin at.decl at.base at.encl at.holder at.over c.requires.lawful (sym at.ensures)
