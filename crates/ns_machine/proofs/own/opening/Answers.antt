use Rattle.std.proofs.Common.{◌∙◌}
use Rattle.ns_machine.proofs.Opening.{count_is}
use Rattle.ns_machine.proofs.own.opening.Goals as goal

pub super_place-requires-clause-count : goal.super_place-requires-clause-count
super_place-requires-clause-count c =
    c.len.ensures
    ∙ count_is c.args.code.now c.as_slice-bodies.result.now c.initialiser-body.result c.index-bodies-body.result c.as_slice-bodies.ensures c.if-bodies-body.false
