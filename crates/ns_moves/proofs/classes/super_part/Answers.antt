use Rattle.std.proofs.Common.{sym, ◌∙◌}
use Rattle.ns_moves.proofs.classes.super_part.Goals as goal

pub part_of-requires-clause-over : goal.part_of-requires-clause-over
part_of-requires-clause-over c = λ class is.
    c.superclasses_are_there.ensures c.args.world.now.world c.args.code.now c.args.running.holder class c.requires.lawful (sym c.superclass-over.ensures ∙ is)
