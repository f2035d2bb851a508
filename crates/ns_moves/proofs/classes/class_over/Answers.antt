use Rattle.ns_moves.proofs.classes.class_over.Goals as goal

pub nested-requires-clause-class : goal.nested-requires-clause-class
nested-requires-clause-class c =
    c.nested_classes_can_be_kept.ensures.nested c.args.world.now.world.cells c.args.code.now c.args.object c.args.holder c.args.class c.requires.class
