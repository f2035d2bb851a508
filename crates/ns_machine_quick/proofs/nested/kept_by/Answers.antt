use Rattle.ns_machine_quick.proofs.Keeping.{class_there, kept_told}
use Rattle.ns_machine_quick.proofs.nested.kept_by.Goals as goal

pub nested-requires-clause-object : goal.nested-requires-clause-object
nested-requires-clause-object c =
    (class_there c.args.world.now.world.cells c.args.code.now c.args.receiver c.in-Ref.object c.args.holder c.args.class c.in-Ref.is c.requires.suits).object_has

pub nested-requires-clause-holder : goal.nested-requires-clause-holder
nested-requires-clause-holder c =
    (class_there c.args.world.now.world.cells c.args.code.now c.args.receiver c.in-Ref.object c.args.holder c.args.class c.in-Ref.is c.requires.suits).holder_is

pub nested-requires-clause-class : goal.nested-requires-clause-class
nested-requires-clause-class c =
    c.nested_classes_can_be_kept.ensures.nested c.args.world.now.world.cells c.args.code.now c.in-Ref.object c.args.holder c.args.class
    (class_there c.args.world.now.world.cells c.args.code.now c.args.receiver c.in-Ref.object c.args.holder c.args.class c.in-Ref.is c.requires.suits)

pub returns-in-Ref : goal.returns-in-Ref
returns-in-Ref c =
    kept_told c.args.world.now.world.cells c.args.code.now c.args.receiver c.in-Ref.object c.args.holder c.args.class c.nested.result c.in-Ref.is c.nested.ensures
