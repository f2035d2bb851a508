use Rattle.ns_moves.proofs.classes.keep.Goals as goal

pub nested_entry-entry-requires-clause-class : goal.nested_entry-entry-requires-clause-class
nested_entry-entry-requires-clause-class c =
    let has = c.nested_classes_can_be_kept.ensures.nested c.args.world.now.world.cells c.args.code.now c.args.object c.args.holder c.args.class c.requires.class in
    rw c.declaration.ensures has

pub word-at-requires-clause-entry : goal.word-at-requires-clause-entry
word-at-requires-clause-entry c =
    let within = c.nested_classes_can_be_kept.ensures.entry c.args.world.now.world.cells c.args.code.now c.args.object c.args.holder c.args.class c.requires.class in
    rw (c.nested_entry-entry.ensures, c.declaration.ensures) within

pub write-requires : goal.write-requires
write-requires c =
    let inside = c.nested_classes_can_be_kept.ensures.inside c.args.world.now.world c.args.code.now c.args.object c.args.holder c.args.class c.requires.lawful c.requires.class in
    rw (c.word-at.ensures, c.nested_entry-entry.ensures, c.declaration.ensures) inside
