use Rattle.ns_world.specs.Layout.{declaration_of}
use Rattle.ns_classes.specs.laws.Entries.{nested_entry_within}
use Rattle.ns_classes.proofs.nested.kept_word.Goals as goal

pub word-requires-clause-entry : goal.word-requires-clause-entry
word-requires-clause-entry c =
    let within = nested_entry_within c.args.code.now (declaration_of c.args.world.now.world.cells c.args.holder) c.args.class c.requires.class in
    rw (c.nested_entry-entry.ensures, c.declaration.ensures) within
