use Rattle.ns_world.specs.Layout.{declaration_of}
use Rattle.ns_classes.specs.laws.Entries.{nested_entry_within, entry_inside}
use Rattle.ns_classes.proofs.nested.nested.Goals as goal

pub read-requires : goal.read-requires
read-requires c =
    let within = nested_entry_within c.args.code.now (declaration_of c.args.world.now.world.cells c.args.holder) c.args.class c.requires.class in
    let inside = entry_inside c.args.world.now.world c.args.code.now c.args.object c.args.holder _ c.requires.lawful c.requires.object within in
    rw (c.kept_word.ensures) inside
