use Rattle.ns_world.specs.Layout.{declaration_of}
use Rattle.ns_find.proofs.Setters.{all_named}
use Rattle.ns_find.proofs.find.of_instance_side.Goals as goal

pub slots-requires-clause-named : goal.slots-requires-clause-named
slots-requires-clause-named c =
    rw c.as_slice.ensures
    (all_named c.args.code.now (declaration_of c.args.world.now.world.cells c.args.holder) c.args.declared.now c.requires.lawful.classes c.requires.declared)
