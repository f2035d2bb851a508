use Rattle.std.proofs.Common.{◌≡◌, Some}
use Rattle.ns_world.specs.declared.value.Value.TheVariants.{Ref}
use Rattle.ns_world.specs.Cell.{Cell}
use Rattle.ns_world.specs.World.{made}
use Rattle.ns_classes.specs.Apply.{class_fault, class_cell}
use Rattle.ns_moves.proofs.Applying.{applied_made}
use Rattle.ns_moves.proofs.classes.newly_kept.Goals as goal

pub apply-requires-clause-enclosed : goal.apply-requires-clause-enclosed
apply-requires-clause-enclosed c =
    c.nested_classes_can_be_kept.ensures.enclosed c.args.world.now.world c.args.code.now c.args.object c.args.holder c.args.class c.requires.lawful c.requires.class

pub keep-requires-clause-class : goal.keep-requires-clause-class
keep-requires-clause-class c =
    let world = c.args.world.now.world in
    let after = c.apply.new.world.world in
    let cell : Cell = class_cell world.cells c.args.code.now c.args.class (Ref c.args.object) (Ref c.args.holder) c.args.over in
    let is : made world cell ≡ Some after = applied_made (class_fault world.cells c.args.over) c.args.world.now cell c.in-Ok.number c.apply.new.world c.in-Ok.ensures.applies in
    c.nested_classes_can_be_kept.ensures.stays world after c.args.code.now cell c.args.object c.args.holder c.args.class c.requires.lawful c.in-Ok.ensures.lawful is c.requires.class
