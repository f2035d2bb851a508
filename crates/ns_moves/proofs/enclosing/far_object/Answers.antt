use Rattle.std.proofs.Common.{◌-◌, ap, ◌∙◌, arith}
use Rattle.ns_moves.specs.Bodies.{Place}
use Rattle.ns_moves.specs.Running.{code_of}
use Rattle.ns_moves.proofs.Far.{classes_out, way_of_holders, class_inside, place_far_out}
use Rattle.ns_moves.proofs.enclosing.far_object.Goals as goal

pub way_out-inside-requires-clause-way : goal.way_out-inside-requires-clause-way
way_out-inside-requires-clause-way c =
    let world = c.args.world.now.world in
    let here = c.args.running in
    way_of_holders world.cells here.me here.holder (c.args.level - 1)
    (classes_out c.enclosing_objects_are_there.ensures.levels world c.args.code.now (code_of here) c.args.level c.requires.lawful c.requires.running c.requires.level (c.args.level - 1) (omega arith))

pub around-requires : goal.around-requires
around-requires c =
    let world = c.args.world.now.world in
    let here = c.args.running in
    class_inside world.cells here.me here.holder c.args.level c.way_out-inside.result
    (classes_out c.enclosing_objects_are_there.ensures.levels world c.args.code.now (code_of here) c.args.level c.requires.lawful c.requires.running c.requires.level c.args.level (omega arith))
    (omega (arith, c.requires.far)) c.way_out-inside.ensures.out

pub returns-clause-object : goal.returns-clause-object
returns-clause-object c site =
    let world = c.args.world.now.world in
    let here = c.args.running in
    ap (λ (p : Place). p.object) (c.around.ensures
    ∙ place_far_out world.cells here.me here.holder c.args.level c.way_out-inside.result
    (classes_out c.enclosing_objects_are_there.ensures.levels world c.args.code.now (code_of here) c.args.level c.requires.lawful c.requires.running c.requires.level c.args.level (omega arith))
    (omega (arith, c.requires.far)) c.way_out-inside.ensures.out)
