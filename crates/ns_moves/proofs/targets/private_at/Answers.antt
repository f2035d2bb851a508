use Rattle.std.proofs.Common.{ap, sym, ◌∙◌}
use Rattle.ns_world.specs.Heap.{find_cell, is_class}
use Rattle.ns_find.specs.Find.{found_private, side_of}
use Rattle.ns_moves.specs.Bodies.{Place, enclosing}
use Rattle.ns_moves.specs.Running.{code_of, nowhere}
use Rattle.ns_moves.proofs.targets.private_at.Goals as goal

pub find_private-found-requires-clause-holder : goal.find_private-found-requires-clause-holder
find_private-found-requires-clause-holder c =
    let heap = c.args.world.now.world.cells in
    let place = c.enclosing_objects_are_there.ensures.levels c.args.world.now.world c.args.code.now (code_of c.args.running) c.args.level c.requires.lawful c.requires.running c.requires.level in
    ap (λ (p : Place). is_class (find_cell heap p.holder)) (c.enclosing-place.ensures nowhere) ∙ place.class

pub returns-clause-found : goal.returns-clause-found
returns-clause-found c =
    let heap = c.args.world.now.world.cells in
    let code = c.args.code.now in
    c.find_private-found.ensures
    ∙ (ap (λ (p : Place). found_private heap code p.holder (side_of c.is_side_at-class_side.result) c.args.sel.0) (c.enclosing-place.ensures nowhere)
    ∙ ap (λ s. found_private heap code (enclosing heap (code_of c.args.running) c.args.level).holder s c.args.sel.0) (sym c.is_side_at-class_side.ensures))

pub returns-clause-receiver : goal.returns-clause-receiver
returns-clause-receiver c = ap (λ (p : Place). p.object) (c.enclosing-place.ensures nowhere)
