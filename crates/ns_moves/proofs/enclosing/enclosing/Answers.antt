use Rattle.std.proofs.Common.{◌≡◌, suc, ◌+◌, ap, ◌∙◌, arith}
use Rattle.ns_world.specs.Heap.{find_cell, is_class, shape_at}
use Rattle.ns_moves.specs.Bodies.{Place, lexical, enclosing_place}
use Rattle.ns_moves.specs.Running.{code_of}
use Rattle.ns_moves.proofs.Levels.{level_there}
use Rattle.ns_moves.proofs.enclosing.enclosing.Goals as goal

pub around-at-requires : goal.around-at-requires
around-at-requires c =
    let heap = c.args.world.now.world.cells in
    let there = level_there c.args.code.now c.args.running.body c.args.level c.out._level (omega (arith, c.out-test.true)) c.requires.level in
    let place = c.enclosing_objects_are_there.ensures.levels c.args.world.now.world c.args.code.now (code_of c.args.running) c.out._level c.requires.lawful c.requires.running there in
    ap (λ (p : Place). is_class (find_cell heap p.holder)) c.out.invariant ∙ place.class

pub out-preserved : goal.out-preserved
out-preserved c =
    let heap = c.args.world.now.world.cells in
    let more : suc c.out._level ≡ c.out._level + 1 = omega arith in
    c.around-at.ensures
    ∙ (ap (λ (p : Place). enclosing_place (shape_at heap p.holder)) c.out.invariant
    ∙ ap (lexical heap c.args.running.me c.args.running.holder) more)
