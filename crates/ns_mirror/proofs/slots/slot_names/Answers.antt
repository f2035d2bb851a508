use Rattle.std.proofs.Common.{◌≡◌, List, length, replicate, ap, ◌∙◌, arith}
use Rattle.ns_world.specs.declared.value.Value.{Value}
use Rattle.ns_world.specs.declared.value.Value.TheVariants.{Nil}
use Rattle.ns_world.specs.Cell.{ArrayCell}
use Rattle.ns_world.specs.Heap.{chain_of, is_chain_start}
use Rattle.ns_mirror.specs.Arrays.{listed}
use Rattle.ns_mirror.specs.Looking.{object_class}
use Rattle.ns_mirror.specs.Slots.{slot_names_along}
use Rattle.ns_mirror.proofs.Found.{class_starts}
use Rattle.ns_mirror.proofs.Listed.{new_array_is, array_finished}
use Rattle.ns_mirror.proofs.Names.{names_kept, start_kept}
use Rattle.ns_mirror.proofs.slots.slot_names.Goals as goal

pub slot_count-requires-clause-class : goal.slot_count-requires-clause-class
slot_count-requires-clause-class c =
    ap (is_chain_start c.args.world.now.world.cells) c.object_class-class.ensures ∙ class_starts c.args.world.now.world c.args.code.now c.args.object c.requires.lawful

pub put_names-requires-clause-class : goal.put_names-requires-clause-class
put_names-requires-clause-class c =
    let world = c.args.world.now.world in
    let class = c.object_class-class.result in
    let start = ap (is_chain_start world.cells) c.object_class-class.ensures ∙ class_starts world c.args.code.now c.args.object c.requires.lawful in
    let new = new_array_is c.args.world.now c.new_array.new.world _ c.in_ok-to.to c.in_ok-to.ensures in
    ap (λ cells. is_chain_start cells class) new.cells ∙ start_kept world c.args.code.now (ArrayCell (replicate c.slot_count.result Nil)) class c.requires.lawful start

pub put_names-requires-clause-inside : goal.put_names-requires-clause-inside
put_names-requires-clause-inside c =
    let world = c.args.world.now.world in
    let class = c.object_class-class.result in
    let start = ap (is_chain_start world.cells) c.object_class-class.ensures ∙ class_starts world c.args.code.now c.args.object c.requires.lawful in
    let new = new_array_is c.args.world.now c.new_array.new.world _ c.in_ok-to.to c.in_ok-to.ensures in
    let kept = ap (λ cells. slot_names_along cells c.args.code.now (chain_of cells class)) new.cells ∙ names_kept world c.args.code.now (ArrayCell (replicate c.slot_count.result Nil)) class c.requires.lawful start in
    omega (arith, ap length kept, new.size, c.slot_count.ensures)

pub returns : goal.returns
returns c =
    let world = c.args.world.now.world in
    let class = c.object_class-class.result in
    let mid = c.new_array.new.world in
    let to = c.in_ok-to.to in
    let start = ap (is_chain_start world.cells) c.object_class-class.ensures ∙ class_starts world c.args.code.now c.args.object c.requires.lawful in
    let new = new_array_is c.args.world.now mid _ to c.in_ok-to.ensures in
    let names : List Value = slot_names_along world.cells c.args.code.now (chain_of world.cells (object_class world.cells c.args.object)) in
    let same : slot_names_along world.cells c.args.code.now (chain_of world.cells class) ≡ names =
    ap (λ n. slot_names_along world.cells c.args.code.now (chain_of world.cells n)) c.object_class-class.ensures in
    let kept = ap (λ cells. slot_names_along cells c.args.code.now (chain_of cells class)) new.cells ∙ names_kept world c.args.code.now (ArrayCell (replicate c.slot_count.result Nil)) class c.requires.lawful start in
    let all : c.put_names.new.world ≡ listed mid to 0 names = c.put_names.ensures.world ∙ ap (listed mid to 0) (kept ∙ same) in
    array_finished c.args.world.now mid c.put_names.new.world names _ to (c.slot_count.ensures ∙ ap length same) all c.in_ok-to.ensures
