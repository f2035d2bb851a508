use Rattle.std.proofs.Common.{ap, ◌∙◌}
use Rattle.ns_world.specs.Heap.{chain_of, is_chain_start}
use Rattle.ns_mirror.specs.Looking.{object_class}
use Rattle.ns_mirror.specs.Slots.{slot_along}
use Rattle.ns_mirror.proofs.Found.{class_starts, open_inside, word_inside}
use Rattle.ns_mirror.proofs.slots.slot_of.Goals as goal

pub slot_along-requires-clause-class : goal.slot_along-requires-clause-class
slot_along-requires-clause-class c =
    ap (is_chain_start c.args.world.now.world.cells) c.object_class.ensures ∙ class_starts c.args.world.now.world c.args.code.now c.args.object c.requires.lawful

pub returns-clause-inside : goal.returns-clause-inside
returns-clause-inside c = λ at e.
    let heap = c.args.world.now.world.cells in
    open_inside c.args.world.now.world c.args.code.now at c.args.sel c.slot_along.result c.requires.lawful
    (c.slot_along.ensures ∙ ap (λ n. slot_along heap c.args.code.now (chain_of heap n) c.args.sel) (c.object_class.ensures ∙ ap (object_class heap) e))

pub returns-clause-within : goal.returns-clause-within
returns-clause-within c = λ at e.
    let heap = c.args.world.now.world.cells in
    word_inside c.args.world.now.world c.args.code.now at c.args.sel c.slot_along.result c.requires.lawful
    (c.slot_along.ensures ∙ ap (λ n. slot_along heap c.args.code.now (chain_of heap n) c.args.sel) (c.object_class.ensures ∙ ap (object_class heap) e))
