use Rattle.std.proofs.Common.{refl}
use Rattle.ns_world.specs.Heap.{chain_of, superclass_of}
use Rattle.ns_world.specs.laws.Above.{goes_on}
use Rattle.ns_classes.specs.laws.Bounds.{lawful_small}
use Rattle.ns_mirror.proofs.Found.{along_here}
use Rattle.ns_mirror.proofs.slots.slot_along.Goals as goal

pub returns-in-Some : goal.returns-in-Some
returns-in-Some c =
    let heap = c.args.world.now.world.cells in
    let g = goes_on heap c.up.at c.requires.lawful.ordered (lawful_small c.args.world.now.world c.args.code.now c.requires.lawful) (c.up-test.ensures.class refl) in
    along_here heap c.args.code.now c.args.sel c.up.at (chain_of heap c.up.at) (chain_of heap (superclass_of heap c.up.at)) _ c.in-Some.place g.chain c.up.invariant.0 c.in-Some.ensures
