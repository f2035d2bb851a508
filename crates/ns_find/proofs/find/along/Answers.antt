use Rattle.std.proofs.Common.{refl, ◌∙◌}
use Rattle.ns_world.specs.Heap.{chain_of, superclass_of}
use Rattle.ns_world.specs.laws.Above.{goes_on}
use Rattle.ns_classes.specs.laws.Bounds.{lawful_small}
use Rattle.ns_find.proofs.Parts.{along_here, along_past}
use Rattle.ns_find.proofs.find.along.Goals as goal

pub up-init : goal.up-init
up-init c =
    let cells = c.args.world.now.world.cells in
    let none = c.stop_at_declaring.ensures.passed cells c.args.asked.kind in
    (c.next_stop-at.ensures.same c.args.code.now c.args.side c.args.asked.sel.0 c.args.asked.kind none, c.next_stop-at.ensures.start, none)

pub returns-in-Some : goal.returns-in-Some
returns-in-Some c =
    let g = goes_on c.args.world.now.world.cells c.up.at c.requires.lawful.ordered (lawful_small c.args.world.now.world c.args.code.now c.requires.lawful) (c.up-test.ensures.class refl) in
    along_here c.args.world.now.world.cells c.args.code.now c.args.asked.sel.0 c.args.asked.kind c.args.asked.wanted c.args.side c.up.at (chain_of c.args.world.now.world.cells c.up.at) (chain_of c.args.world.now.world.cells (superclass_of c.args.world.now.world.cells c.up.at)) _ c.in-Some.found c.requires.visible g.chain c.up.invariant.0 c.in-Some.ensures

pub up-preserved : goal.up-preserved
up-preserved c =
    let cells = c.args.world.now.world.cells in
    let code = c.args.code.now in
    let sel = c.args.asked.sel.0 in
    let kind = c.args.asked.kind in (
      c.next_stop-at-in-None.ensures.same code c.args.side sel kind c.up.invariant.2
          ∙ along_past cells code sel kind c.args.asked.wanted c.args.side c.up.at (chain_of cells c.up.at) (chain_of cells c.superclass.result) _ c.requires.visible
          c.superclass.ensures.chain c.up.invariant.0 c.in-None.ensures,
      c.next_stop-at-in-None.ensures.start,
      c.up.invariant.2,
    )
