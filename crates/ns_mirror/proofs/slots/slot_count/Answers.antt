use Rattle.std.proofs.Common.{◌≡◌, length, ap, ◌∙◌, arith}
use Rattle.ns_world.specs.Layout.{declaration_of}
use Rattle.ns_mirror.specs.Slots.{declared_slots}
use Rattle.ns_mirror.proofs.Names.{names_few, names_step_size}
use Rattle.ns_mirror.proofs.slots.slot_count.Goals as goal

pub overflow_add-count : goal.overflow_add-count
overflow_add-count c =
    omega (arith, names_few c.args.world.now.world c.args.code.now c.args.class c.requires.lawful c.requires.class, c.up.invariant.0, c.declared_slots.ensures.few)

pub up-preserved : goal.up-preserved
up-preserved c =
    let heap = c.args.world.now.world.cells in
    let own : length c.declared_slots.result.now ≡ length (declared_slots c.args.code.now (declaration_of heap c.up.at)) =
    ap length c.declared_slots.ensures.slots ∙ ap (λ decl. length (declared_slots c.args.code.now decl)) c.declaration.ensures in
    (omega (arith, c.up.invariant.0, own, names_step_size heap c.args.code.now c.up.at c.superclass-at.result c.superclass-at.ensures.chain), c.superclass-at.ensures.start)
