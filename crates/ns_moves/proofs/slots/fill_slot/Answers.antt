use Rattle.std.proofs.Common.{subst}
use Rattle.ns_world.specs.Layout.{declaration_of}
use Rattle.ns_world.specs.Lawful.{HasHolder}
use Rattle.ns_moves.proofs.Entries.{slot_entry}
use Rattle.ns_moves.proofs.slots.fill_slot.Goals as goal

pub store-requires : goal.store-requires
store-requires c = λ at is.
    let heap = c.args.world.now.world.cells in
    let has = subst (λ v. HasHolder heap v c.args.running.holder) is c.requires.slot.holder in
    let inside = slot_entry c.args.code.now (declaration_of heap c.args.running.holder) c.args.slot c.requires.slot.declared c.requires.slot.within in
    let open' = c.entries_are_inside.ensures.entries c.args.world.now.world c.args.code.now at c.args.running.holder c.args.slot c.requires.lawful has inside in
    rw (c.word-at.ensures, c.from.ensures) open'
