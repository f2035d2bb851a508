use Rattle.std.proofs.Common.{subst, sym}
use Rattle.ns_kdata.specs.Arguments.{CellIsThere}
use Rattle.ns_machine_frames.specs.declared.registers.Registers.{Registers}
use Rattle.ns_machine_quick.specs.Below.{receiver_below}
use Rattle.ns_machine_quick.proofs.Below.{below_kept}
use Rattle.ns_machine_quick.proofs.giving.other_apart.Goals as goal

pub is_block-requires : goal.is_block-requires
is_block-requires c =
    let at : Registers = record { next = c.args.next; top = c.args.top; base = c.args.base } in
    subst (CellIsThere c.args.core.now.run.world.world.cells) (sym c.receiver_below-receiver.ensures)
    (c.live_values_are_there.ensures c.args.core.now.run.world.world.cells c.args.code.now (receiver_below c.args.core.now at c.args.send.now.argc)
    c.requires.can.live)

pub returns : goal.returns
returns c =
    let at : Registers = record { next = c.args.next; top = c.args.top; base = c.args.base } in
    below_kept c.args.code.now c.args.core.now at c.args.send.now c.found_of-found.new.run c.found_of-found.ensures.rest c.do_other.new.core c.do_other.result c.do_other.ensures
