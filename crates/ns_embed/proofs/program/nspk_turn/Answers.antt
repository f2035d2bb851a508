use Rattle.ns_embed.proofs.program.nspk_turn.Goals as goal

pub returns-clause-no_fault : goal.returns-clause-no_fault
returns-clause-no_fault c =
    c.calls_end_without_fault.ensures.turn c.args.name c.args.steps c.args.program.now c.exit_code.result c.args.room.now c.host_turn.new.room c.host_turn.new.told
    (c.host_turn.result, c.exit_code.ensures, c.host_turn.ensures)
