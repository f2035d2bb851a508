use Rattle.ns_moves.specs.Running.{code_of}
use Rattle.ns_moves.proofs.targets.send_private.Goals as goal

pub answered_by-requires-clause-receiver : goal.answered_by-requires-clause-receiver
answered_by-requires-clause-receiver c =
    let place = c.enclosing_objects_are_there.ensures.levels c.args.run.now.world.world c.args.code.now (code_of c.args.running) c.args.level c.requires.ready.lawful c.requires.running c.requires.level in
    rw (c.found_private-member.ensures.world, c.found_private-member.ensures.receiver) place.live

pub answered_by-requires-clause-suits : goal.answered_by-requires-clause-suits
answered_by-requires-clause-suits c =
    let suits = c.what_is_found_suits.ensures.private c.args.run.now.world.world c.args.code.now (code_of c.args.running) c.args.level c.args.sel.0 c.requires.ready.lawful c.requires.running c.requires.level in
    rw (c.found_private-member.ensures.world, c.found_private-member.ensures.found, c.found_private-member.ensures.receiver) suits
