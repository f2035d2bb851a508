use Rattle.ns_moves.specs.Running.{code_of}
use Rattle.ns_moves.proofs.targets.send_super.Goals as goal

pub answered_by-requires-clause-receiver : goal.answered_by-requires-clause-receiver
answered_by-requires-clause-receiver c = rw c.found_above-found.ensures.world c.requires.running.live

pub answered_by-requires-clause-suits : goal.answered_by-requires-clause-suits
answered_by-requires-clause-suits c =
    let suits = c.what_is_found_suits.ensures.above c.args.run.now.world.world c.args.code.now (code_of c.args.running) c.args.sel.0 c.requires.ready.lawful c.requires.running in
    rw (c.found_above-found.ensures.world, c.found_above-found.ensures.found) suits
